-- The things that were ever out, by their numbers, and for which destination each is.
use Rattle.std.specs.Prelude.{◌≡◌, ℕ, ◌==◌, Bool, ◌&&◌, List, [], ◌∷◌, ◌++◌, slice_get}
use Rattle.std.specs.Prelude.{Option, Some, is_some, IsSome, false, if◌then◌else◌}
use Rattle.std.specs.Map.{keys_of, lookup}
use Rattle.deliveries.specs.declared.thing.Thing.{Thing}

-- each thing, once, with the number of its destination: a thing's own number is its place
abbrev pub Routes : Type 0
Routes = List (Thing × ℕ)

abbrev pub is_thing : Thing → Thing → Bool
is_thing a b = a.controller == b.controller && a.spawn == b.spawn

-- the thing of a number
abbrev pub thing_at : Routes → ℕ → Option Thing
thing_at routes item = slice_get (keys_of routes) item

-- for which destination a thing is
abbrev pub line_of : Routes → Thing → Option ℕ
line_of routes thing = lookup (is_thing thing) routes

-- with a thing behind the others, unless it is there
abbrev pub with_thing : Thing → ℕ → Routes → Routes
with_thing thing line routes =
    if is_some (line_of routes thing) then routes else routes ++ (thing, line) ∷ []

-- the same things, of which one is for this destination
pub record IsRedirected (thing : Thing) (to : ℕ) (old new : Routes) : Type 0 where
  pub things : keys_of new ≡ keys_of old
  pub line : IsSome (line_of old thing) → line_of new thing ≡ Some to
  pub others : (t : Thing) → is_thing thing t ≡ false → line_of new t ≡ line_of old t
