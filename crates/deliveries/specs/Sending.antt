-- What a look puts in the lines, and what is given next.
use Rattle.std.specs.Prelude.{◌≡◌, ℕ, Bool, false, List, [], ◌∷◌, map, fold}
use Rattle.std.specs.Prelude.{Option, Some, None, All, filter, ⊤}
use Rattle.courier.specs.Destination.{Destination}
use Rattle.courier.specs.declared.flight.Flight.{Flight}
use Rattle.courier.specs.Runs.{Step, Give, Withdraw, IsRun, after_all}
use Rattle.courier.specs.Table.{IsNextOrQuiet, after_next, put}
use Rattle.deliveries.specs.declared.thing.Thing.{Thing}
use Rattle.deliveries.specs.declared.flight.Flight as given
use Rattle.deliveries.specs.Ledger.{due_thing, is_waiting}
use Rattle.deliveries.specs.Outbox.{Outbox, SpawnDestinations, progress_in, seen_again}
use Rattle.deliveries.specs.Routes.{Routes, is_thing, line_of, thing_at}

-- ---- what is put

-- items with the numbers of their destinations
abbrev pub Puts : Type 0
Puts = List (ℕ × ℕ)

abbrev pub all_put : List Destination → Puts → List Destination
all_put ds puts = fold (λ ds p. put p.0 ds p.1) ds puts

-- a spawn that is told waits behind the look
abbrev pub waits_again : Outbox → ℕ × ℕ → Bool
waits_again box told = is_waiting (Some (seen_again (progress_in box told.0)))

abbrev pub thing_of : ℕ → ℕ × ℕ → Thing
thing_of controller told = record { controller = controller; spawn = told.0 }

-- what was put is what waits of what is told, one behind the other
pub record IsPut (controller : ℕ) (box : Outbox) (out : SpawnDestinations) (old : List Destination) (routes : Routes) (new : List Destination) : Type 0 where
  pub puts : Puts
  pub things : map (λ p. thing_at routes p.0) puts
      ≡ map (λ o. Some (thing_of controller o)) (filter (waits_again box) out)
  pub after : new ≡ all_put old puts

-- one thing is known, and for this destination; the others stay what they are
pub record IsKnown (one : Thing) (to : ℕ) (old new : Routes) : Type 0 where
  pub line : line_of new one ≡ Some to
  pub lines : (t : Thing) → is_thing one t ≡ false → line_of new t ≡ line_of old t
  pub things : (item : ℕ) (t : Thing) → thing_at old item ≡ Some t → thing_at new item ≡ Some t

-- ---- what is given

-- what the courier gave and took back, since it doesn't wait
abbrev pub passes : ℕ → List Flight → List Step
passes now [] = []
passes now (f ∷ fs) = Give now f ∷ Withdraw f.line ∷ passes now fs

-- what the courier gave at the end is what is given
abbrev pub IsOf : Routes → List Outbox → Option Flight → Option given.Flight → Type 0
IsOf routes boxes None None = ⊤
IsOf routes boxes None (Some flight) = ⊥
IsOf routes boxes (Some f) None = ⊥
IsOf routes boxes (Some f) (Some flight) =
    (f.line ≡ flight.line)
    × (due_thing routes boxes f ≡ Some (record { controller = flight.controller; spawn = flight.spawn }))

pub record IsGiven (now : ℕ) (routes : Routes) (boxes : List Outbox) (old new : List Destination) (result : Option given.Flight) : Type 0 where
  pub passed : List Flight
  pub idle : All (λ f. due_thing routes boxes f ≡ None) passed
  pub run : IsRun old (passes now passed)
  pub found : Option Flight
  pub next : IsNextOrQuiet now (after_all old (passes now passed)) found
  pub after : new ≡ after_next (after_all old (passes now passed)) found
  pub its : IsOf routes boxes found result
