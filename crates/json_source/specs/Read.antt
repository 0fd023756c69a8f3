-- Reading JSON data: one member, and what a reader answers.
use Rattle.std.specs.Prelude.{◌≡◌, ℕ, ◌&&◌, Bool, true, false, List, [], ◌∷◌, Option, Some}
use Rattle.std.specs.Prelude.{None, Result, Ok, Err, ⊤, map}
use Rattle.std.specs.Borrow.{Bor}
use Rattle.std.specs.Option.{option_map, option_and_then, option_map_or}
use Rattle.serde_json.specs.Data.{Data, Members, no_members, member}
use Rattle.serde_json.specs.Find.{get, as_str, as_number, as_u64, as_object}
use Rattle.ticket_items.specs.Attrs.{Pairs}
use Rattle.ticket_items.specs.Ids.{mem}
use Rattle.ticket_items.specs.declared.refusal.Refusal.{Refusal}
use Rattle.ticket_items.specs.declared.refusal.Refusal.TheVariants.{Memory, NotProfile}

-- ---- one step after another

infixl 10 ◌>>=◌
abbrev pub ◌>>=◌ : {A B : Type 0} → Option A → (A → Option B) → Option B
None >>= f = None
(Some x) >>= f = f x

-- nothing, where the test fails
abbrev pub some_if : Bool → Option ⊤
some_if true = Some tt
some_if false = None

-- ---- members

-- whether each member is one of these
abbrev pub are_among : List (List ℕ) → Members → Bool
are_among names no_members = true
are_among names (member k d ms) = mem k names && are_among names ms

-- whether it is an object with no other members than these
abbrev pub has_only : List (List ℕ) → Data → Bool
has_only names d = option_map_or (are_among names) (as_object d) false

-- the text under a name
abbrev pub text_under : List ℕ → Data → Option (List ℕ)
text_under name d = option_and_then as_str (get name d)

-- the whole number that data is
abbrev pub number_of : Data → Option ℕ
number_of d = option_and_then as_u64 (as_number d)

-- the whole number under a name
abbrev pub number_under : List ℕ → Data → Option ℕ
number_under name d = option_and_then as_u64 (option_and_then as_number (get name d))

-- the pairs of an object of texts, in the byte order of its names
abbrev pub text_pairs : Members → Option Pairs
text_pairs no_members = Some []
text_pairs (member k d ms) = as_str d >>= λ s. option_map (λ ps. (k, s) ∷ ps) (text_pairs ms)

-- an object of texts
abbrev pub attrs_form : Data → Option Pairs
attrs_form d = option_and_then text_pairs (as_object d)

-- an object of texts, empty where it is absent
abbrev pub attrs_of : Option Data → Option Pairs
attrs_of found = option_map_or attrs_form found (Some [])

-- ---- what a reader answers

-- the value, seen by view, that there is; or why there is none, unless memory ran out
abbrev pub Fails : {Y : Type 0} → Refusal → Option Y → Type 0
Fails Memory read = Unit {0}
Fails NotProfile read = read ≡ None
Fails e read = ⊥

abbrev pub Gives : {X Y : Type 0} → (X → Y) → Result X Refusal → Option Y → Type 0
Gives view (Ok x) read = read ≡ Some (view x)
Gives view (Err e) read = Fails e read

-- ---- texts that are lent

-- pairs of names and texts, each lent
abbrev pub lent_pairs : List (Bor (List ℕ) × Bor (List ℕ)) → Pairs
lent_pairs pairs = map (λ p. (p.0.now, p.1.now)) pairs
