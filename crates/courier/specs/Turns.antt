-- The turns of those destinations that wait.
use Rattle.std.specs.Prelude.{◌≡◌, ℕ, ◌+◌, ◌≤◌, ◌<◌, ◌==◌, Bool, ◌&&◌, if◌then◌else◌}
use Rattle.std.specs.Prelude.{List, length, count_by, Option, Some, None}
use Rattle.std.specs.Ordering.{nat_cmp, ordering_then}
use Rattle.std.specs.declared.cmp.Ordering.{Ordering}
use Rattle.courier.specs.declared.turn.Turn.{Turn}

-- the turns, in no order, and for how many there is room
pub record Turns : Type 0 where
  pub turns : List Turn
  pub room : ℕ

-- by when they are due, and then by the number of the destination
abbrev pub turn_cmp : Turn → Turn → Ordering
turn_cmp a b = ordering_then (nat_cmp a.due b.due) (nat_cmp a.line b.line)

abbrev pub is_turn : Turn → Turn → Bool
is_turn a b = (b.line == a.line) && (b.due == a.due)

-- how often a turn is there
abbrev pub times : Turn → List Turn → ℕ
times turn turns = count_by (is_turn turn) turns

abbrev pub one_if : Bool → ℕ
one_if b = if b then 1 else 0

-- it comes no later, and of two at the same moment has the lower number
pub record IsBefore (a b : Turn) : Type 0 where
  pub due : a.due ≤ b.due
  pub tie : a.due ≡ b.due → a.line ≤ b.line

-- it comes before all that are there
abbrev pub IsFirst : Turn → List Turn → Type 0
IsFirst turn turns = (other : Turn) → 0 < times other turns → IsBefore turn other

-- it comes to the others, if it is to
pub record Joins (on : Bool) (turn : Turn) (old new : Turns) : Type 0 where
  pub counted : (q : Turn) → times q new.turns ≡ times q old.turns + one_if (on && is_turn q turn)
  pub more : length new.turns ≡ length old.turns + one_if on
  pub kept : old.room ≤ new.room

-- it goes from the others
pub record Leaves (turn : Turn) (old new : Turns) : Type 0 where
  pub counted : (q : Turn) → times q old.turns ≡ times q new.turns + one_if (is_turn q turn)
  pub less : length old.turns ≡ length new.turns + 1
  pub kept : old.room ≤ new.room

-- it goes from the others, and comes to them at this moment
pub record IsMoved (turn : Turn) (due : ℕ) (old new : Turns) : Type 0 where
  pub counted : (q : Turn) → times q new.turns + one_if (is_turn q turn)
      ≡ times q old.turns + one_if (is_turn q (record { due = due; line = turn.line }))
  pub many : length new.turns ≡ length old.turns
  pub kept : old.room ≤ new.room

-- the first of them goes, whose moment has come
pub record IsTaken (now : ℕ) (turn : Turn) (old new : Turns) : Type 0 where
  pub come : turn.due ≤ now
  pub there : 0 < times turn old.turns
  pub first : IsFirst turn old.turns
  pub leaves : Leaves turn old new

-- none has come, and all stay
pub record NoneIsDue (now : ℕ) (old new : Turns) : Type 0 where
  pub later : (turn : Turn) → 0 < times turn old.turns → now < turn.due
  pub same : new ≡ old

abbrev pub TakesDue : ℕ → Turns → Turns → Option Turn → Type 0
TakesDue now old new None = NoneIsDue now old new
TakesDue now old new (Some turn) = IsTaken now turn old new

-- the first, if there is one
abbrev pub IsFirstOfAll : List Turn → Option Turn → Type 0
IsFirstOfAll turns None = (turn : Turn) → times turn turns ≡ 0
IsFirstOfAll turns (Some turn) = (0 < times turn turns) × IsFirst turn turns
