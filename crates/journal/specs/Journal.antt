-- What a journal holds behind lines that are appended.
use Rattle.std.specs.Prelude.{◌≡◌, ◌⊎◌, ℕ, ◌-◌, ◌==◌, Bool, true, false, not, List, ◌∷◌, ◌++◌, length}
use Rattle.std.specs.Prelude.{Option, Some, None, Result, Ok, Err, slice_get, if◌then◌else◌}
use Rattle.ticket_items.specs.declared.refusal.Refusal.{Refusal}
use Rattle.world_items.specs.declared.reply.Reply.{Reply}

-- whether a last byte ends no line
abbrev pub is_open : Option ℕ → Bool
is_open None = false
is_open (Some b) = not (b == 10)

-- whether the last line of a text has no end
abbrev pub lacks_end : List ℕ → Bool
lacks_end held = is_open (slice_get held (length held - 1))

-- lines as they are appended to what is held: where that lacks an end it gets one first
abbrev pub behind : List ℕ → List ℕ → List ℕ
behind held lines = if lacks_end held then 10 ∷ lines else lines

-- the lines stand behind what was held
pub record IsAppended {J : Type 0} (held : J → List ℕ) (is_missed : J → Bool) (lines : List ℕ)
    (old new : J) : Type 0 where
  pub holds : held new ≡ held old ++ behind (held old) lines
  pub missed : is_missed new ≡ is_missed old

-- they don't, or only a front of them does, and it is missed
pub record IsMissed {J : Type 0} (held : J → List ℕ) (is_missed : J → Bool) (lines : List ℕ)
    (old new : J) : Type 0 where
  pub front : List ℕ
  pub rest : List ℕ
  pub parts : front ++ rest ≡ behind (held old) lines
  pub holds : held new ≡ held old ++ front
  pub missed : is_missed new ≡ true

-- nothing is appended, and it is missed
pub record Misses {J : Type 0} (held : J → List ℕ) (is_missed : J → Bool) (old new : J) : Type 0 where
  pub holds : held new ≡ held old
  pub missed : is_missed new ≡ true

-- nothing is appended, and nothing was to be
pub record IsLeft {J : Type 0} (held : J → List ℕ) (is_missed : J → Bool) (old new : J) : Type 0 where
  pub holds : held new ≡ held old
  pub missed : is_missed new ≡ is_missed old

-- such lines are appended, or are missed, or weren't made for want of memory
abbrev pub IsWritten : {J : Type 0} → (J → List ℕ) → (J → Bool) → (List ℕ → Type 0) → J → J → Type 0
IsWritten held is_missed AreLines old new =
    ((lines : List ℕ) × AreLines lines
    × (IsAppended held is_missed lines old new ⊎ IsMissed held is_missed lines old new))
    ⊎ Misses held is_missed old new

-- behind a step that was saved stands the line of what was replied; a step that was refused leaves
-- the journal as it was
abbrev pub IsJournaled : {J : Type 0} → (J → List ℕ) → (J → Bool) → (Reply → List ℕ → Type 0)
    → Result Reply Refusal → J → J → Type 0
IsJournaled held is_missed IsLine (Ok reply) old new = IsWritten held is_missed (IsLine reply) old new
IsJournaled held is_missed IsLine (Err e) old new = IsLeft held is_missed old new
