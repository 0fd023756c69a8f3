-- A file and its draft on a disk: what is seen of them, what a crash may leave, and what each call
-- does to that. A draft is written beside the file, and then takes its name.
use Rattle.std.specs.Prelude.{◌≡◌, ◌⊎◌, ℕ, ◌≤◌, ◌++◌, List, [], Bool, true, false, ⊤}
use Rattle.std.specs.Prelude.{Option, Some, None, Result, IfOk, OnOk, IsErrOf}
use Rattle.std.specs.Global.{Vec}
use Rattle.keepers.specs.Crash.{IsWithin, Only}
use Rattle.keepers.specs.Keeper.{CountRose}
use Rattle.keepers.specs.declared.keep_fault.KeepFault.{KeepFault}
use Rattle.keepers.specs.declared.keep_fault.KeepFault.TheVariants.{Failed}

pub record View : Type 1 where
  -- what a read gives; none where there is no file
  pub file : Option (List ℕ)
  -- what a crash at this moment may leave under the file's name
  pub may_leave : Option (List ℕ) → Type 0
  -- what was written to the draft
  pub draft : List ℕ
  -- what a crash at this moment may leave in the draft, whatever name it has
  pub may_hold : List ℕ → Type 0
  -- the draft was given the file's name
  pub is_placed : Bool
  -- no call on the draft failed
  pub is_sound : Bool
  -- nothing has the draft's name
  pub is_free : Bool

-- a file that is there, of bytes of these
abbrev pub IsOf : (List ℕ → Type 0) → Option (List ℕ) → Type 0
IsOf holds (Some bytes) = holds bytes
IsOf holds None = ⊥

-- the file is seen as before, and a crash leaves nothing that it could not have left before
pub record KeepsFile (old new : View) : Type 0 where
  pub file : new.file ≡ old.file
  pub crash : IsWithin new.may_leave old.may_leave

-- the same of the draft
pub record KeepsDraft (old new : View) : Type 0 where
  pub draft : new.draft ≡ old.draft
  pub crash : IsWithin new.may_hold old.may_hold

-- a read of the file
pub record Reads (old new : View) (result : Result (Vec ℕ) KeepFault) : Type 0 where
  pub value : IfOk result (λ v. old.file ≡ Some v.items)
  pub file : KeepsFile old new

-- a removal of what has the draft's name: the draft may have the file's name then
pub record Clears (old new : View) (result : Result ⊤ KeepFault) : Type 0 where
  pub file : KeepsFile old new
  pub draft : KeepsDraft old new
  pub is_placed : new.is_placed ≡ old.is_placed
  pub is_free : OnOk result (new.is_free ≡ true)

-- a new draft, of no bytes, under a name that was free
pub record Makes (old new : View) (result : Result ⊤ KeepFault) : Type 0 where
  pub file : KeepsFile old new
  pub draft : OnOk result (new.draft ≡ [])
  pub is_placed : OnOk result (new.is_placed ≡ false)
  pub is_sound : OnOk result (new.is_sound ≡ true)

-- bytes written to the end of the draft: until it is synced, a crash may leave anything in it.
-- Of a file whose name the draft has nothing is known then
pub record Writes (old : View) (bytes : List ℕ) (new : View) (result : Result ⊤ KeepFault)
    : Type 0 where
  pub file : old.is_placed ≡ false → KeepsFile old new
  pub draft : OnOk result (new.draft ≡ old.draft ++ bytes)
  pub is_placed : new.is_placed ≡ old.is_placed
  pub is_sound : OnOk result (new.is_sound ≡ old.is_sound)

-- a sync of the draft: a crash leaves what was written to it, unless a call on it failed before
pub record Syncs (old new : View) (result : Result ⊤ KeepFault) : Type 0 where
  pub file : KeepsFile old new
  pub draft : KeepsDraft old new
  pub is_placed : new.is_placed ≡ old.is_placed
  pub is_sound : OnOk result (new.is_sound ≡ old.is_sound)
  pub durable : OnOk result (old.is_sound ≡ true → Only old.draft new.may_hold)

-- the draft is given the file's name: until the folder is synced, a crash leaves what it could have
-- left before, or what it may leave in the draft
pub record Places (old new : View) (result : Result ⊤ KeepFault) : Type 0 where
  pub ok : OnOk result ((new.file ≡ Some old.draft) × (new.is_placed ≡ true))
  pub file : (new.file ≡ old.file) ⊎ (new.file ≡ Some old.draft)
  pub crash : IsWithin new.may_leave (λ c. old.may_leave c ⊎ IsOf old.may_hold c)
  pub draft : KeepsDraft old new

-- the same, where no file was there
pub record Links (old new : View) (result : Result ⊤ KeepFault) : Type 0 where
  pub places : Places old new result
  pub none : OnOk result (old.file ≡ None)

-- a sync of the folder: a crash leaves the draft under the file's name, if it was given that
pub record SyncsFolder (old new : View) (result : Result ⊤ KeepFault) : Type 0 where
  pub file : new.file ≡ old.file
  pub crash : IsWithin new.may_leave
      (λ c. old.may_leave c ⊎ ((old.is_placed ≡ true) × IsOf old.may_hold c))
  pub durable : OnOk result (old.is_placed ≡ true → IsWithin new.may_leave (IsOf old.may_hold))

-- the number of failures before and after a call: it doesn't fall, and a call that fails raises it,
-- unless it is the greatest
pub record HasCause {A : Type 0} (old new : ℕ) (result : Result A KeepFault) : Type 0 where
  pub kept : old ≤ new
  pub raised : IsErrOf result Failed → CountRose old new
