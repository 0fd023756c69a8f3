-- A file saved whole: what is seen of it then, and what a crash leaves.
use Rattle.std.specs.Prelude.{◌≡◌, ◌⊎◌, ℕ, List, [], true, false, ⊤}
use Rattle.std.specs.Prelude.{Option, Some, Result, Ok, Err, OnOk}
use Rattle.keepers.specs.Crash.{Only}
use Rattle.keepers.specs.Disk.{KeepsFile, View}
use Rattle.keepers.specs.declared.keep_fault.KeepFault.{KeepFault}

-- one of these, or a file of the new bytes, whole
abbrev pub IsOldOrNew : (Option (List ℕ) → Type 0) → List ℕ → Option (List ℕ) → Type 0
IsOldOrNew old bytes c = old c ⊎ (c ≡ Some bytes)

-- after a save the file has the new bytes, and each crash leaves them; after one that failed it has
-- the old or the new
abbrev pub SavesFile : View → List ℕ → View → Result ⊤ KeepFault → Type 0
SavesFile old bytes new (Ok done) = (new.file ≡ Some bytes) × Only (Some bytes) new.may_leave
SavesFile old bytes new (Err fault) = (new.file ≡ old.file) ⊎ (new.file ≡ Some bytes)

-- a new draft, to which nothing was written
pub record IsEmptyDraft (v : View) : Type 0 where
  pub draft : v.draft ≡ []
  pub is_placed : v.is_placed ≡ false
  pub is_sound : v.is_sound ≡ true

-- a draft of these bytes that no crash changes, and the file as before
pub record Drafts (old : View) (bytes : List ℕ) (new : View) (result : Result ⊤ KeepFault)
    : Type 0 where
  pub file : KeepsFile old new
  pub draft : OnOk result (new.draft ≡ bytes)
  pub durable : OnOk result (Only bytes new.may_hold)
