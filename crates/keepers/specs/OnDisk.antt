-- A file on the system's disk, as far as anything is known of it.
use Rattle.std.specs.Prelude.{ℕ, List, None, [], Bool, false}
use Rattle.keepers.specs.Disk.{View}
use Rattle.keepers.specs.InFile.{InFile}

-- the path of the file, and how many calls failed
pub record OnDisk : Type 0 where
  pub path : List ℕ
  pub count : ℕ

-- nothing is known of it, and nothing promised
abbrev pub no_view : View
no_view = record {
  file = None;
  may_leave = λ c. ⊥;
  draft = [];
  may_hold = λ b. ⊥;
  is_placed = false;
  is_sound = false;
  is_free = false;
}

-- the keeper in the file of a path of which no call failed yet, and whether the first save makes
-- the file
abbrev pub keep_at : List ℕ → Bool → InFile OnDisk
keep_at file is_new = record { disk = record { path = file; count = 0 }; is_new = is_new }
