-- A keeper in the file of a disk.
use Rattle.std.specs.Prelude.{◌≡◌, ℕ, Bool, List, unwrap_or, []}
use Rattle.keepers.specs.Disk.{View}
use Rattle.keepers.specs.Keeper.{CountRose}

-- the disk, and whether the first save makes the file
pub record InFile (D : Type 0) : Type 0 where
  pub disk : D
  pub is_new : Bool

-- what a read of the file gives; nothing where there is none
abbrev pub contents_of : View → List ℕ
contents_of v = unwrap_or v.file []

-- a call that fails: any may; the file's place is the same, and the number of failures rises
pub record Fails {D : Type 0} (place : D → List ℕ) (count : D → ℕ) (old new : InFile D)
    : Type 0 where
  pub same_place : place new.disk ≡ place old.disk
  pub is_new : new.is_new ≡ old.is_new
  pub raised : CountRose (count old.disk) (count new.disk)
