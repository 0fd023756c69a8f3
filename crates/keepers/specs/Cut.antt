-- A keeper whose saves may be cut off.
use Rattle.std.specs.Prelude.{◌≡◌, ◌⊎◌, ℕ, List}
use Rattle.keepers.specs.Keeper.{CountRose}

-- what the file has, and how many calls failed
pub record CutView : Type 0 where
  pub held : List ℕ
  pub count : ℕ

-- a save that was cut off: the file has the old bytes or the new
pub record IsCutSave (old : CutView) (bytes : List ℕ) (new : CutView) : Type 0 where
  pub either : (new.held ≡ old.held) ⊎ (new.held ≡ bytes)
  pub raised : CountRose old.count new.count
