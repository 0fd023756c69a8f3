-- Of which spawns nothing is out, by the records.
use Rattle.std.specs.Prelude.{◌≡◌, ℕ, false, IsSomeAnd}
pub use Rattle.plain_shop.specs.Once.{AreMergedOnce, TellsMerge}
use Rattle.spawn.specs.Records.{is_out}
use Rattle.master_core.specs.Master.{record_of}
use Rattle.world.specs.State.{State}

-- nothing of a spawn is out: its part was put in, or it was withdrawn
abbrev pub IsIn : State → ℕ → Type 0
IsIn w s = IsSomeAnd (record_of w.controllers.master.records s) (λ r. is_out r ≡ false)
