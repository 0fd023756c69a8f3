-- The files that controllers are kept in. Nothing is known of what stands in one, so that of it no
-- keeper is honest.
use Rattle.std.specs.Prelude.{◌≡◌, ◌⊎◌, List, ℕ}
pub use Rattle.keepers.specs.SystemFile.{count, file_bytes, is_honest, keep_in_file}
pub use Rattle.keepers.specs.SystemFile.{place, load_fails, save_fails}
use Rattle.streams.specs.declared.refused.Refused.TheVariants.{LoadFailed}
use Rattle.streams.specs.declared.fault.Fault.{Fault}
use Rattle.streams.specs.declared.fault.Fault.TheVariants.{Device}
use Rattle.file_commands.specs.Opening.{IsNotLoaded}

-- why there is no controller at hand of a file: it can't be locked, or none is loaded of it
abbrev pub IsNotOpened : List ℕ → Fault → Type 0
IsNotOpened file fault =
    (fault ≡ Device LoadFailed) ⊎ IsNotLoaded is_honest file_bytes load_fails (keep_in_file file) fault
