-- The table in a peers' file.
use Rattle.std.specs.Prelude.{◌≡◌, ◌⊎◌}
use Rattle.streams.specs.declared.refused.Refused.{Refused}
use Rattle.streams.specs.declared.refused.Refused.TheVariants.{Core, LoadFailed}
use Rattle.ticket_items.specs.declared.refusal.Refusal.TheVariants.{Memory}

-- why there is no table in a peers' file: memory ran out, or the file can't be loaded
abbrev pub IsNoTable : Refused → Type 0
IsNoTable e = (e ≡ Core Memory) ⊎ (e ≡ LoadFailed)
