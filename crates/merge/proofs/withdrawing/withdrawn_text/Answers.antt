use Rattle.std.proofs.Common.{◌∙◌, ap}
use Rattle.ticket_items.specs.Names.{is_text}
use Rattle.ticket_items.specs.SpawnId.{is_spawn_number}
use Rattle.merge.proofs.Withdrawn.{withdrawn_is_text}
use Rattle.merge.proofs.withdrawing.withdrawn_text.Goals as goal

pub from_valid-requires : goal.from_valid-requires
from_valid-requires c =
    ap is_text (c.as_str.ensures.value ∙ c.in_ok-text.ensures.ok)
    ∙ withdrawn_is_text c.number.result (ap is_spawn_number c.number.ensures.value ∙ c.number.ensures.valid)
