use Rattle.std.proofs.Common.{◌∙◌, ap}
use Rattle.ticket_items.proofs.SpawnTexts.{is_name-spawn_text}
use Rattle.ticket_items.specs.Names.{is_name}
use Rattle.ticket_items.proofs.spawn_id.SpawnId.to_id.Goals as goal

pub from_valid-requires : goal.from_valid-requires
from_valid-requires c = ap is_name (c.as_str.ensures.value ∙ c.in_ok-text.ensures.ok) ∙ is_name-spawn_text c.self.inside.number c.self.invariant
