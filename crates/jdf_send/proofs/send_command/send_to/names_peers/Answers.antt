use Rattle.std.proofs.Common.{arith}
use Rattle.jdf_send.proofs.send_command.send_to.names_peers.Goals as goal

pub returns : goal.returns
returns c = c.starts_with.ensures.byte (grind (arith)) (grind (arith)) (λ w o found. found)
