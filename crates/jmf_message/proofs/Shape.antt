-- The data of a message nests little.
use Rattle.std.proofs.Common.{◌≤◌, Ok, Err, arith}
use Rattle.serde_json.specs.Data.{depth}
use Rattle.jmf_message.specs.Known.{IsKnown}
use Rattle.jmf_message.specs.Written.{message_data}
use Rattle.controller.specs.declared.body.Body.{Body}
use Rattle.controller.specs.declared.body.Body.TheVariants.{Submit, Return, Abort, Answer}
use Rattle.controller.specs.declared.message.Message.{Message}

nests_at : (m : Message) (b : Body) → IsKnown b → depth (message_data (record m { body = b })) ≤ 127
nests_at m (Submit p) known = omega (arith, known.nests)
nests_at m (Return p) known = omega (arith, known.nests)
nests_at m (Abort n) known = omega arith
nests_at m (Answer asked n (Ok status)) known = omega arith
nests_at m (Answer asked n (Err reason)) known = omega arith

pub message_nests : (m : Message) → IsKnown m.body → depth (message_data m) ≤ 127
message_nests m known = nests_at m m.body known
