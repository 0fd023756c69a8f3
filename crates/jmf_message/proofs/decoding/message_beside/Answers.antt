use Rattle.std.proofs.Common.{codes}
use Rattle.json_items.specs.PartDraft.{part_form}
use Rattle.json_items.specs.Spawns.{spawn_named}
use Rattle.json_source.specs.Read.{text_under}
use Rattle.jmf_message.proofs.Parts.{beside_found, beside_none, part_spawn, text_lent}
use Rattle.jmf_message.proofs.decoding.message_beside.Goals as goal

pub returns-in_err-spawn-clause-answers : goal.returns-in_err-spawn-clause-answers
returns-in_err-spawn-clause-answers g c =
    beside_none c.args.jmf.now (g.S.Source.content c.args.part.now) c.text_under.result c.from_residual.result c.in_err-spawn.field-0.0 c.in_err-spawn.ensures.value c.text_under.ensures c.from_residual.ensures.1

pub returns-clause-answers : goal.returns-clause-answers
returns-clause-answers g c =
    let d = g.S.Source.content c.args.part.now in
    let spawn = c.in_ok-spawn.spawn in
    let text = text_lent c.text_under.result spawn (text_under (codes "SpawnID") d) c.in_ok-spawn.ensures.value c.text_under.ensures in
    beside_found c.args.jmf.now (spawn_named spawn.now) (part_form d) c.in_ok-found.found c.message_with.result (λ p read. part_spawn d spawn.now p text read) c.in_ok-found.ensures c.message_with.ensures.answers
