use Rattle.std.proofs.Common.{OnOk, OnErr, subst, ◌∙◌}
use Rattle.streams.specs.Streams.{Writes, WritesFront, traffic}
use Rattle.http_message.proofs.TextLemmas.{parts_text-pieces}
use Rattle.http_message.proofs.response.write_parts.Goals as goal

pub returns-clause-ok : goal.returns-clause-ok
returns-clause-ok g c =
    let whole = parts_text-pieces c.args.code.now c.args.phrase.now c.args.lines.now c.as_bytes-length.result.now c.args.body.now c.args.sent.now
    (c.as_bytes-length.ensures.value ∙ c.format.ensures.text) in
    let run = traffic g.W.Write.contents c.args.writer.now c.write_pieces.new.writer in
    subst (λ text. OnOk c.write_pieces.result (Writes run text)) whole c.write_pieces.ensures.ok

pub returns-clause-front : goal.returns-clause-front
returns-clause-front g c =
    let whole = parts_text-pieces c.args.code.now c.args.phrase.now c.args.lines.now c.as_bytes-length.result.now c.args.body.now c.args.sent.now
    (c.as_bytes-length.ensures.value ∙ c.format.ensures.text) in
    let run = traffic g.W.Write.contents c.args.writer.now c.write_pieces.new.writer in
    subst (λ text. OnErr c.write_pieces.result (WritesFront run text)) whole c.write_pieces.ensures.front
