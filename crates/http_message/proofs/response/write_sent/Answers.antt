use Rattle.std.proofs.Common.{OnOk, OnErr, subst, ◌∙◌}
use Rattle.streams.specs.Streams.{Writes, WritesFront, traffic}
use Rattle.http_message.proofs.TextLemmas.{sent_text-parts}
use Rattle.http_message.proofs.response.write_sent.Goals as goal

pub returns-clause-ok : goal.returns-clause-ok
returns-clause-ok g c =
    let whole = sent_text-parts c.args.status c.as_bytes-code.result.now c.as_bytes.result.now c.args.lines.now c.args.body.now c.args.sent.now
    (c.as_bytes-code.ensures.value ∙ c.as_str.ensures) (c.as_bytes.ensures.value ∙ c.phrase_of.ensures) in
    let run = traffic g.W.Write.contents c.args.writer.now c.write_parts.new.writer in
    subst (λ text. OnOk c.write_parts.result (Writes run text)) whole c.write_parts.ensures.ok

pub returns-clause-front : goal.returns-clause-front
returns-clause-front g c =
    let whole = sent_text-parts c.args.status c.as_bytes-code.result.now c.as_bytes.result.now c.args.lines.now c.args.body.now c.args.sent.now
    (c.as_bytes-code.ensures.value ∙ c.as_str.ensures) (c.as_bytes.ensures.value ∙ c.phrase_of.ensures) in
    let run = traffic g.W.Write.contents c.args.writer.now c.write_parts.new.writer in
    subst (λ text. OnErr c.write_parts.result (WritesFront run text)) whole c.write_parts.ensures.front
