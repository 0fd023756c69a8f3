use Rattle.std.proofs.Common.{subst}
use Rattle.std.proofs.lemmas.Result.{IfOk-weaker}
use Rattle.http_message.specs.Texts.{request_to}
use Rattle.peers_file.specs.Destination.{authority_of}
use Rattle.streams.specs.Streams.{Traffic, Writes, traffic}
use Rattle.jdf_send.proofs.send_command.exchanging.exchange.Goals as goal

pub returns : goal.returns
returns g c =
    let to = c.args.destination.now in
    let written : Traffic = traffic g.S.Write.contents c.args.stream.now c.send_to.new.writer in
    IfOk-weaker c.receive.result _ _
    (λ received came. record {
      between = c.send_to.new.writer;
      sent = subst (λ target. Writes written (request_to (authority_of to) target c.args.message.now)) c.path.ensures.value
          (subst (λ host. Writes written (request_to host c.path.result.now c.args.message.now)) c.authority.ensures.value c.in_ok-send_to.ensures.ok);
      came = came;
    })
    c.receive.ensures.ok
