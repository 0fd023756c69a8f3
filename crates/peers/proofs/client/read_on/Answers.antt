use Rattle.peers.proofs.Coming.{Called, never_quiet, quiet_end, reads_end, throws_end, went_more}
use Rattle.peers.proofs.client.read_on.Goals as goal

pub returns-in_default : goal.returns-in_default
returns-in_default g c =
    let went = c.loop.invariant.0 in
    let call : Called g.S.Read.remaining c.args.now c.loop.stream c.on_readable.new.stream c.loop.peer c.on_readable.new.self c.on_readable.result =
    record {
      reading = c.on_readable.ensures.reading;
      lingering = c.on_readable.ensures.lingering;
      quiet = c.on_readable.ensures.quiet;
      unanswered = c.on_readable.ensures.unanswered;
    } in
    record {
      reading = λ is. reads_end g.S.Read.remaining c.args.now _ _ _ _ _ _ _ went call is;
      lingering = λ is. throws_end g.S.Read.remaining c.args.now _ _ _ _ _ _ _ went call is;
      quiet = λ is. let kept = quiet_end g.S.Read.remaining c.args.now _ _ _ _ _ _ _ went call is in (kept.0, kept.1);
      quiet_event = λ is. (quiet_end g.S.Read.remaining c.args.now _ _ _ _ _ _ _ went call is).2;
    }

pub loop-preserved : goal.loop-preserved
loop-preserved g c =
    let went = c.loop.invariant.0 in
    let call : Called g.S.Read.remaining c.args.now c.loop.stream c.on_readable.new.stream c.loop.peer c.on_readable.new.self c.on_readable.result =
    record {
      reading = c.on_readable.ensures.reading;
      lingering = c.on_readable.ensures.lingering;
      quiet = c.on_readable.ensures.quiet;
      unanswered = c.on_readable.ensures.unanswered;
    } in (
      went_more g.S.Read.remaining c.args.now _ _ _ _ _ _ _ went call c.in-Again.is,
      λ is. absurd (never_quiet g.S.Read.remaining c.args.now _ _ _ _ _ _ _ went call c.in-Again.is is),
    )
