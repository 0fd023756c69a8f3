use Rattle.std.proofs.Common.{◌<◌, length, inl, refl, rules}
use Rattle.streams.proofs.Calls.{call_failed, was_failure}
use Rattle.http_message.proofs.reading.read_some.Goals as goal

pub returns-then-not-is_interruption-clause-fault : goal.returns-then-not-is_interruption-clause-fault
returns-then-not-is_interruption-clause-fault g c =
    let so_far = c.loop-reader.invariant.2 in
    let room : 0 < length c.loop-reader.buffer = search rules in (
      refl,
      inl (call_failed g.R.Read.remaining c.args.reader.now c.loop-reader.reader c.read.new.self so_far.unfailed (λ full. (c.in-Err.ensures.full room full).1)
          (λ more. was_failure c.loop-reader.reader c.read.new.self c.in-Err.error (search rules) (c.in-Err.ensures.called room more))),
    )
