use Rattle.std.proofs.Common.{◌<◌, ◌++◌, length, take, ◌∙◌, arith, inl, rules}
use Rattle.std.proofs.Common.{length-append}
use Rattle.std.proofs.KnownBytes.{Consumes-trans}
use Rattle.streams.proofs.Calls.{call_failed, was_failure}
use Rattle.streams.proofs.input.read_input.Goals as goal

pub returns-then-count-len-clause-err : goal.returns-then-count-len-clause-err
returns-then-count-len-clause-err g c =
    let so_far = c.loop-input.invariant.4 in
    let room : 0 < length c.deref_mut.result.now = search rules in
    let counted = c.in-Ok.ensures.called room (λ full. (c.in-Ok.ensures.full room full).0) in
    let last = take c.in-Ok.count c.read.new.buffer in
    let many : 4194304 < length (c.loop-input.input.items ++ last) = simp length-append (omega (arith, c.in-Ok.ensures.bound.1, c.len.ensures, c.if-count-len.true, c.loop-input.input.ok)) in (
      c.loop-input.input.items ++ last,
      record { taken = Consumes-trans _ _ _ _ _ so_far.taken c.in-Ok.ensures.bytes.0; unfailed = counted.failures ∙ so_far.unfailed; again = omega (arith, counted.interruptions, so_far.again) },
      many,
    )

pub returns-then-not-is_interruption-clause-err : goal.returns-then-not-is_interruption-clause-err
returns-then-not-is_interruption-clause-err g c =
    let so_far = c.loop-input.invariant.4 in
    let room : 0 < length c.deref_mut.result.now = search rules in
    inl (call_failed g.R.Read.remaining c.args.reader.now c.loop-input.reader c.read.new.self so_far.unfailed (λ full. (c.in-Err.ensures.full room full).1)
    (λ more. was_failure c.loop-input.reader c.read.new.self c.in-Err.error (search rules) (c.in-Err.ensures.called room more)))
