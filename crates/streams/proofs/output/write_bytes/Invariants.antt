-- What was taken of the bytes so far was written.
use Rattle.std.proofs.Common.{length, ◌-◌, ◌≤◌, take}
use Rattle.streams.specs.Streams.{Writes, traffic}
use Rattle.streams.proofs.output.write_bytes.Given as goal

abbrev pub invariant-loop-done : goal.invariant-loop-done
invariant-loop-done g l = (l.done ≤ length l.bytes) × Writes (traffic g.W.Write.contents l.fn.writer l.writer) (take l.done l.bytes)

abbrev pub decreases-loop-done : goal.decreases-loop-done
decreases-loop-done g l = length l.bytes - l.done
