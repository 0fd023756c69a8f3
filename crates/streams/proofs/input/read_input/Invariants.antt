-- What was read so far is the input, within the limit, and no read failed. Each turn reads some
-- more or is interrupted.
use Rattle.std.proofs.Common.{◌≡◌, ◌<◌, ◌≤◌, ◌-◌, ◌+◌, vec_len}
use Rattle.streams.specs.Streams.{Reads, traffic}
use Rattle.streams.proofs.input.read_input.Given as goal

abbrev pub invariant-loop-input : goal.invariant-loop-input
invariant-loop-input g l = (0 < vec_len l.buffer) × (vec_len l.input ≤ 4194304)
    × (l.interrupted_before ≡ l.fn.reader.interruptions) × (l.interrupted_before ≤ l.reader.interruptions)
    × Reads (traffic g.R.Read.remaining l.fn.reader l.reader) l.input.items

abbrev pub decreases-loop-input : goal.decreases-loop-input
decreases-loop-input g l = (4194304 - vec_len l.input) + (l.interrupted_before + 2000000 - l.reader.interruptions)
