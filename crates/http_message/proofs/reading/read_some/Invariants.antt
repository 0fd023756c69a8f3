-- Nothing was read yet, and no read failed. Each turn is a read that is to be made again.
use Rattle.std.proofs.Common.{[], ◌<◌, ◌≤◌, ◌-◌, ◌+◌, length}
use Rattle.streams.specs.Streams.{traffic}
use Rattle.http_message.specs.Reading.{HasRead}
use Rattle.http_message.proofs.reading.read_some.Given as goal

abbrev pub invariant-loop-reader : goal.invariant-loop-reader
invariant-loop-reader g l = (0 < length l.buffer) × (l.start ≤ l.reader.calls)
    × HasRead l.start (traffic g.R.Read.remaining l.fn.reader l.reader) []

abbrev pub decreases-loop-reader : goal.decreases-loop-reader
decreases-loop-reader g l = l.start + 2000000 - l.reader.calls
