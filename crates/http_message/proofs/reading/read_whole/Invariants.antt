-- What was read so far is what came of the message.
use Rattle.std.proofs.Common.{◌≡◌, ◌<◌, ◌≤◌, ◌-◌, ◌+◌, length}
use Rattle.streams.specs.Streams.{traffic}
use Rattle.http_message.specs.Reading.{HasRead}
use Rattle.http_message.proofs.reading.read_whole.Given as goal

abbrev pub invariant-loop-whole : goal.invariant-loop-whole
invariant-loop-whole g l = (0 < length l.buffer) × (l.start ≤ l.reader.calls)
    × (l.incoming.kind ≡ l.fn.incoming.kind) × (l.incoming.most ≡ l.fn.incoming.most)
    × HasRead l.start (traffic g.R.Read.remaining l.fn.reader l.reader) l.incoming.bytes

abbrev pub decreases-loop-whole : goal.decreases-loop-whole
decreases-loop-whole g l = l.start + 2000000 - l.reader.calls
