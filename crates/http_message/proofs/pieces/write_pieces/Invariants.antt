-- The pieces so far were written.
use Rattle.std.proofs.Common.{take}
use Rattle.streams.specs.Streams.{Writes, traffic}
use Rattle.http_message.specs.Pieces.{bytes_of_pieces}
use Rattle.http_message.proofs.pieces.write_pieces.Given as goal

abbrev pub invariant-loop-piece : goal.invariant-loop-piece
invariant-loop-piece g l =
    Writes (traffic g.W.Write.contents l.fn.writer l.writer) (bytes_of_pieces (take l.piece-index l.pieces))
