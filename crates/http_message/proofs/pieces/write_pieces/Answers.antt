use Rattle.std.proofs.Common.{[]}
use Rattle.http_message.proofs.Writing.{bytes_of_pieces-at, front_behind}
use Rattle.http_message.proofs.pieces.write_pieces.Goals as goal

pub returns-in-Err-clause-front : goal.returns-in-Err-clause-front
returns-in-Err-clause-front g c =
    let pieces = c.args.pieces.now in
    let i = c.loop-piece.piece-index in
    front_behind g.W.Write.contents c.args.writer.now c.loop-piece.writer c.write_bytes.new.writer _ _ _ _
    (bytes_of_pieces-at pieces i (record { ref_ptr = (0, 0); now = [] }) c.loop-piece-test.true)
    c.loop-piece.invariant c.in-Err.ensures.front
