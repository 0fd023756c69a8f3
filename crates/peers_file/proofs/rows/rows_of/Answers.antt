use Rattle.std.proofs.Common.{◌∙◌, [], sym}
use Rattle.peers_file.proofs.RowsRead.{next_row}
use Rattle.peers_file.proofs.rows.rows_of.Goals as goal

pub loop-pattern-preserved : goal.loop-pattern-preserved
loop-pattern-preserved c =
    next_row c.args.pairs.now c.loop-pattern.pattern-index (record { ref_ptr = (0, 0); now = [] }, record { ref_ptr = (0, 0); now = [] })
    c.loop-pattern.rows.items c.push.new.self.items c.in-Some.row _ c.loop-pattern-test.true c.in_ok-push-in-Some.ensures.items
    (sym c.in-Some.is ∙ c.in_ok-row.ensures) c.loop-pattern.invariant
