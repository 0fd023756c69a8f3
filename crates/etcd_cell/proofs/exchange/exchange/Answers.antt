use Rattle.etcd_cell.proofs.Exchanging.{unanswered}
use Rattle.etcd_cell.proofs.exchange.exchange.Goals as goal

pub returns-in-Err-read_input-clause-unknown : goal.returns-in-Err-read_input-clause-unknown
returns-in-Err-read_input-clause-unknown g c same =
    unanswered g.S.Read.remaining g.S.Write.contents _ _ _ _ c.in-Err-read_input.field-0 c.in-Ok.ensures.ok c.in-Err-read_input.ensures.err
