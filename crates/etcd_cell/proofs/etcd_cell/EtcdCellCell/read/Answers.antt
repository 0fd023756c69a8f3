use Rattle.etcd_cell.specs.Asking.{range_asked}
use Rattle.etcd_cell.proofs.Learning.{held_if_ok}
use Rattle.etcd_cell.proofs.etcd_cell.EtcdCellCell.read.Goals as goal

pub returns-clause-ok : goal.returns-clause-ok
returns-clause-ok g c =
    held_if_ok g.C.Stream.Read.remaining g.C.Stream.Write.contents (g.C.Connector.connects c.args.self.now.connector c.args.self.now.gateway)
    (range_asked c.args.self.now.gateway c.args.self.now.key) c.found.result c.held.result
    c.found.ensures.ok c.held.ensures.ok c.held.ensures.err
