use Rattle.std.proofs.Common.{rules}
use Rattle.etcd_wire.specs.Answer.{TellsSwap}
use Rattle.etcd_cell.specs.Asking.{touch_asked}
use Rattle.etcd_cell.proofs.Learning.{ignored, learns_if_ok}
use Rattle.etcd_cell.proofs.etcd_cell.EtcdCell.touched.Goals as goal

pub returns-in-Ok-clause-ok : goal.returns-in-Ok-clause-ok
returns-in-Ok-clause-ok g c =
    learns_if_ok g.C.Stream.Read.remaining g.C.Stream.Write.contents (g.C.Connector.connects c.args.self.now.connector c.args.self.now.gateway) c.in-Ok.stream c.touch_over.new.stream _ (touch_asked c.args.self.now.gateway c.args.self.now.key c.args.revision)
    (λ told status body. TellsSwap status body told) c.touch_over.result
    c.in-Ok.ensures.ok c.touch_over.ensures.ok (search rules)

pub returns-in-Ok-clause-unknown : goal.returns-in-Ok-clause-unknown
returns-in-Ok-clause-unknown g c same =
    ignored g.C.Stream.Read.remaining g.C.Stream.Write.contents (g.C.Connector.connects c.args.self.now.connector c.args.self.now.gateway) c.in-Ok.stream c.touch_over.new.stream _ (touch_asked c.args.self.now.gateway c.args.self.now.key c.args.revision)
    c.in-Ok.ensures.ok (c.touch_over.ensures.unknown same) (search rules)
