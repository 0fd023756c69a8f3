use Rattle.std.proofs.Common.{rules}
use Rattle.std.specs.Prelude.{Option}
use Rattle.cells.specs.Chain.{Version}
use Rattle.etcd_wire.specs.Answer.{IsFound, Tells}
use Rattle.etcd_cell.specs.Asking.{range_asked}
use Rattle.etcd_cell.proofs.Learning.{learns_if_ok, learns_none}
use Rattle.etcd_cell.proofs.etcd_cell.EtcdCell.found.Goals as goal

pub returns-in-Ok-clause-ok : goal.returns-in-Ok-clause-ok
returns-in-Ok-clause-ok g c =
    learns_if_ok g.C.Stream.Read.remaining g.C.Stream.Write.contents (g.C.Connector.connects c.args.self.now.connector c.args.self.now.gateway) c.in-Ok.stream c.read_over.new.stream _ (range_asked c.args.self.now.gateway c.args.self.now.key)
    (λ found status body. Tells status body (λ _ j. IsFound j found)) c.read_over.result
    c.in-Ok.ensures.ok c.read_over.ensures.ok (search rules)

pub returns-in-Ok-clause-unknown : goal.returns-in-Ok-clause-unknown
returns-in-Ok-clause-unknown g c same =
    learns_none g.C.Stream.Read.remaining g.C.Stream.Write.contents (g.C.Connector.connects c.args.self.now.connector c.args.self.now.gateway) c.in-Ok.stream c.read_over.new.stream _ (range_asked c.args.self.now.gateway c.args.self.now.key)
    (λ status body. (found : Option Version) → Tells status body (λ _ j. IsFound j found) → ⊥)
    c.in-Ok.ensures.ok (c.read_over.ensures.unknown same) (search rules)
