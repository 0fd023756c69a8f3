use Rattle.std.proofs.Common.{◌≡◌, rules}
use Rattle.std.specs.Prelude.{◌==◌}
use Rattle.etcd_cell.specs.Asking.{compaction_asked}
use Rattle.etcd_cell.proofs.Learning.{ignored, learns_if_ok}
use Rattle.etcd_cell.proofs.compacting.compact.Goals as goal

pub returns-in-Ok-clause-ok : goal.returns-in-Ok-clause-ok
returns-in-Ok-clause-ok g c =
    learns_if_ok g.C.Stream.Read.remaining g.C.Stream.Write.contents (g.C.Connector.connects c.args.connector.now c.args.gateway.now) c.in-Ok.stream c.compact_over.new.stream _ (compaction_asked c.args.gateway.now c.args.revision)
    (λ taken status body. taken ≡ (status == 200)) c.compact_over.result
    c.in-Ok.ensures.ok c.compact_over.ensures.ok (search rules)

pub returns-in-Ok-clause-unknown : goal.returns-in-Ok-clause-unknown
returns-in-Ok-clause-unknown g c same =
    ignored g.C.Stream.Read.remaining g.C.Stream.Write.contents (g.C.Connector.connects c.args.connector.now c.args.gateway.now) c.in-Ok.stream c.compact_over.new.stream _ (compaction_asked c.args.gateway.now c.args.revision)
    c.in-Ok.ensures.ok (c.compact_over.ensures.unknown same) (search rules)
