use Rattle.std.proofs.Common.{List, rules}
use Rattle.etcd_wire.specs.Answer.{IsListing, KeyVersion, Tells}
use Rattle.etcd_cell.specs.Asking.{listing_asked}
use Rattle.etcd_cell.proofs.Learning.{learns_if_ok, learns_none}
use Rattle.etcd_cell.proofs.listing.keys_in.Goals as goal

pub returns-in-Ok-clause-ok : goal.returns-in-Ok-clause-ok
returns-in-Ok-clause-ok g c =
    learns_if_ok g.C.Stream.Read.remaining g.C.Stream.Write.contents (g.C.Connector.connects c.args.connector.now c.args.gateway.now) c.in-Ok.stream c.list_over.new.stream _ (listing_asked c.args.gateway.now c.args.folder.now)
    (λ ks status body. Tells status body (λ _ j. IsListing j ks.items)) c.list_over.result
    c.in-Ok.ensures.ok c.list_over.ensures.ok (search rules)

pub returns-in-Ok-clause-unknown : goal.returns-in-Ok-clause-unknown
returns-in-Ok-clause-unknown g c same =
    learns_none g.C.Stream.Read.remaining g.C.Stream.Write.contents (g.C.Connector.connects c.args.connector.now c.args.gateway.now) c.in-Ok.stream c.list_over.new.stream _ (listing_asked c.args.gateway.now c.args.folder.now)
    (λ status body. (ks : List KeyVersion) → Tells status body (λ _ j. IsListing j ks) → ⊥)
    c.in-Ok.ensures.ok (c.list_over.ensures.unknown same) (search rules)
