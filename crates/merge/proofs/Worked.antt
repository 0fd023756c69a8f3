-- The definitions computed on a small job: a product with paper and sheets in its pool, whose
-- printing takes paper and makes sheets, and whose cutting takes the sheets. The printing was
-- spawned.
use Rattle.std.proofs.Common.{◌≡◌, ℕ, List, [], ◌∷◌, map, Some, refl, ap}
use Rattle.std.specs.Fmt.{digits}
use Rattle.std.proofs.lemmas.Bool.{true≢false}
use Rattle.std.specs.Prelude.{codes}
use Rattle.std.specs.Str.{bytes_eq}
use Rattle.ticket_tree.specs.Part.{PartCopy}
use Rattle.ticket_rows.specs.Place.{Row, links_of, row_in}
use Rattle.ticket_rows.specs.Ticket.{Job}
use Rattle.ticket_items.specs.declared.audit.Audit.{Audit}
use Rattle.ticket_items.specs.declared.audit.Audit.TheVariants.{Notification, Merged}
use Rattle.ticket_items.specs.declared.link.Link.{Link}
use Rattle.ticket_items.specs.declared.node_row.NodeRow.{NodeRow}
use Rattle.ticket_items.specs.declared.resource.Resource.{Resource}
use Rattle.ticket_items.specs.declared.usage.Usage.TheVariants.{Input, Output}
use Rattle.merge.specs.PlainPut.{merged_recs, merged_rows}
use Rattle.merge.specs.Put.{put}
use Rattle.merge.specs.Shape.{Fits, Shape}
use Rattle.merge.specs.Withdrawal.{job_after_withdrawal}
use Rattle.spawn.specs.Parts.{part_for}
use Rattle.spawn.specs.Table.{holder_of}
use Rattle.world_items.specs.declared.holder.Holder.TheVariants.{Master, Spawn}
use Rattle.spawn.specs.declared.records.phase.Phase.TheVariants.{Out}
use Rattle.spawn.specs.declared.records.spawn_rec.SpawnRec.{SpawnRec}

abbrev resource : List ℕ → List ℕ → List ℕ → List ℕ → Resource
resource id name class status = record { id = id; name = name; class = class; status = status; attrs = [] }

abbrev paper : Resource
paper = resource (codes "r1") (codes "Media") (codes "Consumable") (codes "Available")

abbrev sheets : List ℕ → Resource
sheets status = resource (codes "r2") (codes "Component") (codes "Quantity") status

abbrev node : List ℕ → ℕ → List ℕ → List ℕ → List ℕ → List Resource → List Link → List Audit
    → NodeRow
node id depth kind job_part status pool links audits =
    record { id = id; depth = depth; kind = kind; job_part = job_part; status = status; attrs = []; resources = pool; links = links; audits = audits }

abbrev product : List Resource → List Audit → NodeRow
product pool audits = node (codes "n0") 1 (codes "Product") (codes "p0") (codes "Waiting") pool [] audits

abbrev taken : Link
taken = record { rref = codes "r1"; usage = Input }

abbrev made : Link
made = record { rref = codes "r2"; usage = Output }

abbrev printing : ℕ → List ℕ → List Link → List Audit → NodeRow
printing depth status links audits = node (codes "n1") depth (codes "ConventionalPrinting") (codes "p1") status [] links audits

abbrev cutting : NodeRow
cutting = node (codes "n2") 2 (codes "Cutting") (codes "p2") (codes "Waiting") [] (record { rref = codes "r2"; usage = Input } ∷ []) []

abbrev waiting : NodeRow
waiting = printing 2 (codes "Waiting") (taken ∷ made ∷ []) []

abbrev job : Job
job = record { job_id = codes "J1"; rows = product (paper ∷ sheets (codes "Unavailable") ∷ []) [] ∷ waiting ∷ cutting ∷ [] }

abbrev first : SpawnRec
first = record { id = 1; node = codes "n1"; worker = codes "press"; at = 100; rw = codes "r2" ∷ []; ro = paper ∷ []; phase = Out }

-- a part that went out comes back as it went
same_fits : Fits job first (part_for job first)
same_fits = record { job = refl; spawn = refl; rows = refl; rw = refl; audits = refl }

-- the part when the sheets are printed, with these links and audits of the printing
abbrev printed : List Link → List Audit → PartCopy
printed links audits =
    record {
      job_id = codes "J1";
      spawn_id = 1;
      ancestors = [];
      rows = printing 1 (codes "Completed") links audits ∷ [];
      rw = sheets (codes "Available") ∷ [];
      ro = resource (codes "r1") (codes "Media") (codes "Consumable") (codes "Unavailable") ∷ [];
    }

abbrev washed : Audit
washed = Notification 200 (codes "washed up")

printed_fits : Fits job first (printed (taken ∷ made ∷ []) (washed ∷ []))
printed_fits = record { job = refl; spawn = refl; rows = refl; rw = refl; audits = refl }

-- what was changed is put in, what was read alone is as it was, and the audit stands at the parent
printed_put : put job first (printed (taken ∷ made ∷ []) (washed ∷ [])) 300 ≡ record {
  job_id = codes "J1";
  rows = product (paper ∷ sheets (codes "Available") ∷ []) (Merged 300 (codes "n1") (codes "S1") (codes "r2" ∷ []) ∷ []) ∷ printing 2 (codes "Completed") (taken ∷ made ∷ []) (washed ∷ []) ∷ cutting ∷ [];
}
unfolding digits
printed_put = refl

-- as the spawn is withdrawn a note stands at the parent, and all else is as it was
printing_withdrawn : job_after_withdrawal job first 120 ≡ record {
  job_id = codes "J1";
  rows = product (paper ∷ sheets (codes "Unavailable") ∷ []) (Notification 120 (codes "Withdrawn S1") ∷ []) ∷ waiting ∷ cutting ∷ [];
}
unfolding digits
printing_withdrawn = refl

-- of the rows by id those of the printing and of its sheets are the part's
abbrev now : List ℕ → List Audit → Row
now status audits = record { status = status; attrs = []; audits = audits }

printed_rows : map (merged_rows job first (printed (taken ∷ made ∷ []) (washed ∷ [])))
    (codes "n1" ∷ codes "r2" ∷ [])
    ≡ Some (now (codes "Completed") (washed ∷ [])) ∷ Some (now (codes "Available") []) ∷ []
printed_rows = refl

other_rows : map (merged_rows job first (printed (taken ∷ made ∷ []) (washed ∷ [])))
    (codes "n0" ∷ codes "r1" ∷ codes "n9" ∷ [])
    ≡ map (row_in job.rows) (codes "n0" ∷ codes "r1" ∷ codes "n9" ∷ [])
other_rows = refl

-- what the spawn held the master holds then
sheets_out : holder_of job.rows (first ∷ []) (codes "r2") ≡ Some (Spawn 1)
sheets_out = refl

sheets_back : holder_of job.rows (merged_recs (first ∷ []) 0 first) (codes "r2") ≡ Some Master
sheets_back = refl

abbrev first_links : List Shape → List Link
first_links [] = []
first_links (s ∷ shapes) = links_of s.thing

-- one link fewer, or the two the other way round
fewer_links : Fits job first (printed (taken ∷ []) []) → ⊥
fewer_links fits = let e : taken ∷ [] ≡ taken ∷ made ∷ [] = ap first_links fits.rows in cc

abbrev first_rref : List Link → List ℕ
first_rref [] = []
first_rref (l ∷ links) = l.rref

turned : codes "r2" ≡ codes "r1" → ⊥
turned e = true≢false (ap (λ x. bytes_eq x (codes "r2")) e)

turned_links : Fits job first (printed (made ∷ taken ∷ []) []) → ⊥
turned_links fits = turned (ap first_rref (ap first_links fits.rows))
