-- The tests of a part tell whether it fits.
use Rattle.std.proofs.Common.{◌≡◌, ◌∙◌, ◌-◌, true, false, List, [], ◌∷◌, length, map, Decides, sym, ap}
use Rattle.std.proofs.lemmas.Bool.{true≢false}
use Rattle.std.proofs.lemmas.Bool.Decides.{Decides-and, Decides-eqb, Decides-like}
use Rattle.std.proofs.lemmas.Slice.Eq.{bytes_eq-Decides}
use Rattle.ticket_tree.specs.Part.{PartCopy}
use Rattle.ticket_rows.specs.Place.{named_thing}
use Rattle.ticket_rows.specs.Ticket.{Job, IsValid, has_node}
use Rattle.ticket_items.specs.Resource.{is_alike}
use Rattle.ticket_items.specs.declared.node_row.NodeRow.{NodeRow}
use Rattle.ticket_items.specs.declared.resource.Resource.{Resource}
use Rattle.ticket_rows.specs.Copies.{with_copies}
use Rattle.spawn.proofs.AroundAt.{levels_are}
use Rattle.spawn.proofs.SameCopies.{pairs-Decides, alike-Decides}
use Rattle.spawn.specs.Parts.{above, lifted_row, resources_among}
use Rattle.ticket_tree.proofs.AtNode.{none_below_unknown}
use Rattle.ticket_tree.specs.At.{IsAt, rows_below}
use Rattle.ticket_tree.specs.declared.at.At.{At}
use Rattle.spawn.specs.declared.records.spawn_rec.SpawnRec.{SpawnRec}
use Rattle.merge.proofs.Told.{rows-Decides}
use Rattle.merge.specs.Alike.{is_fit, is_part}
use Rattle.merge.specs.Shape.{Fits, shape}

-- ---- the tests

pub fit-Decides : (t : Job) (r : SpawnRec) (p : PartCopy) → Decides (is_fit t r p) (Fits t r p)
fit-Decides t r p =
    Decides-like _ (λ (((job, spawn), rows), rw). record { job = job; spawn = spawn; rows = rows.0; rw = sym rw; audits = rows.1 })
    (λ fits. (((fits.job, fits.spawn), (fits.rows, fits.audits)), sym fits.rw))
    (Decides-and _ _
    (Decides-and _ _ (Decides-and _ _ (bytes_eq-Decides p.job_id t.job_id) (Decides-eqb p.spawn_id r.id)) (rows-Decides (length (above t.rows r.node)) (rows_below t.rows r.node) p.rows))
    (pairs-Decides is_alike named_thing named_thing alike-Decides (resources_among r.rw t.rows) p.rw))

pub part_fits : (t : Job) (r : SpawnRec) (p : PartCopy) → is_fit t r p ≡ true → Fits t r p
part_fits t r p = (fit-Decides t r p).0

pub fits_part : (t : Job) (r : SpawnRec) (p : PartCopy) → Fits t r p → is_fit t r p ≡ true
fits_part t r p = (fit-Decides t r p).1

no_rows : (rows : List NodeRow) (rw ro : List Resource) → IsValid (with_copies rows rw ro)
    → map shape rows ≡ [] → ⊥
no_rows [] rw ro valid e = true≢false (sym valid.tree)
no_rows (x ∷ rows) rw ro valid e = cc

-- a part has rows, so that none fits where the node is unknown
pub unfit : (t : Job) (r : SpawnRec) (p : PartCopy) → IsValid (with_copies p.rows p.rw p.ro)
    → has_node t.rows r.node ≡ false → Fits t r p → ⊥
unfit t r p valid unknown fits =
    no_rows p.rows p.rw p.ro valid (fits.rows ∙ ap (λ rows. map shape (map (lifted_row (length (above t.rows r.node))) rows)) (none_below_unknown t.rows r.node unknown))

-- at the node at which the ticket is seen
pub is_part-at : (t : Job) (r : SpawnRec) (p : PartCopy) (a : At) → IsAt t.rows r.node a
    → is_part t r a.below (a.depth - 1) p ≡ is_fit t r p
is_part-at t r p a is = ap (λ rs. is_part t r rs (a.depth - 1) p) is.below ∙ ap (λ n. is_part t r (rows_below t.rows r.node) n p) (levels_are t.rows r.node a is)
