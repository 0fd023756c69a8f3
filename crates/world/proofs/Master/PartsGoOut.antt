-- The part of a good record is a valid ticket with its copies, and can have come from a ticket.
use Rattle.std.proofs.Common.{◌≡◌, ◌∙◌, ◌∷◌, length, sym, ap, subst}
use Rattle.std.proofs.lemmas.List.{length-reverse}
use Rattle.ticket_rows.specs.Copies.{with_copies}
use Rattle.ticket_rows.specs.Ticket.{IsValid, Job}
use Rattle.spawn.proofs.Ancestry.{above_is}
use Rattle.spawn.proofs.GoodCopies.{good_copies, good_node}
use Rattle.spawn.proofs.Lifting.{all_lifted}
use Rattle.spawn.proofs.PartValid.{part_valid}
use Rattle.spawn.proofs.RowsBelow.{rows_below-around}
use Rattle.spawn.proofs.Split.{around}
use Rattle.spawn.specs.Parts.{above, part_for, resources_among}
use Rattle.ticket_tree.specs.At.{rows_below}
use Rattle.spawn.specs.Records.{IsGood}
use Rattle.spawn.specs.declared.records.spawn_rec.SpawnRec.{SpawnRec}

pub part_is_valid : (t : Job) (r : SpawnRec) → IsValid t.rows → IsGood t.rows r → IsValid (with_copies (part_for t r).rows (part_for t r).rw (part_for t r).ro)
part_is_valid t r valid good =
    let rows = t.rows in
    let at = around rows r.node valid (good_node rows r good) in
    let levels : length (above rows r.node) ≡ length at.up = ap length (above_is rows r.node valid at) ∙ length-reverse at.up in
    let below : (part_for t r).rows ≡ all_lifted (length at.up) (at.root ∷ at.inner) =
    ap (λ m. all_lifted m (rows_below rows r.node)) levels ∙ ap (all_lifted (length at.up)) (rows_below-around rows r.node valid at) in
    subst (λ rs. IsValid (with_copies rs (resources_among r.rw rows) r.ro)) (sym below) (part_valid rows r.node (resources_among r.rw rows) r.ro valid at (good_copies rows r valid good at))
