-- What a ticket shows at a good record's node is the record's part, and has no fault.
use Rattle.std.proofs.Common.{◌≡◌, ◌∙◌, ℕ, ◌-◌, true, List, [], length, map, take, sym, ap, subst}
use Rattle.std.proofs.Common.{arith}
use Rattle.ticket_items.specs.declared.ancestor.Ancestor.{Ancestor}
use Rattle.ticket_items.specs.declared.node_row.NodeRow.{NodeRow}
use Rattle.ticket_rows.specs.Copies.{with_copies}
use Rattle.ticket_rows.specs.Ticket.{Job, IsValid, has_node}
use Rattle.ticket_tree.specs.At.{IsAt}
use Rattle.ticket_tree.specs.Part.{part_copy}
use Rattle.ticket_tree.specs.declared.at.At.{At}
use Rattle.spawn.proofs.Ancestry.{ancestors_are}
use Rattle.spawn.proofs.AroundAt.{levels_are, shows}
use Rattle.spawn.proofs.GoodCopies.{good_copies, good_node}
use Rattle.spawn.proofs.PartValid.{part_valid}
use Rattle.spawn.proofs.Split.{around}
use Rattle.spawn.specs.Parts.{above, ancestors, as_ancestor, lifted_row, part_for, resources_among}
use Rattle.spawn.specs.Parts.{way_from}
use Rattle.spawn.specs.Records.{IsGood}
use Rattle.spawn.specs.declared.records.spawn_rec.SpawnRec.{SpawnRec}

abbrev pub below_rows : At → List NodeRow
below_rows a = map (lifted_row (a.depth - 1)) a.below

abbrev pub ancestors_at : At → List Ancestor
ancestors_at a = map as_ancestor (take (a.depth - 1) (way_from [] a.front))

up_is : (rows : List NodeRow) (n : List ℕ) (a : At) → IsValid rows → IsAt rows n a
    → has_node rows n ≡ true → ancestors_at a ≡ ancestors rows n
up_is rows n a valid is known =
    let at = around rows n valid known in
    let seen = shows rows n a valid is at in
    ap (λ d. map as_ancestor (take (d - 1) (way_from [] a.front))) seen.depth ∙ ap (λ rs. map as_ancestor (take (at.root.depth - 1) (way_from [] rs))) seen.front ∙ ancestors_are rows n valid at

pub part_is : (t : Job) (r : SpawnRec) (a : At) → IsValid t.rows → IsAt t.rows r.node a
    → has_node t.rows r.node ≡ true
    → part_copy t.job_id r.id (ancestors_at a) (below_rows a) (resources_among r.rw t.rows) r.ro
    ≡ part_for t r
part_is t r a valid is known =
    let down = ap (λ m. map (lifted_row m) a.below) (levels_are t.rows r.node a is) ∙ ap (map (lifted_row (length (above t.rows r.node)))) is.below in
    ap (λ xs. part_copy t.job_id r.id xs (below_rows a) (resources_among r.rw t.rows) r.ro) (up_is t.rows r.node a valid is known)
    ∙ ap (λ rs. part_copy t.job_id r.id (ancestors t.rows r.node) rs (resources_among r.rw t.rows) r.ro) down

-- the part with its copies is valid
pub part_stands : (rows : List NodeRow) (r : SpawnRec) (a : At) → IsValid rows → IsGood rows r
    → IsAt rows r.node a
    → IsValid (with_copies (below_rows a) (resources_among r.rw rows) r.ro)
part_stands rows r a valid good is =
    let at = around rows r.node valid (good_node rows r good) in
    let seen = shows rows r.node a valid is at in
    let levels : a.depth - 1 ≡ length at.up = omega (arith, seen.depth, at.level) in
    let below = ap (λ m. map (lifted_row m) a.below) levels ∙ ap (map (lifted_row (length at.up))) seen.below in
    subst (λ rs. IsValid (with_copies rs (resources_among r.rw rows) r.ro)) (sym below) (part_valid rows r.node (resources_among r.rw rows) r.ro valid at (good_copies rows r valid good at))
