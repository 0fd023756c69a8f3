use Rattle.std.proofs.Common.{◌∙◌, sym, ap, subst}
use Rattle.ticket_rows.specs.Copies.{with_copies}
use Rattle.ticket_rows.specs.OneRow.{rows_with_audit}
use Rattle.ticket_rows.specs.Ticket.{Job, IsValid}
use Rattle.spawn.specs.Spawning.{parent_of}
use Rattle.merge.proofs.Returning.{part_nodes, part_copies, nodes_told, copies_told, put_told}
use Rattle.merge.proofs.Returning.{parent_of_out}
use Rattle.merge.specs.Put.{merged_audit}
use Rattle.merge.specs.Putting.{MayTakeNodes, MayTakeResources, with_nodes, with_resources}
use Rattle.merge.proofs.merging.merge_fitting.Goals as goal

pub put_back-requires-clause-nodes : goal.put_back-requires-clause-nodes
put_back-requires-clause-nodes c =
    let t = c.args.ticket.now in
    let r = c.args.spawn.now in
    let p = c.args.part in
    let taken = c.into_rows-nodes in
    let told = c.in_ok-tell_of_merge.ensures in
    let part_valid = subst (λ rows. IsValid (with_copies rows p.rw p.ro)) taken.ensures.rows (subst (λ pool. IsValid (with_copies taken.result.0.items pool p.ro)) taken.ensures.copies taken.ensures.valid) in
    subst (MayTakeNodes c.tell_of_merge.new.ticket.rows) (sym taken.ensures.rows)
    (subst (λ rows. MayTakeNodes rows p.rows) (sym (ap (λ s. s.rows) told.ok))
    (nodes_told (parent_of t.rows r.node) (merged_audit r c.args.at) t.rows p.rows (part_nodes t r p told.valid part_valid c.requires.fits)))

pub put_back-requires-clause-resources : goal.put_back-requires-clause-resources
put_back-requires-clause-resources c =
    let t = c.args.ticket.now in
    let r = c.args.spawn.now in
    let p = c.args.part in
    let told = c.in_ok-tell_of_merge.ensures in
    subst (MayTakeResources c.tell_of_merge.new.ticket.rows) (sym c.into_rows-nodes.ensures.copies)
    (subst (λ rows. MayTakeResources rows p.rw) (sym (ap (λ s. s.rows) told.ok))
    (copies_told (parent_of t.rows r.node) (merged_audit r c.args.at) t.rows p.rw (part_copies t r p told.valid c.requires.fits)))

pub returns-clause-merged : goal.returns-clause-merged
returns-clause-merged c =
    let t = c.args.ticket.now in
    let r = c.args.spawn.now in
    let p = c.args.part in
    let taken = c.into_rows-nodes in
    let told = c.in_ok-tell_of_merge.ensures in
    c.put_back.ensures
    ∙ ap (λ (s : Job). record s { rows = with_nodes taken.result.0.items (with_resources taken.result.1.items s.rows) }) told.ok
    ∙ ap (λ nodes. record t { rows = with_nodes nodes (with_resources taken.result.1.items (rows_with_audit (parent_of t.rows r.node) (merged_audit r c.args.at) t.rows)) }) taken.ensures.rows
    ∙ ap (λ pool. record t { rows = with_nodes p.rows (with_resources pool (rows_with_audit (parent_of t.rows r.node) (merged_audit r c.args.at) t.rows)) }) taken.ensures.copies
    ∙ ap (λ rows. record t { rows = rows }) (put_told (parent_of t.rows r.node) (merged_audit r c.args.at) p t.rows (parent_of_out t r p told.valid c.requires.good c.requires.fits))
