use Rattle.std.proofs.Common.{◌∙◌, map, ap}
use Rattle.std.specs.List.{filter, filter_map, list_any}
use Rattle.std.specs.Str.{bytes_eq}
use Rattle.ticket_items.specs.Resource.{resource_ids}
use Rattle.ticket_rows.specs.Ticket.{node_ids}
use Rattle.spawn.proofs.OutSteps.{spawns_in}
use Rattle.spawn.proofs.Shown.{nodes_shown, resources_shown}
use Rattle.spawn.specs.IdSet.{is_in}
use Rattle.spawn.specs.Marking as marking
use Rattle.spawn.specs.OutTables.{mark_in, if_any}
use Rattle.spawn.specs.Parts.{resources}
use Rattle.spawn.specs.declared.records.spawn_rec.SpawnRec.{SpawnRec}
use Rattle.spawn.proofs.tables.marking.marked.Goals as goal

pub returns-clause-ok : goal.returns-clause-ok
returns-clause-ok c =
    let rows = c.args.ticket.now.rows in
    let recs = c.args.records.now in
    let spawned = c.in_ok-spawned.spawned in
    let copies = c.in_ok-copies.copies in
    let out = ap spawns_in c.as_slice.ensures.value ∙ c.in_ok-out.ensures in
    let out_again = ap spawns_in c.as_slice-2.ensures.value ∙ c.in_ok-out.ensures in
    let nodes =
    c.new.ensures ∙ c.in_ok-nodes.ensures ∙ ap (λ rs. filter (is_in spawned) (node_ids rs)) c.rows-rows.ensures.rows
    ∙ nodes_shown rows recs spawned (λ x. c.in_ok-spawned.ensures.just x ∙ ap (list_any (λ (r : SpawnRec). bytes_eq r.node x)) out) in
    let resources_are =
    c.new-2.ensures ∙ c.in_ok-resources.ensures ∙ ap (λ rs. filter_map (mark_in copies.changed copies.numbers) (resource_ids (resources rs))) c.rows-rows.ensures.rows
    ∙ resources_shown rows recs copies.changed copies.numbers (λ x. c.in_ok-copies.ensures.changed.just x ∙ ap (list_any (marking.copies_rw x)) out_again)
    (λ x. c.in_ok-copies.ensures.numbers x ∙ ap (λ rs. if_any (map (λ r. r.id) (filter (marking.copies x) rs))) out_again) in
    ap (λ is. record { nodes = is; resources = c.new-2.result }) nodes ∙ ap (λ ms. record { nodes = (marking.marks rows recs).nodes; resources = ms }) resources_are
