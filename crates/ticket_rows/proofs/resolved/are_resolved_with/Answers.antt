use Rattle.std.proofs.Common.{◌∙◌, ◌++◌, ◌∷◌, [], ◌&&◌, ◌-◌, ◌+◌, false, sym, ap, take, drop, reverse}
use Rattle.std.specs.List.{list_all}
use Rattle.std.specs.Option.{option_map_or}
use Rattle.ticket_items.proofs.Apart.{texts_of}
use Rattle.ticket_rows.proofs.Table.{resolved_more}
use Rattle.ticket_rows.specs.HomeTable.{home_in}
use Rattle.ticket_items.specs.Ids.{mem}
use Rattle.ticket_rows.proofs.Copies.{resolved-copies}
use Rattle.ticket_rows.specs.Copies.{with_copies}
use Rattle.ticket_rows.proofs.LinkWalk.{are_resolved_from, resolved_walk}
use Rattle.ticket_rows.proofs.resolved.are_resolved_with.Goals as goal

pub returns-then-not-links_resolve : goal.returns-then-not-links_resolve
returns-then-not-links_resolve c =
    let rows = c.args.rows.now in
    let all = with_copies rows c.args.rw.now c.args.ro.now in
    let old = c.loop-row.path.items in
    let new = c.go_to.new.path.items in
    let homes = c.in_ok-homes.homes in
    let step = resolved_more all rows c.loop-row.row-index c.row-item.result homes old new c.links_resolve.result c.loop-row-test.true c.in_ok-homes.ensures
    (c.in_ok-go_to.ensures ∙ ap (λ r. take (r.depth - 1) (texts_of old) ++ r.id ∷ []) c.row-item.is)
    (c.links_resolve.ensures
    ∙ ap (λ ts. list_all (λ l. option_map_or (λ home. mem home (texts_of ts)) (home_in homes l.rref) false) c.as_slice-in-loop-row.result.now) c.as_slice.ensures.value
    ∙ ap (list_all (λ l. option_map_or (λ home. mem home (texts_of new)) (home_in homes l.rref) false)) (c.as_slice-in-loop-row.ensures ∙ ap (λ r. r.links) c.row-item.is)) in
    sym (sym c.loop-row.invariant ∙ step ∙ ap (λ b. b && are_resolved_from all (reverse (texts_of new)) (drop (c.loop-row.row-index + 1) rows)) c.if-not-links_resolve.true)

pub loop-row-preserved : goal.loop-row-preserved
loop-row-preserved c =
    let rows = c.args.rows.now in
    let all = with_copies rows c.args.rw.now c.args.ro.now in
    let old = c.loop-row.path.items in
    let new = c.go_to.new.path.items in
    let homes = c.in_ok-homes.homes in
    let step = resolved_more all rows c.loop-row.row-index c.row-item.result homes old new c.links_resolve.result c.loop-row-test.true c.in_ok-homes.ensures
    (c.in_ok-go_to.ensures ∙ ap (λ r. take (r.depth - 1) (texts_of old) ++ r.id ∷ []) c.row-item.is)
    (c.links_resolve.ensures
    ∙ ap (λ ts. list_all (λ l. option_map_or (λ home. mem home (texts_of ts)) (home_in homes l.rref) false) c.as_slice-in-loop-row.result.now) c.as_slice.ensures.value
    ∙ ap (list_all (λ l. option_map_or (λ home. mem home (texts_of new)) (home_in homes l.rref) false)) (c.as_slice-in-loop-row.ensures ∙ ap (λ r. r.links) c.row-item.is)) in
    sym (step ∙ ap (λ b. b && are_resolved_from all (reverse (texts_of new)) (drop (c.loop-row.row-index + 1) rows)) c.if-not-links_resolve.false) ∙ c.loop-row.invariant

pub loop-row-init : goal.loop-row-init
loop-row-init c =
    let rows = c.args.rows.now in
    let all = with_copies rows c.args.rw.now c.args.ro.now in
    ap (λ path. are_resolved_from all (reverse (texts_of path)) rows) c.new-path.ensures.items ∙ sym (resolved-copies all rows c.args.rw.now c.args.ro.now) ∙ sym (resolved_walk all)
