use Rattle.std.proofs.Common.{◌≡◌, ◌∙◌, ◌-◌, length, is_some, slice_get, List, [], Result, Ok, Err, OnOk, sym, ap, subst}
use Rattle.std.specs.Option.{option_map, option_map_or}
use Rattle.std.specs.Result.{result_and}
use Rattle.ticket_items.specs.declared.ancestor.Ancestor.{Ancestor}
use Rattle.ticket_rows.specs.OneRow.{rows_with_audit}
use Rattle.ticket_rows.specs.Ticket.{has_node}
use Rattle.spawn.proofs.PartKept.{above_apart, last_is, mapped_some}
use Rattle.spawn.specs.Parts.{ancestors}
use Rattle.spawn.specs.Spawning.{parent_of, spawned_audit}
use Rattle.spawn.proofs.spawns.spawning.send_out.Goals as goal

-- what holds where the first went well holds of what both answer
ok_of_both : {X Y E : Type 0} {P Q : Type 0} (first : Result X E) (y : Y) (both : Result Y E) → both ≡ result_and first (Ok y) → OnOk first P → (P → Q) → OnOk both Q
ok_of_both {Q = Q} (Ok x) y both is p f = subst (λ r. OnOk r Q) (sym is) (f p)
ok_of_both {Q = Q} (Err e) y both is p f = subst (λ r. OnOk r Q) (sym is) tt

pub parent_in-parent-requires : goal.parent_in-parent-requires
parent_in-parent-requires c =
    let rows = c.args.ticket.now.rows in
    let n = c.args.spawn.now.node in
    let last = λ (as' : List Ancestor). slice_get as' (length as' - 1) in
    let above_n : c.ancestors.result.now ≡ ancestors rows n = c.ancestors.ensures ∙ ap (λ p. p.ancestors) c.in_ok-part.ensures.ok in
    ap (λ as'. is_some (last as')) above_n ∙ sym (mapped_some (λ a. a.node_id) (last (ancestors rows n))) ∙ ap is_some (last_is rows n) ∙ c.requires.parent

pub tell-requires-clause-parent : goal.tell-requires-clause-parent
tell-requires-clause-parent c =
    let rows = c.args.ticket.now.rows in
    let n = c.args.spawn.now.node in
    let last = λ (as' : List Ancestor). slice_get as' (length as' - 1) in
    let above_n : c.ancestors.result.now ≡ ancestors rows n = c.ancestors.ensures ∙ ap (λ p. p.ancestors) c.in_ok-part.ensures.ok in
    let parent_is : c.parent_in-parent.result.now ≡ parent_of rows n = ap (λ o. option_map_or (λ u. u) o []) (sym c.parent_in-parent.ensures ∙ ap (λ as'. option_map (λ a. a.node_id) (last as')) above_n ∙ last_is rows n) in
    ap (has_node rows) parent_is ∙ (above_apart rows n c.requires.valid c.requires.parent).1

pub returns-clause-ticket : goal.returns-clause-ticket
returns-clause-ticket c =
    let t = c.args.ticket.now in
    let s = c.args.spawn.now in
    let last = λ (as' : List Ancestor). slice_get as' (length as' - 1) in
    let above_n : c.ancestors.result.now ≡ ancestors t.rows s.node = c.ancestors.ensures ∙ ap (λ p. p.ancestors) c.in_ok-part.ensures.ok in
    let parent_is : c.parent_in-parent.result.now ≡ parent_of t.rows s.node = ap (λ o. option_map_or (λ u. u) o []) (sym c.parent_in-parent.ensures ∙ ap (λ as'. option_map (λ a. a.node_id) (last as')) above_n ∙ last_is t.rows s.node) in
    ok_of_both c.tell.result c.in_ok-part.part c.and.result c.and.ensures c.tell.ensures.ok (λ told. told ∙ ap (λ x. record t { rows = rows_with_audit x (spawned_audit t.rows s) t.rows }) parent_is)
