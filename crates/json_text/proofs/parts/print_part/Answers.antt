use Rattle.std.proofs.Common.{◌≡◌, ◌∙◌, OnOk, ap, codes, drop, refl, subst, sym, true}
use Rattle.std.specs.List.{list_all}
use Rattle.serde_json.specs.Data.{array, string}
use Rattle.ticket_items.specs.SpawnId.{spawn_text}
use Rattle.ticket_rows.proofs.Copies.{outline-copies}
use Rattle.ticket_rows.specs.Outline.{is_outline}
use Rattle.ticket_rows.specs.Ticket.{depths}
use Rattle.json_items.specs.Ancestors.{ancestor_data}
use Rattle.json_items.specs.Listed.{data_items}
use Rattle.json_items.specs.Resources.{resource_has_names, resource_has_texts}
use Rattle.json_items.specs.TicketForm.{row_has_names, row_has_texts}
use Rattle.json_text.specs.Marked.{no_marks}
use Rattle.json_text.specs.Nodes.{IsLastValid}
use Rattle.json_text.specs.PartWritten.{root_pool, rows_data}
use Rattle.json_text.specs.TicketText.{shown_children}
use Rattle.json_text.specs.Written.{pool_data}
use Rattle.json_text.specs.Printed.{IsPrinted}
use Rattle.json_text.proofs.Known.{row_names, row_texts}
use Rattle.json_text.proofs.MemberLaws.{open_more}
use Rattle.json_text.proofs.PrintedObjects.{on_any, opened, one_member, same_member, closed}
use Rattle.json_text.proofs.Walks.{first_row, all_names, all_texts}
use Rattle.json_text.proofs.parts.print_part.Goals as goal

pub returns-clause-printed : goal.returns-clause-printed
returns-clause-printed c =
    let p = c.args.part.now in
    let spawn = spawn_text p.spawn_id in
    let root = c.in-Some.root.now in
    let later = drop 1 c.new-rows.result in
    let same = c.new-rows.ensures ∙ c.rows.ensures.rows in
    let is = first_row c.new-rows.result root c.in-Some.ensures in
    let id = c.in_ok-spawn.ensures.id ∙ ap spawn_text c.spawn_id.ensures.id in
    let begun = opened c.begin_object.result c.args.out.now c.begin_object.new.self c.begin_object.ensures c.in_ok-begin_object.ensures.ok in
    let above = same_member (codes "AncestorPool") _ (array (data_items ancestor_data p.ancestors)) c.print_items.new.out begun c.in_ok-print_items.ensures.printed c.in_ok-print_items.ensures.again (ap (λ xs. array (data_items ancestor_data xs)) c.ancestors.ensures) in
    let front = open_more c.print_front.new.out above c.in_ok-print_front.ensures.printed in
    let kids = same_member (codes "JDF") _ (array (shown_children no_marks root.depth later)) c.print_children.new.out front c.in_ok-print_children.ensures.printed c.in_ok-print_children.ensures.again (ap (λ marks. array (shown_children marks root.depth later)) c.no_marks.ensures) in
    let job = same_member (codes "JobID") _ (string p.job_id) c.print_member.new.out kids c.in_ok-print_member.ensures.printed refl (ap string c.job.ensures) in
    let job_part = one_member (codes "JobPartID") (string root.job_part) c.print_member-2.new.out job c.in_ok-print_member-2.ensures.printed refl in
    let links = one_member (codes "ResourceLinkPool") _ c.print_member-3.new.out job_part c.in_ok-print_member-3.ensures.printed c.in_ok-print_member-3.ensures.again in
    let pool = same_member (codes "ResourcePool") _ (array (pool_data (root_pool spawn root.resources p.rw p.ro))) c.print_root_pool.new.out links c.in_ok-print_root_pool.ensures.printed c.in_ok-print_root_pool.ensures.again
    (ap (λ s. array (pool_data (root_pool s c.as_slice.result.now p.rw p.ro))) (c.as_str.ensures.value ∙ id) ∙ ap (λ own. array (pool_data (root_pool spawn own p.rw p.ro))) c.as_slice.ensures) in
    let named = same_member (codes "SpawnID") _ (string spawn) c.print_text.new.out pool c.in_ok-print_text.ensures refl (ap string (c.as_str-2.ensures.value ∙ id)) in
    let status = one_member (codes "Status") (string root.status) c.print_member-4.new.out named c.in_ok-print_member-4.ensures.printed refl in
    let kind = one_member (codes "Type") (string root.kind) c.print_member-5.new.out status c.in_ok-print_member-5.ensures.printed refl in
    subst (λ rows. OnOk c.end_object.result (IsPrinted (rows_data p.job_id spawn p.ancestors rows p.rw p.ro) c.args.out.now c.end_object.new.self)) (sym is ∙ same) (closed c.end_object.result c.end_object.new.self kind c.end_object.ensures refl)

pub returns-clause-names : goal.returns-clause-names
returns-clause-names c =
    let p = c.args.part.now in
    let rows = c.new-rows.result in
    let root = c.in-Some.root.now in
    let same = c.new-rows.ensures ∙ c.rows.ensures.rows in
    let outline : is_outline (depths rows) ≡ true = ap (λ rs. is_outline (depths rs)) same ∙ sym (outline-copies p.rows p.rw p.ro) ∙ c.rows.ensures.valid.tree in
    let last : IsLastValid root = record {
      job_part = c.in_ok-print_member-2.ensures.names;
      link_names = c.in_ok-print_member-3.ensures.names;
      pool_names = ap (list_all resource_has_names) (sym c.as_slice.ensures) ∙ c.in_ok-print_root_pool.ensures.names;
      pool_texts = ap (list_all resource_has_texts) (sym c.as_slice.ensures) ∙ c.in_ok-print_root_pool.ensures.texts;
      status = c.in_ok-print_member-4.ensures.names;
      kind = c.in_ok-print_member-5.ensures.names;
    } in
    on_any c.end_object.result (ap (list_all row_has_names) (sym same) ∙ all_names c.no_marks.result rows root _ (first_row rows root c.in-Some.ensures) outline c.in_ok-print_children.ensures.end (row_names root c.in_ok-print_front.ensures.valid last))

pub returns-clause-texts : goal.returns-clause-texts
returns-clause-texts c =
    let p = c.args.part.now in
    let rows = c.new-rows.result in
    let root = c.in-Some.root.now in
    let same = c.new-rows.ensures ∙ c.rows.ensures.rows in
    let outline : is_outline (depths rows) ≡ true = ap (λ rs. is_outline (depths rs)) same ∙ sym (outline-copies p.rows p.rw p.ro) ∙ c.rows.ensures.valid.tree in
    let pool = ap (list_all resource_has_texts) (sym c.as_slice.ensures) ∙ c.in_ok-print_root_pool.ensures.texts in
    on_any c.end_object.result (ap (list_all row_has_texts) (sym same) ∙ all_texts c.no_marks.result rows root _ (first_row rows root c.in-Some.ensures) outline c.in_ok-print_children.ensures.end (row_texts root c.in_ok-print_front.ensures.valid pool))
