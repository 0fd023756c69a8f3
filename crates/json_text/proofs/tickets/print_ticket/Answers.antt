use Rattle.std.proofs.Common.{◌≡◌, ◌∙◌, OnOk, ap, codes, refl, subst, sym, true}
use Rattle.std.specs.List.{list_all}
use Rattle.serde_json.specs.Data.{string}
use Rattle.ticket_rows.specs.Outline.{is_outline}
use Rattle.ticket_rows.specs.Ticket.{depths}
use Rattle.json_items.specs.TicketForm.{row_has_names, row_has_texts}
use Rattle.json_text.specs.Marked.{marked_rows}
use Rattle.json_text.specs.Written.{job_data}
use Rattle.json_text.specs.Printed.{IsPrinted}
use Rattle.json_text.proofs.Known.{row_names, row_texts}
use Rattle.json_text.proofs.MemberLaws.{open_more}
use Rattle.json_text.proofs.PrintedObjects.{on_any, opened, one_member, same_member, closed}
use Rattle.json_text.proofs.Walks.{first_row, all_names, all_texts}
use Rattle.json_text.proofs.tickets.print_ticket.Goals as goal

pub returns-clause-printed : goal.returns-clause-printed
returns-clause-printed c =
    let t = c.args.ticket.now in
    let marks = c.args.marks.now in
    let same = c.rows-rows.ensures.rows in
    let is = first_row c.rows-rows.result c.in-Some.root.now c.in-Some.ensures in
    let begun = opened c.begin_object.result c.args.out.now c.begin_object.new.self c.begin_object.ensures c.in_ok-begin_object.ensures.ok in
    let front = open_more c.print_front.new.out begun c.in_ok-print_front.ensures.printed in
    let kids = one_member (codes "JDF") _ c.print_children.new.out front c.in_ok-print_children.ensures.printed c.in_ok-print_children.ensures.again in
    let named = same_member (codes "JobID") _ (string t.job_id) c.print_member.new.out kids c.in_ok-print_member.ensures.printed refl (ap string c.job.ensures) in
    let last = open_more c.print_last.new.out named c.in_ok-print_last.ensures.printed in
    subst (λ rows. OnOk c.end_object.result (IsPrinted (job_data t.job_id (marked_rows marks rows)) c.args.out.now c.end_object.new.self)) (sym is ∙ same) (closed c.end_object.result c.end_object.new.self last c.end_object.ensures refl)

pub returns-clause-names : goal.returns-clause-names
returns-clause-names c =
    let rows = c.rows-rows.result in
    let root = c.in-Some.root.now in
    let same = c.rows-rows.ensures.rows in
    let outline : is_outline (depths rows) ≡ true = ap (λ rs. is_outline (depths rs)) same ∙ c.rows-rows.ensures.valid.tree in
    let names = row_names root c.in_ok-print_front.ensures.valid c.in_ok-print_last.ensures.valid in
    on_any c.end_object.result (ap (list_all row_has_names) (sym same) ∙ all_names c.args.marks.now rows root _ (first_row rows root c.in-Some.ensures) outline c.in_ok-print_children.ensures.end names)

pub returns-clause-texts : goal.returns-clause-texts
returns-clause-texts c =
    let rows = c.rows-rows.result in
    let root = c.in-Some.root.now in
    let same = c.rows-rows.ensures.rows in
    let outline : is_outline (depths rows) ≡ true = ap (λ rs. is_outline (depths rs)) same ∙ c.rows-rows.ensures.valid.tree in
    let texts = row_texts root c.in_ok-print_front.ensures.valid c.in_ok-print_last.ensures.valid.pool_texts in
    on_any c.end_object.result (ap (list_all row_has_texts) (sym same) ∙ all_texts c.args.marks.now rows root _ (first_row rows root c.in-Some.ensures) outline c.in_ok-print_children.ensures.end texts)
