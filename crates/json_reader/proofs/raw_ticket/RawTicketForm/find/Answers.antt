use Rattle.std.proofs.Common.{[], Some, codes, map, rules, sym, subst, true}
use Rattle.std.specs.List.{list_all}
use Rattle.ticket_items.specs.Names.{is_name}
use Rattle.json_items.proofs.ListLemmas.{Fails-weaker, Reads-failed}
use Rattle.json_items.specs.Validation.{Finds, first_fault}
use Rattle.json_items.specs.TicketDraft.{ticket_form}
use Rattle.json_items.specs.TicketForm.{has_names, has_texts, row_has_names, row_has_texts}
use Rattle.json_source.specs.Read.{text_under}
use Rattle.json_reader.proofs.Findings.{found_of}
use Rattle.json_reader.proofs.Tickets.{no_job, no_rows, ticket_found, ticket_read}
use Rattle.json_reader.specs.Found.{IsFound}
use Rattle.json_reader.proofs.raw_ticket.RawTicketForm.find.Goals as goal

pub returns-in_err-job : goal.returns-in_err-job
returns-in_err-job g c =
    let d = g.S.Source.content c.args.value.now in
    Reads-failed has_names has_texts c.from_residual.result c.in_err-job.field-0.0 _ c.from_residual.ensures.1 (Fails-weaker c.in_err-job.field-0.0 (text_under (codes "JobID") d) (ticket_form d) (no_job d) c.in_err-job.ensures)

pub returns-in_err-find_node : goal.returns-in_err-find_node
returns-in_err-find_node g c =
    let d = g.S.Source.content c.args.value.now in
    let job = found_of (first_fault is_name (λ _. true)) c.in_ok-job.job (text_under (codes "JobID") d) c.in_ok-job.ensures in
    Reads-failed has_names has_texts c.from_residual-in_err-find_node.result c.in_err-find_node.field-0.0 _ c.from_residual-in_err-find_node.ensures.1
    (Fails-weaker c.in_err-find_node.field-0.0 _ (ticket_form d) (no_rows d job.0 job.1) c.in_err-find_node.ensures)

pub returns : goal.returns
returns g c =
    let d = g.S.Source.content c.args.value.now in
    let job = found_of (first_fault is_name (λ _. true)) c.in_ok-job.job (text_under (codes "JobID") d) c.in_ok-job.ensures in
    let nodes = c.in_ok-find_node.ensures in
    let all : IsFound nodes.0 c.find_node.new.found = nodes.2 [] c.new-found.ensures in
    subst (Finds (first_fault has_names has_texts) c.map.result) (sym (ticket_read d job.0 nodes.0 job.1 nodes.1))
    (ticket_found job.0 nodes.0 c.find_node.new.found.bare _ c.zip.result c.map.result all.bare (λ p x k. search rules) c.map.ensures.cases
    (c.zip.ensures is_name (λ _. true) (Some job.0) (list_all row_has_names) (list_all row_has_texts) (Some (map (λ r. r.row) nodes.0)) job.2 all.rows))
