use Rattle.std.proofs.Common.{◌∙◌, Some, ap, rules, subst, sym}
use Rattle.std.specs.List.{list_all}
use Rattle.json_items.proofs.ListLemmas.{Fails-weaker, Reads-failed}
use Rattle.json_items.specs.Validation.{Finds, first_fault}
use Rattle.json_items.specs.PartDraft.{part_form, raw_part}
use Rattle.json_items.specs.PartForm.{has_names, has_texts}
use Rattle.json_items.specs.TicketForm.{row_has_names, row_has_texts}
use Rattle.json_reader.proofs.Findings.{found_made, found_of}
use Rattle.json_reader.proofs.PartNames.{names, outer_names, outer_texts, part_of, same_fault, texts}
use Rattle.json_reader.proofs.Parts.{no_outer, none_taken, outer, part_read}
use Rattle.json_reader.specs.Groups.{taken_form}
use Rattle.json_reader.proofs.raw_part.RawPartForm.find.Goals as goal

pub returns-in_err-outer : goal.returns-in_err-outer
returns-in_err-outer g c =
    let d = g.S.Source.content c.args.value.now in
    Reads-failed has_names has_texts c.from_residual.result c.in_err-outer.field-0.0 _ c.from_residual.ensures.1 (Fails-weaker c.in_err-outer.field-0.0 (outer d) (part_form d) (no_outer d) c.in_err-outer.ensures)

pub returns-in_err-rows : goal.returns-in_err-rows
returns-in_err-rows g c =
    let d = g.S.Source.content c.args.value.now in
    Reads-failed has_names has_texts c.from_residual-in_err-rows.result c.in_err-rows.field-0.0 _ c.from_residual-in_err-rows.ensures.1 (Fails-weaker c.in_err-rows.field-0.0 (taken_form d) (part_form d) (none_taken d) c.in_err-rows.ensures)

pub returns : goal.returns
returns g c =
    let d = g.S.Source.content c.args.value.now in
    let beside = found_of (first_fault outer_names outer_texts) c.in_ok-outer.outer (outer d) c.in_ok-outer.ensures in
    let nodes = c.in_ok-rows.ensures in
    let sizes = c.in_ok-rows.sizes in
    let o = beside.0 in
    let raws = nodes.2.rows in
    let found = found_made (first_fault names texts) (first_fault has_names has_texts) (part_of sizes) _ c.zip.result c.map.result (o, raws) (same_fault sizes) (λ v y k. search rules) c.map.ensures.cases
    (c.zip.ensures outer_names outer_texts (Some o) (list_all row_has_names) (list_all row_has_texts) (Some raws) beside.2 nodes.2.judged) in
    subst (Finds (first_fault has_names has_texts) c.map.result) (sym (part_read d o nodes.0 beside.1 nodes.1 ∙ ap (λ t. Some (raw_part o.0.0 o.0.1 o.1 t)) nodes.2.split)) found
