use Rattle.std.proofs.Common.{◌∙◌, ap}
use Rattle.std.proofs.lemmas.List.Folds.{list_all-map}
use Rattle.std.specs.List.{list_all}
use Rattle.json_items.specs.Shown.{shows_nothing}
use Rattle.json_reader.specs.Found.{IsFound}
use Rattle.json_reader.proofs.Findings.{on_ok}
use Rattle.json_reader.proofs.Gathering.{own_added, own_failed}
use Rattle.json_reader.proofs.found_nodes.push_own.Goals as goal

pub returns-in_err-row : goal.returns-in_err-row
returns-in_err-row g c = own_failed IsFound c.args.found.now c.from_residual.result c.in_err-row.field-0.0 _ c.from_residual.ensures.1 c.in_err-row.ensures

pub returns : goal.returns
returns g c =
    let read = c.in_ok-row.ensures in
    own_added IsFound c.args.found.now c.push.new.self c.push.result read.0 _ read.1
    (on_ok c.push.result _ _ (λ step before is. step before read.0 is read.2.row (c.show_nothing.ensures ∙ ap (list_all shows_nothing) (c.as_slice.ensures ∙ read.2.shown) ∙ list_all-map shows_nothing (λ m. m.shown) read.0.pool)) c.push.ensures.ok)
    c.push.ensures.memory
