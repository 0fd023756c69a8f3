use Rattle.std.proofs.Common.{◌∙◌, ◌<◌, length, ap, arith, slice_get}
use Rattle.ticket_rows.specs.Boxed.{contents}
use Rattle.ticket_rows.proofs.Boxed.{count}
use Rattle.ticket_rows.proofs.IndexFollows.{end_told, runs_end, runs_long}
use Rattle.ticket_rows.specs.ChangedRow.{end_behind}
use Rattle.ticket_rows.proofs.indexed_rows.IndexedRows.run_end.Goals as goal

pub below-below-requires : goal.below-below-requires
below-below-requires c =
    let within : c.args.place < length c.args.self.now = c.requires in
    omega (arith, runs_long (contents c.self.inside.rows.items) c.self.inside.index c.self.invariant, ap length c.self.view_is)

pub overflow_add-result : goal.overflow_add-result
overflow_add-result c =
    let rows = c.self.inside.rows in
    let within : c.args.place < length c.args.self.now = c.requires in
    omega (arith, ap length c.self.view_is, count rows.items, rows.ok.0, rows.ok.1, rows.small)

pub overflow_add-result-2 : goal.overflow_add-result-2
overflow_add-result-2 c =
    let rows = c.self.inside.rows in
    omega (arith, runs_end (contents rows.items) c.args.place c.below-below.result c.self.inside.index c.self.invariant c.below-below.ensures, count rows.items, rows.ok.0, rows.ok.1, rows.small)

pub returns-clause-end : goal.returns-clause-end
returns-clause-end c r at =
    let rows = contents c.self.inside.rows.items in
    let k = c.args.place in
    end_told rows k c.below-below.result r c.self.inside.index c.self.invariant c.below-below.ensures (ap (λ rs. slice_get rs k) c.self.view_is ∙ at) ∙ ap (λ rs. end_behind rs k r) c.self.view_is

pub returns-clause-within : goal.returns-clause-within
returns-clause-within c =
    omega (arith, runs_end (contents c.self.inside.rows.items) c.args.place c.below-below.result c.self.inside.index c.self.invariant c.below-below.ensures, ap length c.self.view_is)
