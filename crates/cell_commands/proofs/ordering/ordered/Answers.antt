use Rattle.std.proofs.Common.{option_map, subst, sym}
use Rattle.stored_state.specs.AnyStep.{IsNoOrder, IsOrdered}
use Rattle.stored_state.specs.Opened.{kept_of}
use Rattle.cell_commands.specs.Steps.{IsNoStep}
use Rattle.cell_commands.proofs.Making.{err_told, made_step, not_given, not_loaded}
use Rattle.cell_commands.proofs.ordering.ordered.Goals as goal

pub returns-in_err-opened-clause-refused : goal.returns-in_err-opened-clause-refused
returns-in_err-opened-clause-refused c =
    err_told _ (IsNoStep IsNoOrder c.args.input.now c.args.held.items) c.from_residual.result c.from_residual.ensures.1
    (λ fault is. subst (IsNoStep IsNoOrder c.args.input.now c.args.held.items) (sym is)
    (not_loaded IsNoOrder c.args.input.now c.args.held.items c.new.result c.in_err-opened.field-0.0 c.new.ensures c.in_err-opened.ensures.refused))

pub returns-in-Ok-clause-ok : goal.returns-in-Ok-clause-ok
returns-in-Ok-clause-ok c =
    made_step (IsOrdered c.args.at) c.args.input.now c.args.held.items c.new.result (kept_of c.in_ok-opened.opened) (kept_of c.order.new.self) c.in-Ok.given.reply (option_map (λ b. b.items) c.in-Ok.given.message) c.new.ensures c.in_ok-opened.ensures.ok c.in-Ok.ensures.ok

pub returns-in-Err-clause-refused : goal.returns-in-Err-clause-refused
returns-in-Err-clause-refused c =
    subst (IsNoStep IsNoOrder c.args.input.now c.args.held.items) (sym c.fault_of.ensures)
    (not_given IsNoOrder _ _ c.args.input.now c.args.held.items c.new.result (kept_of c.in_ok-opened.opened) (kept_of c.order.new.self) c.in-Err.refused c.new.ensures c.in_ok-opened.ensures.ok c.in-Err.ensures.refused)
