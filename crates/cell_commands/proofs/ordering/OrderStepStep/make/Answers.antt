use Rattle.std.proofs.Common.{option_map, subst, List, ℕ}
use Rattle.stored_state.specs.AnyStep.{IsNoOrder, IsOrdered}
use Rattle.stored_state.specs.Opened.{controller_in}
use Rattle.cell_commands.specs.Steps.{IsNoStep}
use Rattle.cell_commands.proofs.Making.{made_text}
use Rattle.cell_commands.proofs.ordering.OrderStepStep.make.Goals as goal

pub returns-in_ok-text-in-Ok : goal.returns-in_ok-text-in-Ok
returns-in_ok-text-in-Ok c =
    made_text (IsOrdered c.args.self.now.at) c.args.self.now.input.now c.in_ok-held.held.items c.args.bytes.now c.in_ok-text-in-Ok.text.items c.in-Ok.given.reply (option_map (λ b. b.items) c.in-Ok.given.message) (controller_in c.in-Ok.opened)
    c.in-Ok.ensures.ok c.in_ok-held.ensures.items c.in_ok-text-in-Ok.ensures

pub returns-in_ok-from_slice-in-Err : goal.returns-in_ok-from_slice-in-Err
returns-in_ok-from_slice-in-Err c =
    (c.in_ok-from_slice-in-Err.ensures.items, subst (λ (held : List ℕ). IsNoStep IsNoOrder c.args.self.now.input.now held c.in-Err.fault) c.in_ok-held.ensures.items c.in-Err.ensures.refused)
