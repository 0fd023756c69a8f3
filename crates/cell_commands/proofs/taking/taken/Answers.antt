use Rattle.std.proofs.Common.{option_map, subst, sym}
use Rattle.jmf_message.specs.Decoded.{IsRefusalOf as IsUndecoded}
use Rattle.stored_state.specs.AnyStep.{IsHanded}
use Rattle.stored_state.specs.Opened.{kept_of}
use Rattle.cell_commands.specs.Steps.{IsNoStep}
use Rattle.cell_commands.proofs.Making.{err_told, made_step, not_given, not_loaded}
use Rattle.cell_commands.proofs.taking.taken.Goals as goal

pub returns-in_err-opened-clause-refused : goal.returns-in_err-opened-clause-refused
returns-in_err-opened-clause-refused c =
    err_told _ (IsNoStep (λ bytes _. IsUndecoded bytes) c.args.bytes.now c.args.held.items) c.from_residual.result c.from_residual.ensures.1
    (λ fault is. subst (IsNoStep (λ bytes _. IsUndecoded bytes) c.args.bytes.now c.args.held.items) (sym is)
    (not_loaded (λ bytes _. IsUndecoded bytes) c.args.bytes.now c.args.held.items c.new.result c.in_err-opened.field-0.0 c.new.ensures c.in_err-opened.ensures.refused))

pub returns-in-Ok-clause-ok : goal.returns-in-Ok-clause-ok
returns-in-Ok-clause-ok c =
    made_step (IsHanded c.args.at) c.args.bytes.now c.args.held.items c.new.result (kept_of c.in_ok-opened.opened) (kept_of c.take.new.self) c.in-Ok.given.reply (option_map (λ b. b.items) c.in-Ok.given.answer) c.new.ensures c.in_ok-opened.ensures.ok c.in-Ok.ensures.ok

pub returns-in-Err-clause-refused : goal.returns-in-Err-clause-refused
returns-in-Err-clause-refused c =
    subst (IsNoStep (λ bytes _. IsUndecoded bytes) c.args.bytes.now c.args.held.items) (sym c.fault_of.ensures)
    (not_given (λ bytes _. IsUndecoded bytes) _ _ c.args.bytes.now c.args.held.items c.new.result (kept_of c.in_ok-opened.opened) (kept_of c.take.new.self) c.in-Err.refused c.new.ensures c.in_ok-opened.ensures.ok c.in-Err.ensures.refused)
