-- A step of a message that gives nothing out is one of the message that the bytes are.
use Rattle.std.proofs.Common.{◌≡◌, ℕ, List, inr}
use Rattle.serde_json.specs.Written.{compact_text}
use Rattle.ticket_items.specs.declared.refusal.Refusal.TheVariants.{Memory}
use Rattle.controller.specs.declared.message.Message.{Message}
use Rattle.jmf_message.specs.Decoded.{IsRefusalOf as IsUndecoded}
use Rattle.stored_state.specs.Message.{IsOfMessage}
use Rattle.stored_state.proofs.Unsaved.{err_as, nothing_of, shown_as}
use Rattle.stored_state.proofs.kept.Kept.take.Goals as goal

pub returns-in_err-given-clause-refused : goal.returns-in_err-given-clause-refused
returns-in_err-given-clause-refused g c =
    let m = c.in_ok-message.message in
    let text : Message → List ℕ = λ m. compact_text (g.C.StateForm.state_data (g.C.Controller.take_step m c.args.at c.args.self.now.controller).next) in
    err_as _ _ _ c.from_residual-in_err-given.ensures.1
    (nothing_of (λ c. c) g.K.Keep.is_honest g.K.Keep.held g.K.Keep.count g.K.Keep.save_fails (λ e. e ≡ Memory) (IsUndecoded c.args.bytes.now) (λ t. t ≡ text m) (λ t. IsOfMessage c.args.bytes.now (λ m. t ≡ text m)) c.args.self.now c.step.new.self (λ e is. inr (inr is))
    (λ t is. record { message = m; decoded = c.in_ok-message.ensures.found; holds = is }) _ c.in_err-given.ensures.refused)

pub returns-in_err-given-clause-shown : goal.returns-in_err-given-clause-shown
returns-in_err-given-clause-shown g c =
    let m = c.in_ok-message.message in
    let next = λ (m : Message). (g.C.Controller.take_step m c.args.at c.args.self.now.controller).next in
    shown_as (λ x. x ≡ next m) (λ x. IsOfMessage c.args.bytes.now (λ m. x ≡ next m)) _ c.args.self.now c.step.new.self
    (λ x is. record { message = m; decoded = c.in_ok-message.ensures.found; holds = is }) c.in_err-given.ensures.shown
