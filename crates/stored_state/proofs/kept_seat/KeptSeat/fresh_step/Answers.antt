use Rattle.std.proofs.Common.{◌≡◌, ◌∙◌, Ok, IfOk, IfSome, OnErr, OnOk, ap, option_map, subst, sym}
use Rattle.serde_json.specs.Written.{compact_text}
use Rattle.ticket_items.specs.declared.refusal.Refusal.TheVariants.{Memory}
use Rattle.jmf_message.specs.Decoded.{IsDecodedAs}
use Rattle.stored_state.proofs.HeldSeats.{made, names_stay}
use Rattle.stored_state.specs.Cause.{step_on}
use Rattle.stored_state.specs.Message.{message_text}
use Rattle.stored_state.specs.Seat.{IsOldOrNext, kept_in}
use Rattle.stored_state.proofs.kept_seat.KeptSeat.fresh_step.Goals as goal

pub invariant_of-self : goal.invariant_of-self
invariant_of-self g c =
    let s = c.self.inside.beside in
    (made g.C.Controller.own_name g.C.StateForm.state_read g.K.Keep.is_honest g.K.Keep.held c.step.result g.K.Keep.count g.K.Keep.save_fails (λ e. e ≡ Memory) (λ t. t ≡ compact_text (g.C.StateForm.state_data (step_on g.C.Controller.order_step g.C.Controller.take_step c.args.cause c.args.at s.controller).next)) s c.step.new.self (step_on g.C.Controller.order_step g.C.Controller.take_step c.args.cause c.args.at s.controller).next c.self.invariant (ap (λ h. h.stale) c.self.view_is ∙ c.requires) (names_stay g.C.Controller.own_name g.C.Controller.order_step g.C.Controller.take_step g.met.C.StoredController.order_names g.met.C.StoredController.take_names c.args.cause c.args.at s.controller) c.step.ensures.honest c.step.ensures.again c.step.ensures.state c.step.ensures.left c.step.ensures.shown c.step.ensures.refused).0

pub returns-clause-reply : goal.returns-clause-reply
returns-clause-reply g c =
    let s = c.self.inside.beside in
    let known : s.controller ≡ kept_in g.C.StateForm.state_read g.K.Keep.held c.args.self.now = c.self.invariant.fresh (ap (λ h. h.stale) c.self.view_is ∙ c.requires) ∙ ap (kept_in g.C.StateForm.state_read g.K.Keep.held) c.self.view_is in
    subst (λ k. IfOk c.step.result (λ given. given.reply ≡ (step_on g.C.Controller.order_step g.C.Controller.take_step c.args.cause c.args.at k).reply)) known c.step.ensures.reply

pub returns-clause-message : goal.returns-clause-message
returns-clause-message g c =
    let s = c.self.inside.beside in
    let known : s.controller ≡ kept_in g.C.StateForm.state_read g.K.Keep.held c.args.self.now = c.self.invariant.fresh (ap (λ h. h.stale) c.self.view_is ∙ c.requires) ∙ ap (kept_in g.C.StateForm.state_read g.K.Keep.held) c.self.view_is in
    subst (λ k. IfOk c.step.result (λ given. option_map (λ b. b.items) given.message ≡ option_map message_text (step_on g.C.Controller.order_step g.C.Controller.take_step c.args.cause c.args.at k).sent)) known c.step.ensures.message

pub returns-clause-read : goal.returns-clause-read
returns-clause-read g c =
    let s = c.self.inside.beside in
    let known : s.controller ≡ kept_in g.C.StateForm.state_read g.K.Keep.held c.args.self.now = c.self.invariant.fresh (ap (λ h. h.stale) c.self.view_is ∙ c.requires) ∙ ap (kept_in g.C.StateForm.state_read g.K.Keep.held) c.self.view_is in
    subst (λ k. OnOk c.step.result (IfSome (step_on g.C.Controller.order_step g.C.Controller.take_step c.args.cause c.args.at k).sent (λ m. IsDecodedAs (message_text m) (Ok m)))) known c.step.ensures.read

pub returns-clause-state : goal.returns-clause-state
returns-clause-state g c =
    let s = c.self.inside.beside in
    let known : s.controller ≡ kept_in g.C.StateForm.state_read g.K.Keep.held c.args.self.now = c.self.invariant.fresh (ap (λ h. h.stale) c.self.view_is ∙ c.requires) ∙ ap (kept_in g.C.StateForm.state_read g.K.Keep.held) c.self.view_is in
    subst (λ k. OnOk c.step.result (kept_in g.C.StateForm.state_read g.K.Keep.held c.step.new.self ≡ (step_on g.C.Controller.order_step g.C.Controller.take_step c.args.cause c.args.at k).next)) known (made g.C.Controller.own_name g.C.StateForm.state_read g.K.Keep.is_honest g.K.Keep.held c.step.result g.K.Keep.count g.K.Keep.save_fails (λ e. e ≡ Memory) (λ t. t ≡ compact_text (g.C.StateForm.state_data (step_on g.C.Controller.order_step g.C.Controller.take_step c.args.cause c.args.at s.controller).next)) s c.step.new.self (step_on g.C.Controller.order_step g.C.Controller.take_step c.args.cause c.args.at s.controller).next c.self.invariant (ap (λ h. h.stale) c.self.view_is ∙ c.requires) (names_stay g.C.Controller.own_name g.C.Controller.order_step g.C.Controller.take_step g.met.C.StoredController.order_names g.met.C.StoredController.take_names c.args.cause c.args.at s.controller) c.step.ensures.honest c.step.ensures.again c.step.ensures.state c.step.ensures.left c.step.ensures.shown c.step.ensures.refused).1

pub returns-clause-err : goal.returns-clause-err
returns-clause-err g c =
    let s = c.self.inside.beside in
    let known : s.controller ≡ kept_in g.C.StateForm.state_read g.K.Keep.held c.args.self.now = c.self.invariant.fresh (ap (λ h. h.stale) c.self.view_is ∙ c.requires) ∙ ap (kept_in g.C.StateForm.state_read g.K.Keep.held) c.self.view_is in
    subst (λ k. OnErr c.step.result (IsOldOrNext k (step_on g.C.Controller.order_step g.C.Controller.take_step c.args.cause c.args.at k) (kept_in g.C.StateForm.state_read g.K.Keep.held c.step.new.self))) known
    (subst (λ k. OnErr c.step.result (IsOldOrNext k (step_on g.C.Controller.order_step g.C.Controller.take_step c.args.cause c.args.at s.controller) (kept_in g.C.StateForm.state_read g.K.Keep.held c.step.new.self))) (sym (c.self.invariant.fresh (ap (λ h. h.stale) c.self.view_is ∙ c.requires))) (made g.C.Controller.own_name g.C.StateForm.state_read g.K.Keep.is_honest g.K.Keep.held c.step.result g.K.Keep.count g.K.Keep.save_fails (λ e. e ≡ Memory) (λ t. t ≡ compact_text (g.C.StateForm.state_data (step_on g.C.Controller.order_step g.C.Controller.take_step c.args.cause c.args.at s.controller).next)) s c.step.new.self (step_on g.C.Controller.order_step g.C.Controller.take_step c.args.cause c.args.at s.controller).next c.self.invariant (ap (λ h. h.stale) c.self.view_is ∙ c.requires) (names_stay g.C.Controller.own_name g.C.Controller.order_step g.C.Controller.take_step g.met.C.StoredController.order_names g.met.C.StoredController.take_names c.args.cause c.args.at s.controller) c.step.ensures.honest c.step.ensures.again c.step.ensures.state c.step.ensures.left c.step.ensures.shown c.step.ensures.refused).2)
