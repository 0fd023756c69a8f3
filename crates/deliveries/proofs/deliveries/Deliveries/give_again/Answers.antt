use Rattle.std.proofs.Common.{◌∙◌, ap, not, refl, sym, is_some, true≢false}
use Rattle.deliveries.proofs.Passing.{tied-again}
use Rattle.deliveries.specs.Ledger.{line_for}
use Rattle.deliveries.specs.declared.thing.Thing.{Thing}
use Rattle.deliveries.proofs.deliveries.Deliveries.give_again.Goals as goal

pub invariant_of-self-in-Some : goal.invariant_of-self-in-Some
invariant_of-self-in-Some c =
    let s = c.self.inside in
    let sent = c.in_ok-send-in-Some.ensures in
    tied-again s.courier c.send.new.courier s.routes c.send.new.routes s.boxes c.mark.new.self (record { controller = c.args.controller; spawn = c.args.spawn }) c.self.invariant sent.routed (sent.in_line refl) (λ t. sent.kept t (λ _. refl)) sent.lined c.mark.ensures

pub returns-in-None-clause-out : goal.returns-in-None-clause-out
returns-in-None-clause-out c =
    let t : Thing = record { controller = c.args.controller; spawn = c.args.spawn } in
    let unknown = ap is_some (sym c.line_of.ensures ∙ c.in-None.is) in
    let out = ap is_some (sym c.progress.ensures) ∙ c.is_none.ensures ∙ ap not c.if-is_none.false in
    absurd (true≢false (sym ((c.self.invariant.held t).known out) ∙ unknown))

pub returns-in_ok-send-in-Some-clause-put : goal.returns-in_ok-send-in-Some-clause-put
returns-in_ok-send-in-Some-clause-put c = λ _.
    let sent = c.in_ok-send-in-Some.ensures in
    rw (← c.self.view_is) (record { item = sent.put.0; line = line_for c.self.inside.courier c.self.inside.routes (record { controller = c.args.controller; spawn = c.args.spawn }) c.in-Some.line; thing = sent.put.1; route = sent.known.line; after = sent.put.2 })
