use Rattle.std.proofs.Common.{◌≡◌, ◌∙◌, sym, subst, refl, inr}
use Rattle.serde_json.specs.Written.{compact_text}
use Rattle.jmf_message.specs.Decoded.{IsRefusalOf}
use Rattle.stored_state.specs.Message.{IsOfMessage}
use Rattle.stored_state.specs.Step.{in_text}
use Rattle.http_edge.specs.Exchange.{HasBody}
use Rattle.http_edge.proofs.Exchanges.{fresh_of, never_unread, saved}
use Rattle.http_edge.proofs.exchange.exchange.Goals as goal

pub returns-in-Ok-take-clause-ok : goal.returns-in-Ok-take-clause-ok
returns-in-Ok-take-clause-ok g c =
    let of = c.in-Ok-take.ensures.ok in
    let step = in_text (g.C.Controller.take_step of.message c.args.at c.args.kept.now.controller) in (
      step,
      record {
        body = c.as_slice.result.now;
        carried = subst (λ b. HasBody (g.R.Read.remaining c.args.reader.now.inner) b) (sym c.as_slice.ensures) c.in-Ok.ensures.ok;
        taken = record { message = of.message; decoded = of.decoded; holds = refl };
        saved = saved g.K.Keep.is_honest g.K.Keep.held (λ x. compact_text (g.C.StateForm.state_data x)) step c.args.kept.now c.take.new.self of.holds.0 c.in-Ok-take.ensures.fresh c.in-Ok-take.ensures.honest c.in-Ok-take.ensures.held;
        again = λ h. c.in-Ok-take.ensures.again (sym c.in-Ok-take.ensures.honest ∙ h);
        fresh = fresh_of c.in-Ok-take.taken c.args.kept.now.stale c.in-Ok-take.ensures.stale.0;
        honest = c.in-Ok-take.ensures.honest;
      },
      of.holds.1,
      of.holds.2,
    )

pub returns-clause-refused : goal.returns-clause-refused
returns-clause-refused g c =
    inr (
      never_unread g.K.Keep.is_honest g.K.Keep.held g.K.Keep.count g.K.Keep.save_fails (IsRefusalOf c.as_slice.result.now)
          (λ text. IsOfMessage c.as_slice.result.now (λ m. text ≡ compact_text (g.C.StateForm.state_data (g.C.Controller.take_step m c.args.at c.args.kept.now.controller).next)))
          c.args.kept.now c.take.new.self c.in-Err-take.refused c.in-Err-take.ensures.refused,
      c.in-Ok.ensures.unfailed,
      inr (c.as_slice.result.now, subst (λ b. HasBody (g.R.Read.remaining c.args.reader.now.inner) b) (sym c.as_slice.ensures) c.in-Ok.ensures.ok, c.in-Err-take.ensures.refused),
    )
