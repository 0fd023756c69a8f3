use Rattle.std.proofs.Common.{◌≡◌, ◌∙◌, ◌+◌, ◌<◌, ◌==◌, Some, if◌then◌else◌, ◌∷◌, ◌++◌, [], ℕ, suc, Result, Ok, Err, OnErr, get_or, length, take, arith, ap, subst, sym}
use Rattle.std.proofs.Math.Seq.{take-suc}
use Rattle.std.specs.Option.{unwrap_or}
use Rattle.deliveries.proofs.Looks.{IsLooked, IsSent, kept-on, looked-more, put-kept, put-sent}
use Rattle.deliveries.specs.Ledger.{is_waiting, line_for}
use Rattle.deliveries.specs.Outbox.{SpawnDestinations, progress_in}
use Rattle.deliveries.specs.Sending.{IsPut, thing_of}
use Rattle.deliveries.specs.declared.progress.Progress.TheVariants.{Waiting}
use Rattle.deliveries.proofs.looking.send_all.Goals as goal

on-err : {T E P : Type 0} (r : Result T E) → P → OnErr r P
on-err (Ok x) p = tt
on-err (Err e) p = p

front-grows : (out : SpawnDestinations) (i : ℕ) (o : ℕ × ℕ) → i < length out → o ≡ get_or out i o → take (i + 1) out ≡ take i out ++ o ∷ []
front-grows out i o within is =
    let next : i + 1 ≡ suc i = omega arith in
    ap (λ n. take n out) next ∙ take-suc out i o within ∙ ap (λ x. take i out ++ x ∷ []) (sym is)

pub returns-in_err-send-clause-err : goal.returns-in_err-send-clause-err
returns-in_err-send-clause-err c =
    on-err c.from_residual.result
    (c.loop-told.told-index, put-kept c.args.controller c.args.had.now (take c.loop-told.told-index c.args.out.now) c.args.courier.now c.loop-told.routes c.send.new.routes c.loop-told.courier c.send.new.courier c.in_err-send.ensures.things c.in_err-send.ensures.err c.loop-told.invariant.put)

pub returns-in_err-send-clause-kept : goal.returns-in_err-send-clause-kept
returns-in_err-send-clause-kept c =
    let o = c.told-item.result in
    let waits = c.is_waiting.ensures ∙ ap (λ p. is_waiting (Some p)) (c.unwrap_or-progress.ensures ∙ ap (λ h. unwrap_or h Waiting) c.get.ensures) in
    kept-on c.args.controller c.args.had.now o c.args.courier.now c.loop-told.courier c.send.new.courier c.args.routes.now c.loop-told.routes c.send.new.routes c.is_waiting.result waits c.in_err-send.ensures.kept c.loop-told.invariant.kept

pub returns-in_err-insert-clause-err : goal.returns-in_err-insert-clause-err
returns-in_err-insert-clause-err c =
    let o = c.told-item.result in
    let i = c.loop-told.told-index in
    let out = c.args.out.now in
    let e = c.in_ok-send.ensures in
    let waits = c.is_waiting.ensures ∙ ap (λ p. is_waiting (Some p)) (c.unwrap_or-progress.ensures ∙ ap (λ h. unwrap_or h Waiting) c.get.ensures) in
    let line = line_for c.loop-told.courier c.loop-told.routes (thing_of c.args.controller o) o.1 in
    let sent = subst (λ b. IsSent (thing_of c.args.controller o) b line c.loop-told.courier c.send.new.courier c.loop-told.routes c.send.new.routes) waits
    (record { put = e.put; in_line = e.in_line; known = e.known.line; things = e.things; routed = e.routed; kept = e.kept; lined = e.lined; long = e.long }) in
    on-err c.from_residual-in_err-insert.result (
      i + 1,
      subst (λ told. IsPut c.args.controller c.args.had.now told c.args.courier.now c.send.new.routes c.send.new.courier) (sym (front-grows out i o c.loop-told-test.true c.told-item.is))
          (put-sent c.args.controller c.args.had.now (take i out) o c.args.courier.now c.loop-told.courier c.send.new.courier c.args.routes.now c.loop-told.routes c.send.new.routes c.loop-told.outbox line c.loop-told.invariant sent),
    )

pub returns-in_err-insert-clause-kept : goal.returns-in_err-insert-clause-kept
returns-in_err-insert-clause-kept c =
    let o = c.told-item.result in
    let waits = c.is_waiting.ensures ∙ ap (λ p. is_waiting (Some p)) (c.unwrap_or-progress.ensures ∙ ap (λ h. unwrap_or h Waiting) c.get.ensures) in
    kept-on c.args.controller c.args.had.now o c.args.courier.now c.loop-told.courier c.send.new.courier c.args.routes.now c.loop-told.routes c.send.new.routes c.is_waiting.result waits c.in_ok-send.ensures.kept c.loop-told.invariant.kept

pub loop-told-preserved : goal.loop-told-preserved
loop-told-preserved c =
    let o = c.told-item.result in
    let i = c.loop-told.told-index in
    let out = c.args.out.now in
    let e = c.in_ok-send.ensures in
    let is = c.unwrap_or-progress.ensures ∙ ap (λ h. unwrap_or h Waiting) c.get.ensures in
    let waits = c.is_waiting.ensures ∙ ap (λ p. is_waiting (Some p)) is in
    let line = line_for c.loop-told.courier c.loop-told.routes (thing_of c.args.controller o) o.1 in
    let sent = subst (λ b. IsSent (thing_of c.args.controller o) b line c.loop-told.courier c.send.new.courier c.loop-told.routes c.send.new.routes) waits
    (record { put = e.put; in_line = e.in_line; known = e.known.line; things = e.things; routed = e.routed; kept = e.kept; lined = e.lined; long = e.long }) in
    subst (λ told. IsLooked c.args.controller c.args.had.now told c.args.courier.now c.send.new.courier c.args.routes.now c.send.new.routes c.insert.new.self) (sym (front-grows out i o c.loop-told-test.true c.told-item.is))
    (looked-more c.args.controller c.args.had.now (take i out) o c.args.courier.now c.loop-told.courier c.send.new.courier c.args.routes.now c.loop-told.routes c.send.new.routes c.loop-told.outbox line c.loop-told.invariant sent c.insert.new.self
    (λ n. c.in_ok-insert.ensures.ok n ∙ ap (λ p. if o.0 == n then Some p else progress_in c.loop-told.outbox n) is))
