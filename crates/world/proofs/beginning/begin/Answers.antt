use Rattle.std.proofs.Common.{◌≡◌, ◌∙◌, [], ap, map, refl, subst, sym}
use Rattle.std.proofs.lemmas.Result.{IfOk-weaker}
use Rattle.controller_form.specs.States.WorkerForm.{worker_state_read}
use Rattle.master_core.specs.Master.{State}
use Rattle.stored_state.specs.Seat.{kept_in}
use Rattle.world.proofs.Shop.Opening.{opening_kept}
use Rattle.world.specs.State.{IsConsistent, new_worker, opening, state}
use Rattle.world.proofs.beginning.begin.Goals as goal

pub shop_of-requires : goal.shop_of-requires
shop_of-requires g c =
    let m : State = c.in_ok-master.master in
    let named = c.in-Ok.ensures ∙ ap (λ n. map (new_worker n) c.workers.result.now) c.name.ensures ∙ ap (map (new_worker m.name)) c.workers.ensures in
    opening_kept m (map (kept_in worker_state_read g.K.Keep.held) c.in-Ok.workers.items) [] c.in_ok-master.ensures.kept named refl (ap (λ (k : State). k.records) c.in_ok-master.ensures.ok)

pub returns-in-Ok-clause-is : goal.returns-in-Ok-clause-is
returns-in-Ok-clause-is g c =
    let m : State = c.in_ok-master.master in
    let named = c.in-Ok.ensures ∙ ap (λ n. map (new_worker n) c.workers.result.now) c.name.ensures ∙ ap (map (new_worker m.name)) c.workers.ensures in
    let made : state m (map (kept_in worker_state_read g.K.Keep.held) c.in-Ok.workers.items) [] ≡ opening c.args.name c.args.workers c.args.ticket =
    ap (λ ws. state m ws []) named ∙ ap (λ (k : State). state k (map (new_worker k.name) k.workers) []) c.in_ok-master.ensures.ok in
    IfOk-weaker c.shop_of.result _ _ (λ shop is. is ∙ made) c.shop_of.ensures

pub returns-in-Ok-clause-kept : goal.returns-in-Ok-clause-kept
returns-in-Ok-clause-kept g c =
    let m : State = c.in_ok-master.master in
    let named = c.in-Ok.ensures ∙ ap (λ n. map (new_worker n) c.workers.result.now) c.name.ensures ∙ ap (map (new_worker m.name)) c.workers.ensures in
    let kept = opening_kept m (map (kept_in worker_state_read g.K.Keep.held) c.in-Ok.workers.items) [] c.in_ok-master.ensures.kept named refl (ap (λ (k : State). k.records) c.in_ok-master.ensures.ok) in
    IfOk-weaker c.shop_of.result _ _ (λ shop is. subst IsConsistent (sym is) kept) c.shop_of.ensures
