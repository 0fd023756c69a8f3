use Rattle.std.proofs.Common.{◌≡◌, ◌∙◌, true, OnErr, None, Some, ap, map, refl, set, subst, sym}
use Rattle.std.proofs.lemmas.Result.{IfOk-weaker}
use Rattle.std.specs.List.{position}
use Rattle.stored_state.specs.Cause.{step_on}
use Rattle.world.proofs.Shop.AlwaysKept.{worker_keeps}
use Rattle.world.proofs.Runs.Answered.{on_ok}
use Rattle.world.proofs.Runs.Seated.{map-get_or, map-set}
use Rattle.world.proofs.Runs.Settled.{found_answers, found_settled_as, found_settles, none_answers, none_settles}
use Rattle.world.proofs.Runs.Unknown.{worker_same, worker_unknown}
use Rattle.world.proofs.Worker.Places.{StandsAt, found, found_own, kept_there, name_of, none_there, settled_there}
use Rattle.world.specs.Happening.{ComesTo, IsUnknown, next_answer, next_state, worker_step}
use Rattle.world.specs.State.{IsConsistent, State, is_named, state, worker_of}
use Rattle.worker_core.specs.Messages.{take_step as taken_by_worker}
use Rattle.worker_core.specs.Orders.{order_step as ordered_worker}
use Rattle.world.proofs.seats.Seats.tell_worker.Goals as goal

pub invariant_of-self : goal.invariant_of-self
invariant_of-self g c =
    let w : State = state (g.M.Seat.kept c.self.inside.master) (map g.W.Seat.kept c.self.inside.workers.items) c.self.inside.messages.messages in
    let workers = w.controllers.workers in
    let name = c.requires.0 in
    let x = g.W.Seat.kept c.index_mut-seat.result.now in
    let place : position (is_named name) workers ≡ Some c.in-Some.place = ap (λ (v : State). position (is_named name) v.controllers.workers) c.self.view_is ∙ c.requires.1 ∙ c.in-Some.is in
    let here : StandsAt workers name c.in-Some.place x = record { place = place; at = ap g.W.Seat.kept c.index_mut-seat.ensures.value ∙ map-get_or g.W.Seat.kept c.self.inside.workers.items c.in-Some.place c.index_mut-seat.result.now } in
    let comes = subst (λ n. ComesTo n w.messages c.args.cause) (sym (name_of workers name c.in-Some.place x here)) (subst (λ (v : State). ComesTo name v.messages c.args.cause) (sym c.self.view_is) c.requires.2) in
    let keeps = worker_keeps c.args.cause c.args.at w x c.self.invariant (found_own workers name c.in-Some.place x here) comes in
    subst (λ ws. IsConsistent (state w.controllers.master ws c.steps.new.messages.messages)) (sym (map-set g.W.Seat.kept c.self.inside.workers.items c.in-Some.place c.steps.new.seat))
    (kept_there c.steps.result c.args.stop w.controllers.master workers w.messages c.steps.new.messages.messages name c.in-Some.place x (g.W.Seat.kept c.steps.new.seat) (step_on ordered_worker taken_by_worker c.args.cause c.args.at x) c.self.invariant here c.steps.ensures.stored c.steps.ensures.messages c.steps.ensures.err_stored c.steps.ensures.err_messages keeps)

pub returns-in-None-clause-answer : goal.returns-in-None-clause-answer
returns-in-None-clause-answer g c = λ name at.
    let w : State = state (g.M.Seat.kept c.self.inside.master) (map g.W.Seat.kept c.self.inside.workers.items) c.self.inside.messages.messages in
    let place : position (is_named name) w.controllers.workers ≡ None = ap (λ (v : State). position (is_named name) v.controllers.workers) c.self.view_is ∙ at ∙ c.in-None.is in
    let none = none_there w.controllers.workers w.controllers.workers name refl place in
    c.without_step.ensures ∙ none_answers c.args.stop w (step_on ordered_worker taken_by_worker c.args.cause c.args.at) c.args.none (worker_of w.controllers.workers name) none
    ∙ ap (λ (v : State). next_answer c.args.stop v (worker_step name c.args.none c.args.cause c.args.at v)) c.self.view_is

pub returns-in-None-clause-state : goal.returns-in-None-clause-state
returns-in-None-clause-state g c = λ name at.
    let w : State = state (g.M.Seat.kept c.self.inside.master) (map g.W.Seat.kept c.self.inside.workers.items) c.self.inside.messages.messages in
    let place : position (is_named name) w.controllers.workers ≡ None = ap (λ (v : State). position (is_named name) v.controllers.workers) c.self.view_is ∙ at ∙ c.in-None.is in
    let none = none_there w.controllers.workers w.controllers.workers name refl place in
    subst (λ (v : State). v ≡ next_state c.args.stop v (worker_step name c.args.none c.args.cause c.args.at v)) c.self.view_is (none_settles c.args.stop w (step_on ordered_worker taken_by_worker c.args.cause c.args.at) c.args.none (worker_of w.controllers.workers name) none)

pub returns-in-Some-clause-answer : goal.returns-in-Some-clause-answer
returns-in-Some-clause-answer g c = λ name at.
    let w : State = state (g.M.Seat.kept c.self.inside.master) (map g.W.Seat.kept c.self.inside.workers.items) c.self.inside.messages.messages in
    let workers = w.controllers.workers in
    let x = g.W.Seat.kept c.index_mut-seat.result.now in
    let step = step_on ordered_worker taken_by_worker c.args.cause c.args.at in
    let place : position (is_named name) workers ≡ Some c.in-Some.place = ap (λ (v : State). position (is_named name) v.controllers.workers) c.self.view_is ∙ at ∙ c.in-Some.is in
    let here : StandsAt workers name c.in-Some.place x = record { place = place; at = ap g.W.Seat.kept c.index_mut-seat.ensures.value ∙ map-get_or g.W.Seat.kept c.self.inside.workers.items c.in-Some.place c.index_mut-seat.result.now } in
    IfOk-weaker c.steps.result _ _ (λ a e. e ∙ found_answers c.args.stop w step c.args.none (worker_of workers name) x (step x) (found workers name c.in-Some.place x here) refl
    ∙ ap (λ (v : State). next_answer c.args.stop v (worker_step name c.args.none c.args.cause c.args.at v)) c.self.view_is) c.steps.ensures.answer

pub returns-in-Some-clause-state : goal.returns-in-Some-clause-state
returns-in-Some-clause-state g c = λ name at.
    let w : State = state (g.M.Seat.kept c.self.inside.master) (map g.W.Seat.kept c.self.inside.workers.items) c.self.inside.messages.messages in
    let workers = w.controllers.workers in
    let x = g.W.Seat.kept c.index_mut-seat.result.now in
    let step = step_on ordered_worker taken_by_worker c.args.cause c.args.at in
    let place : position (is_named name) workers ≡ Some c.in-Some.place = ap (λ (v : State). position (is_named name) v.controllers.workers) c.self.view_is ∙ at ∙ c.in-Some.is in
    let here : StandsAt workers name c.in-Some.place x = record { place = place; at = ap g.W.Seat.kept c.index_mut-seat.ensures.value ∙ map-get_or g.W.Seat.kept c.self.inside.workers.items c.in-Some.place c.index_mut-seat.result.now } in
    on_ok _ _ _ c.steps.result c.steps.ensures.stored c.steps.ensures.messages (λ is sent.
    ap (λ ws. state w.controllers.master ws c.steps.new.messages.messages) (map-set g.W.Seat.kept c.self.inside.workers.items c.in-Some.place c.steps.new.seat)
    ∙ settled_there c.args.stop w.controllers.master workers w.messages c.steps.new.messages.messages name c.in-Some.place x (g.W.Seat.kept c.steps.new.seat) (step x) c.self.invariant here is sent
    ∙ found_settles c.args.stop w step c.args.none (worker_of workers name) x (step x) (found workers name c.in-Some.place x here) refl
    ∙ ap (λ (v : State). next_state c.args.stop v (worker_step name c.args.none c.args.cause c.args.at v)) c.self.view_is)

pub returns-in-Some-clause-err : goal.returns-in-Some-clause-err
returns-in-Some-clause-err g c = λ name at.
    let w : State = state (g.M.Seat.kept c.self.inside.master) (map g.W.Seat.kept c.self.inside.workers.items) c.self.inside.messages.messages in
    let workers = w.controllers.workers in
    let x = g.W.Seat.kept c.index_mut-seat.result.now in
    let step = step_on ordered_worker taken_by_worker c.args.cause c.args.at in
    let place : position (is_named name) workers ≡ Some c.in-Some.place = ap (λ (v : State). position (is_named name) v.controllers.workers) c.self.view_is ∙ at ∙ c.in-Some.is in
    let here : StandsAt workers name c.in-Some.place x = record { place = place; at = ap g.W.Seat.kept c.index_mut-seat.ensures.value ∙ map-get_or g.W.Seat.kept c.self.inside.workers.items c.in-Some.place c.index_mut-seat.result.now } in
    let found_step = sym (found_settled_as w step c.args.none (worker_of workers name) x (found workers name c.in-Some.place x here)) in
    let there : State = state w.controllers.master (set workers c.in-Some.place (g.W.Seat.kept c.steps.new.seat)) c.steps.new.messages.messages in
    let now : State = state w.controllers.master (map g.W.Seat.kept (set c.self.inside.workers.items c.in-Some.place c.steps.new.seat)) c.steps.new.messages.messages in
    let same : there ≡ now = sym (ap (λ ws. state w.controllers.master ws c.steps.new.messages.messages) (map-set g.W.Seat.kept c.self.inside.workers.items c.in-Some.place c.steps.new.seat)) in
    subst (λ (v : State). OnErr c.steps.result (IsUnknown v (worker_step name c.args.none c.args.cause c.args.at v) now)) c.self.view_is
    (subst (λ v. OnErr c.steps.result (IsUnknown w (worker_step name c.args.none c.args.cause c.args.at w) v)) same
    (subst (λ st. OnErr c.steps.result (IsUnknown w st there)) found_step
    (worker_unknown c.steps.result w.controllers.master workers w.messages c.steps.new.messages.messages name c.in-Some.place x (g.W.Seat.kept c.steps.new.seat) (step x) c.self.invariant here c.steps.ensures.err_stored c.steps.ensures.err_messages)))

pub returns-in-Some-clause-sure : goal.returns-in-Some-clause-sure
returns-in-Some-clause-sure g c =
    let w : State = state (g.M.Seat.kept c.self.inside.master) (map g.W.Seat.kept c.self.inside.workers.items) c.self.inside.messages.messages in
    let workers = w.controllers.workers in
    let x = g.W.Seat.kept c.index_mut-seat.result.now in
    let step = step_on ordered_worker taken_by_worker c.args.cause c.args.at in
    let name = c.requires.0 in
    let place : position (is_named name) workers ≡ Some c.in-Some.place = ap (λ (v : State). position (is_named name) v.controllers.workers) c.self.view_is ∙ c.requires.1 ∙ c.in-Some.is in
    let here : StandsAt workers name c.in-Some.place x = record { place = place; at = ap g.W.Seat.kept c.index_mut-seat.ensures.value ∙ map-get_or g.W.Seat.kept c.self.inside.workers.items c.in-Some.place c.index_mut-seat.result.now } in
    let there : State = state w.controllers.master (set workers c.in-Some.place (g.W.Seat.kept c.steps.new.seat)) c.steps.new.messages.messages in
    let now : State = state w.controllers.master (map g.W.Seat.kept (set c.self.inside.workers.items c.in-Some.place c.steps.new.seat)) c.steps.new.messages.messages in
    let same : there ≡ now = sym (ap (λ ws. state w.controllers.master ws c.steps.new.messages.messages) (map-set g.W.Seat.kept c.self.inside.workers.items c.in-Some.place c.steps.new.seat)) in
    subst (λ (v : State). OnErr c.steps.result (g.W.Seat.is_sure ≡ true → g.R.Carrier.is_direct ≡ true → now ≡ v)) c.self.view_is
    (subst (λ v. OnErr c.steps.result (g.W.Seat.is_sure ≡ true → g.R.Carrier.is_direct ≡ true → v ≡ w)) same
    (worker_same _ _ c.steps.result w.controllers.master workers w.messages c.steps.new.messages.messages name c.in-Some.place x (g.W.Seat.kept c.steps.new.seat) (step x) c.self.invariant here c.steps.ensures.sure c.steps.ensures.err_messages))
