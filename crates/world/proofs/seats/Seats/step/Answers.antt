use Rattle.std.proofs.Common.{◌≡◌, ◌∙◌, IfOk, OnOk, ap, map, refl, subst, sym}
use Rattle.std.specs.List.{position}
use Rattle.world.proofs.Shop.Changing.{alone, by_holders, kept_then}
use Rattle.world.proofs.Runs.Replayed.{said_so, shown_so}
use Rattle.world.proofs.Runs.Stopped.{stop_so, stopped_so}
use Rattle.world.proofs.Runs.Seated.{place_seen}
use Rattle.world.proofs.Runs.Unknown.{err_by, unknown_same}
use Rattle.world.proofs.Runs.NeedsNoMemory.{unplaced}
use Rattle.ticket_items.specs.declared.refusal.Refusal.TheVariants.{UnknownWorker}
use Rattle.stored_state.specs.declared.cause.StepInput.TheVariants.{Order}
use Rattle.world.specs.Happening.{is_reached, next_answer, next_state, restart_word, step_of}
use Rattle.world.specs.State.{State, is_named}
use Rattle.world_items.specs.declared.what.What.TheVariants.{MasterOrder, WorkerOrder, Deliver, Restart}
use Rattle.world_items.specs.declared.word.Word.TheVariants.{Refused}
use Rattle.world.proofs.seats.Seats.step.Goals as goal

-- ---- what is answered, and what is shown then

pub returns-in-MasterOrder-clause-said : goal.returns-in-MasterOrder-clause-said
returns-in-MasterOrder-clause-said g c = said_so c.tell_master.result c.args.event (MasterOrder c.in-MasterOrder.order) c.args.self.now c.tell_master.ensures.kept c.in-MasterOrder.is c.tell_master.ensures.answer

pub returns-in-MasterOrder-clause-shown : goal.returns-in-MasterOrder-clause-shown
returns-in-MasterOrder-clause-shown g c = shown_so c.tell_master.result c.args.event (MasterOrder c.in-MasterOrder.order) c.args.self.now c.tell_master.new.self c.tell_master.ensures.kept c.in-MasterOrder.is c.tell_master.ensures.state

pub returns-in-WorkerOrder-clause-said : goal.returns-in-WorkerOrder-clause-said
returns-in-WorkerOrder-clause-said g c =
    let place = sym (c.place_of-place.ensures ∙ place_seen g.W.Seat.kept c.in-WorkerOrder.name c.as_slice.result.now ∙ ap (position (is_named c.in-WorkerOrder.name)) (ap (map g.W.Seat.kept) c.as_slice.ensures.value ∙ ap (λ (v : State). v.controllers.workers) c.self.view_is)) in
    said_so c.tell_worker.result c.args.event (WorkerOrder c.in-WorkerOrder.name c.in-WorkerOrder.order) c.args.self.now c.tell_worker.ensures.kept c.in-WorkerOrder.is (c.tell_worker.ensures.answer c.in-WorkerOrder.name place)

pub returns-in-WorkerOrder-clause-shown : goal.returns-in-WorkerOrder-clause-shown
returns-in-WorkerOrder-clause-shown g c =
    let place = sym (c.place_of-place.ensures ∙ place_seen g.W.Seat.kept c.in-WorkerOrder.name c.as_slice.result.now ∙ ap (position (is_named c.in-WorkerOrder.name)) (ap (map g.W.Seat.kept) c.as_slice.ensures.value ∙ ap (λ (v : State). v.controllers.workers) c.self.view_is)) in
    shown_so c.tell_worker.result c.args.event (WorkerOrder c.in-WorkerOrder.name c.in-WorkerOrder.order) c.args.self.now c.tell_worker.new.self c.tell_worker.ensures.kept c.in-WorkerOrder.is (c.tell_worker.ensures.state c.in-WorkerOrder.name place)

pub returns-in-WorkerOrder-clause-unmade : goal.returns-in-WorkerOrder-clause-unmade
returns-in-WorkerOrder-clause-unmade g c =
    let w : State = c.args.self.now in
    let place = sym (c.place_of-place.ensures ∙ place_seen g.W.Seat.kept c.in-WorkerOrder.name c.as_slice.result.now ∙ ap (position (is_named c.in-WorkerOrder.name)) (ap (map g.W.Seat.kept) c.as_slice.ensures.value ∙ ap (λ (v : State). v.controllers.workers) c.self.view_is)) in
    λ unmade. c.tell_worker.ensures.unmade (unplaced c.in-WorkerOrder.name (Refused UnknownWorker) (Order c.in-WorkerOrder.order) c.args.event.at w c.place_of-place.result place (ap (λ what. is_reached (step_of what c.args.event.at w)) (sym c.in-WorkerOrder.is) ∙ unmade))

pub returns-in-Deliver-clause-said : goal.returns-in-Deliver-clause-said
returns-in-Deliver-clause-said g c = said_so c.deliver.result c.args.event (Deliver c.in-Deliver.number) c.args.self.now c.deliver.ensures.kept c.in-Deliver.is c.deliver.ensures.answer

pub returns-in-Deliver-clause-shown : goal.returns-in-Deliver-clause-shown
returns-in-Deliver-clause-shown g c = shown_so c.deliver.result c.args.event (Deliver c.in-Deliver.number) c.args.self.now c.deliver.new.self c.deliver.ensures.kept c.in-Deliver.is c.deliver.ensures.state

pub returns-in-Restart-clause-said : goal.returns-in-Restart-clause-said
returns-in-Restart-clause-said g c = said_so c.restart.result c.args.event (Restart c.in-Restart.name) c.args.self.now c.restart.ensures.kept c.in-Restart.is c.restart.ensures.answer

pub returns-in-Restart-clause-shown : goal.returns-in-Restart-clause-shown
returns-in-Restart-clause-shown g c = shown_so c.restart.result c.args.event (Restart c.in-Restart.name) c.args.self.now c.restart.new.self c.restart.ensures.kept c.in-Restart.is c.restart.ensures.state

-- ---- who may change what then

pub returns-in-MasterOrder-clause-alone : goal.returns-in-MasterOrder-clause-alone
returns-in-MasterOrder-clause-alone g c = alone c.tell_master.new.self (kept_then c.tell_master.result (MasterOrder c.in-MasterOrder.order) c.args.event.at c.args.event.stop c.args.self.now c.tell_master.new.self c.tell_master.ensures.kept c.tell_master.ensures.state c.tell_master.ensures.err)

pub returns-in-MasterOrder-clause-held : goal.returns-in-MasterOrder-clause-held
returns-in-MasterOrder-clause-held g c = by_holders c.tell_master.new.self (kept_then c.tell_master.result (MasterOrder c.in-MasterOrder.order) c.args.event.at c.args.event.stop c.args.self.now c.tell_master.new.self c.tell_master.ensures.kept c.tell_master.ensures.state c.tell_master.ensures.err)

pub returns-in-WorkerOrder-clause-alone : goal.returns-in-WorkerOrder-clause-alone
returns-in-WorkerOrder-clause-alone g c =
    let place = sym (c.place_of-place.ensures ∙ place_seen g.W.Seat.kept c.in-WorkerOrder.name c.as_slice.result.now ∙ ap (position (is_named c.in-WorkerOrder.name)) (ap (map g.W.Seat.kept) c.as_slice.ensures.value ∙ ap (λ (v : State). v.controllers.workers) c.self.view_is)) in
    alone c.tell_worker.new.self (kept_then c.tell_worker.result (WorkerOrder c.in-WorkerOrder.name c.in-WorkerOrder.order) c.args.event.at c.args.event.stop c.args.self.now c.tell_worker.new.self c.tell_worker.ensures.kept (c.tell_worker.ensures.state c.in-WorkerOrder.name place) (c.tell_worker.ensures.err c.in-WorkerOrder.name place))

pub returns-in-WorkerOrder-clause-held : goal.returns-in-WorkerOrder-clause-held
returns-in-WorkerOrder-clause-held g c =
    let place = sym (c.place_of-place.ensures ∙ place_seen g.W.Seat.kept c.in-WorkerOrder.name c.as_slice.result.now ∙ ap (position (is_named c.in-WorkerOrder.name)) (ap (map g.W.Seat.kept) c.as_slice.ensures.value ∙ ap (λ (v : State). v.controllers.workers) c.self.view_is)) in
    by_holders c.tell_worker.new.self (kept_then c.tell_worker.result (WorkerOrder c.in-WorkerOrder.name c.in-WorkerOrder.order) c.args.event.at c.args.event.stop c.args.self.now c.tell_worker.new.self c.tell_worker.ensures.kept (c.tell_worker.ensures.state c.in-WorkerOrder.name place) (c.tell_worker.ensures.err c.in-WorkerOrder.name place))

pub returns-in-Deliver-clause-alone : goal.returns-in-Deliver-clause-alone
returns-in-Deliver-clause-alone g c = alone c.deliver.new.self (kept_then c.deliver.result (Deliver c.in-Deliver.number) c.args.event.at c.args.event.stop c.args.self.now c.deliver.new.self c.deliver.ensures.kept c.deliver.ensures.state c.deliver.ensures.err)

pub returns-in-Deliver-clause-held : goal.returns-in-Deliver-clause-held
returns-in-Deliver-clause-held g c = by_holders c.deliver.new.self (kept_then c.deliver.result (Deliver c.in-Deliver.number) c.args.event.at c.args.event.stop c.args.self.now c.deliver.new.self c.deliver.ensures.kept c.deliver.ensures.state c.deliver.ensures.err)

pub returns-in-Restart-clause-alone : goal.returns-in-Restart-clause-alone
returns-in-Restart-clause-alone g c = alone c.restart.new.self (kept_then c.restart.result (Restart c.in-Restart.name) c.args.event.at c.args.event.stop c.args.self.now c.restart.new.self c.restart.ensures.kept c.restart.ensures.state (unknown_same c.restart.result c.args.self.now c.restart.new.self (restart_word c.in-Restart.name c.args.self.now) c.restart.ensures.err))

pub returns-in-Restart-clause-held : goal.returns-in-Restart-clause-held
returns-in-Restart-clause-held g c = by_holders c.restart.new.self (kept_then c.restart.result (Restart c.in-Restart.name) c.args.event.at c.args.event.stop c.args.self.now c.restart.new.self c.restart.ensures.kept c.restart.ensures.state (unknown_same c.restart.result c.args.self.now c.restart.new.self (restart_word c.in-Restart.name c.args.self.now) c.restart.ensures.err))

-- ---- where it isn't known how far the event came

pub returns-in-MasterOrder-clause-err : goal.returns-in-MasterOrder-clause-err
returns-in-MasterOrder-clause-err g c = stopped_so c.tell_master.result c.args.event (MasterOrder c.in-MasterOrder.order) c.args.self.now c.tell_master.new.self c.in-MasterOrder.is c.tell_master.ensures.err

pub returns-in-MasterOrder-clause-cut : goal.returns-in-MasterOrder-clause-cut
returns-in-MasterOrder-clause-cut g c = stop_so c.tell_master.result c.args.event (MasterOrder c.in-MasterOrder.order) c.args.self.now c.tell_master.new.self c.tell_master.ensures.kept c.in-MasterOrder.is c.tell_master.ensures.err

pub returns-in-WorkerOrder-clause-err : goal.returns-in-WorkerOrder-clause-err
returns-in-WorkerOrder-clause-err g c =
    let place = sym (c.place_of-place.ensures ∙ place_seen g.W.Seat.kept c.in-WorkerOrder.name c.as_slice.result.now ∙ ap (position (is_named c.in-WorkerOrder.name)) (ap (map g.W.Seat.kept) c.as_slice.ensures.value ∙ ap (λ (v : State). v.controllers.workers) c.self.view_is)) in
    stopped_so c.tell_worker.result c.args.event (WorkerOrder c.in-WorkerOrder.name c.in-WorkerOrder.order) c.args.self.now c.tell_worker.new.self c.in-WorkerOrder.is (c.tell_worker.ensures.err c.in-WorkerOrder.name place)

pub returns-in-WorkerOrder-clause-cut : goal.returns-in-WorkerOrder-clause-cut
returns-in-WorkerOrder-clause-cut g c =
    let place = sym (c.place_of-place.ensures ∙ place_seen g.W.Seat.kept c.in-WorkerOrder.name c.as_slice.result.now ∙ ap (position (is_named c.in-WorkerOrder.name)) (ap (map g.W.Seat.kept) c.as_slice.ensures.value ∙ ap (λ (v : State). v.controllers.workers) c.self.view_is)) in
    stop_so c.tell_worker.result c.args.event (WorkerOrder c.in-WorkerOrder.name c.in-WorkerOrder.order) c.args.self.now c.tell_worker.new.self c.tell_worker.ensures.kept c.in-WorkerOrder.is (c.tell_worker.ensures.err c.in-WorkerOrder.name place)

pub returns-in-Deliver-clause-err : goal.returns-in-Deliver-clause-err
returns-in-Deliver-clause-err g c = stopped_so c.deliver.result c.args.event (Deliver c.in-Deliver.number) c.args.self.now c.deliver.new.self c.in-Deliver.is c.deliver.ensures.err

pub returns-in-Deliver-clause-cut : goal.returns-in-Deliver-clause-cut
returns-in-Deliver-clause-cut g c = stop_so c.deliver.result c.args.event (Deliver c.in-Deliver.number) c.args.self.now c.deliver.new.self c.deliver.ensures.kept c.in-Deliver.is c.deliver.ensures.err

pub returns-in-Restart-clause-err : goal.returns-in-Restart-clause-err
returns-in-Restart-clause-err g c = stopped_so c.restart.result c.args.event (Restart c.in-Restart.name) c.args.self.now c.restart.new.self c.in-Restart.is (unknown_same c.restart.result c.args.self.now c.restart.new.self (restart_word c.in-Restart.name c.args.self.now) c.restart.ensures.err)

pub returns-in-Restart-clause-cut : goal.returns-in-Restart-clause-cut
returns-in-Restart-clause-cut g c = stop_so c.restart.result c.args.event (Restart c.in-Restart.name) c.args.self.now c.restart.new.self c.restart.ensures.kept c.in-Restart.is (unknown_same c.restart.result c.args.self.now c.restart.new.self (restart_word c.in-Restart.name c.args.self.now) c.restart.ensures.err)

pub returns-in-MasterOrder-clause-sure : goal.returns-in-MasterOrder-clause-sure
returns-in-MasterOrder-clause-sure g c = err_by c.tell_master.result _ _ c.tell_master.ensures.sure (λ sure master workers direct. sure master refl)

pub returns-in-WorkerOrder-clause-sure : goal.returns-in-WorkerOrder-clause-sure
returns-in-WorkerOrder-clause-sure g c = err_by c.tell_worker.result _ _ c.tell_worker.ensures.sure (λ sure master workers direct. sure workers refl)

pub returns-in-Restart-clause-sure : goal.returns-in-Restart-clause-sure
returns-in-Restart-clause-sure g c = err_by c.restart.result _ _ c.restart.ensures.err (λ same master workers direct. same)

-- ---- the worker that is told

pub tell_worker-requires : goal.tell_worker-requires
tell_worker-requires g c =
    let place = sym (c.place_of-place.ensures ∙ place_seen g.W.Seat.kept c.in-WorkerOrder.name c.as_slice.result.now ∙ ap (position (is_named c.in-WorkerOrder.name)) (ap (map g.W.Seat.kept) c.as_slice.ensures.value ∙ ap (λ (v : State). v.controllers.workers) c.self.view_is)) in
    (c.in-WorkerOrder.name, place, tt)

pub returns-in-WorkerOrder-clause-answer : goal.returns-in-WorkerOrder-clause-answer
returns-in-WorkerOrder-clause-answer g c =
    let w : State = c.args.self.now in
    let place = sym (c.place_of-place.ensures ∙ place_seen g.W.Seat.kept c.in-WorkerOrder.name c.as_slice.result.now ∙ ap (position (is_named c.in-WorkerOrder.name)) (ap (map g.W.Seat.kept) c.as_slice.ensures.value ∙ ap (λ (v : State). v.controllers.workers) c.self.view_is)) in
    subst (λ what. IfOk c.tell_worker.result (λ a. a ≡ next_answer c.args.event.stop w (step_of what c.args.event.at w))) (sym c.in-WorkerOrder.is) (c.tell_worker.ensures.answer c.in-WorkerOrder.name place)

pub returns-in-WorkerOrder-clause-state : goal.returns-in-WorkerOrder-clause-state
returns-in-WorkerOrder-clause-state g c =
    let w : State = c.args.self.now in
    let place = sym (c.place_of-place.ensures ∙ place_seen g.W.Seat.kept c.in-WorkerOrder.name c.as_slice.result.now ∙ ap (position (is_named c.in-WorkerOrder.name)) (ap (map g.W.Seat.kept) c.as_slice.ensures.value ∙ ap (λ (v : State). v.controllers.workers) c.self.view_is)) in
    subst (λ what. OnOk c.tell_worker.result (c.tell_worker.new.self ≡ next_state c.args.event.stop w (step_of what c.args.event.at w))) (sym c.in-WorkerOrder.is) (c.tell_worker.ensures.state c.in-WorkerOrder.name place)
