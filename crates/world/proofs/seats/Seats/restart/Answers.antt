use Rattle.std.proofs.Common.{◌≡◌, ◌∙◌, true, false, Err, ap, map, set, subst, sym, rules}
use Rattle.std.proofs.lemmas.Bool.{true≢false}
use Rattle.std.specs.Str.{bytes_eq}
use Rattle.world.proofs.Runs.Answered.{on_err}
use Rattle.world.proofs.Runs.Restarts.{none_restarts, worker_restarts}
use Rattle.world.proofs.Runs.Seated.{map-get_or, place_seen, same_there}
use Rattle.world.proofs.Worker.Places.{StandsAt, found, none_there, stands_at}
use Rattle.world.specs.Happening.{is_reached, restart_word}
use Rattle.plain_shop.specs.Settling.{answer_without_step}
use Rattle.world.specs.State.{IsConsistent, State, state}
use Rattle.world_items.specs.declared.word.Word.TheVariants.{Restarted}
use Rattle.world.proofs.seats.Seats.restart.Goals as goal

pub returns-in_err-restart-in-Some-clause-unmade : goal.returns-in_err-restart-in-Some-clause-unmade
returns-in_err-restart-in-Some-clause-unmade g c =
    let w : State = state (g.M.Seat.kept c.self.inside.master) (map g.W.Seat.kept c.self.inside.workers.items) c.self.inside.messages.messages in
    let workers = w.controllers.workers in
    let name = c.args.name.now in
    let x = g.W.Seat.kept c.index_mut-seat.result.now in
    let here : StandsAt workers name c.in-Some.place x = stands_at workers (map g.W.Seat.kept c.as_slice.result.now) name c.in-Some.place x (ap (map g.W.Seat.kept) c.as_slice.ensures.value) (sym (c.in-Some.ensures ∙ place_seen g.W.Seat.kept name c.as_slice.result.now)) (ap g.W.Seat.kept c.index_mut-seat.ensures.value ∙ map-get_or g.W.Seat.kept c.self.inside.workers.items c.in-Some.place c.index_mut-seat.result.now) in
    let word : Restarted ≡ restart_word name c.args.self.now = worker_restarts w name x (found workers name c.in-Some.place x here) ∙ ap (restart_word name) c.self.view_is in
    let reached : true ≡ is_reached (Err (restart_word name c.args.self.now)) = ap (λ said. is_reached (Err said)) word in
    λ unmade. absurd (true≢false (reached ∙ unmade))

pub returns-in-None-clause-answer : goal.returns-in-None-clause-answer
returns-in-None-clause-answer g c =
    let w : State = state (g.M.Seat.kept c.self.inside.master) (map g.W.Seat.kept c.self.inside.workers.items) c.self.inside.messages.messages in
    let name = c.args.name.now in
    let none = none_there w.controllers.workers (map g.W.Seat.kept c.as_slice.result.now) name (ap (map g.W.Seat.kept) c.as_slice.ensures.value) (sym (c.in-None.ensures ∙ place_seen g.W.Seat.kept name c.as_slice.result.now)) in
    let other : bytes_eq name w.controllers.master.name ≡ false = search rules in
    c.without_step-in-None.ensures ∙ ap answer_without_step (none_restarts w name other none ∙ ap (restart_word name) c.self.view_is)

pub returns-in_ok-restart-in-Some-clause-answer : goal.returns-in_ok-restart-in-Some-clause-answer
returns-in_ok-restart-in-Some-clause-answer g c =
    let w : State = state (g.M.Seat.kept c.self.inside.master) (map g.W.Seat.kept c.self.inside.workers.items) c.self.inside.messages.messages in
    let workers = w.controllers.workers in
    let name = c.args.name.now in
    let x = g.W.Seat.kept c.index_mut-seat.result.now in
    let here : StandsAt workers name c.in-Some.place x = stands_at workers (map g.W.Seat.kept c.as_slice.result.now) name c.in-Some.place x (ap (map g.W.Seat.kept) c.as_slice.ensures.value) (sym (c.in-Some.ensures ∙ place_seen g.W.Seat.kept name c.as_slice.result.now)) (ap g.W.Seat.kept c.index_mut-seat.ensures.value ∙ map-get_or g.W.Seat.kept c.self.inside.workers.items c.in-Some.place c.index_mut-seat.result.now) in
    c.without_step-in-Some.ensures ∙ ap answer_without_step (worker_restarts w name x (found workers name c.in-Some.place x here) ∙ ap (restart_word name) c.self.view_is)

-- ---- started again at its place

pub invariant_of-self-in_err-restart-in-Some : goal.invariant_of-self-in_err-restart-in-Some
invariant_of-self-in_err-restart-in-Some g c =
    let w : State = state (g.M.Seat.kept c.self.inside.master) (map g.W.Seat.kept c.self.inside.workers.items) c.self.inside.messages.messages in
    let same = same_there g.W.Seat.kept c.self.inside.workers.items c.in-Some.place c.index_mut-seat.result.now c.restart-in-Some.new.self c.index_mut-seat.ensures.value c.restart-in-Some.ensures.state in
    let now : state w.controllers.master (map g.W.Seat.kept (set c.self.inside.workers.items c.in-Some.place c.restart-in-Some.new.self)) w.messages ≡ w = ap (λ ws. state w.controllers.master ws w.messages) same in
    subst IsConsistent (sym now) c.self.invariant

pub invariant_of-self-in-Some : goal.invariant_of-self-in-Some
invariant_of-self-in-Some g c =
    let w : State = state (g.M.Seat.kept c.self.inside.master) (map g.W.Seat.kept c.self.inside.workers.items) c.self.inside.messages.messages in
    let same = same_there g.W.Seat.kept c.self.inside.workers.items c.in-Some.place c.index_mut-seat.result.now c.restart-in-Some.new.self c.index_mut-seat.ensures.value c.restart-in-Some.ensures.state in
    let now : state w.controllers.master (map g.W.Seat.kept (set c.self.inside.workers.items c.in-Some.place c.restart-in-Some.new.self)) w.messages ≡ w = ap (λ ws. state w.controllers.master ws w.messages) same in
    subst IsConsistent (sym now) c.self.invariant

pub returns-in_err-restart-in-Some-clause-err : goal.returns-in_err-restart-in-Some-clause-err
returns-in_err-restart-in-Some-clause-err g c =
    let w : State = state (g.M.Seat.kept c.self.inside.master) (map g.W.Seat.kept c.self.inside.workers.items) c.self.inside.messages.messages in
    let same = same_there g.W.Seat.kept c.self.inside.workers.items c.in-Some.place c.index_mut-seat.result.now c.restart-in-Some.new.self c.index_mut-seat.ensures.value c.restart-in-Some.ensures.state in
    let now : state w.controllers.master (map g.W.Seat.kept (set c.self.inside.workers.items c.in-Some.place c.restart-in-Some.new.self)) w.messages ≡ w = ap (λ ws. state w.controllers.master ws w.messages) same in
    on_err _ c.from_residual-in_err-restart-in-Some.result (now ∙ c.self.view_is)

pub returns-in_ok-restart-in-Some-clause-state : goal.returns-in_ok-restart-in-Some-clause-state
returns-in_ok-restart-in-Some-clause-state g c =
    let w : State = state (g.M.Seat.kept c.self.inside.master) (map g.W.Seat.kept c.self.inside.workers.items) c.self.inside.messages.messages in
    let same = same_there g.W.Seat.kept c.self.inside.workers.items c.in-Some.place c.index_mut-seat.result.now c.restart-in-Some.new.self c.index_mut-seat.ensures.value c.restart-in-Some.ensures.state in
    let now : state w.controllers.master (map g.W.Seat.kept (set c.self.inside.workers.items c.in-Some.place c.restart-in-Some.new.self)) w.messages ≡ w = ap (λ ws. state w.controllers.master ws w.messages) same in
    now ∙ c.self.view_is
