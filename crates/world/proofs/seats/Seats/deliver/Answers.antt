use Rattle.std.proofs.Common.{◌≡◌, ◌∙◌, false, IfOk, OnErr, OnOk, Some, ap, map, refl, rules, sym, subst}
use Rattle.std.proofs.lemmas.Bool.{true≢false}
use Rattle.std.specs.List.{position}
use Rattle.std.specs.Str.{bytes_eq}
use Rattle.world.proofs.Shop.AlwaysKept.{message_there}
use Rattle.world.proofs.Runs.Answered.{on_err}
use Rattle.world.proofs.Runs.Seated.{place_seen}
use Rattle.world.proofs.Runs.Unknown.{err_by, not_made}
use Rattle.world.proofs.Runs.NeedsNoMemory.{comes, comes_to_master, comes_to_worker, no_message}
use Rattle.world.specs.Happening.{IsUnknown, delivery_step, next_answer, next_state}
use Rattle.world.specs.State.{IsConsistent, State, is_named, message_at}
use Rattle.world.proofs.seats.Seats.deliver.Goals as goal

pub returns-in_err-message-clause-unmade : goal.returns-in_err-message-clause-unmade
returns-in_err-message-clause-unmade g c =
    let w : State = c.args.self.now in
    λ unmade. absurd (true≢false (sym (c.in_err-message.ensures.none (no_message w c.args.number c.args.at (subst IsConsistent c.self.view_is c.self.invariant) unmade))))

pub tell_master-requires : goal.tell_master-requires
tell_master-requires g c =
    let w : State = c.args.self.now in
    let found : message_at w.messages c.args.number ≡ Some c.in-Some.message = sym c.in_ok-message.ensures.ok ∙ c.in-Some.is in
    let own : c.in-Some.message.receiver ≡ w.controllers.master.name = search rules in
    (message_there w.messages c.args.number c.in-Some.message found, own)

pub tell_worker-requires : goal.tell_worker-requires
tell_worker-requires g c =
    let w : State = c.args.self.now in
    let name = c.in-Some.message.receiver in
    let found : message_at w.messages c.args.number ≡ Some c.in-Some.message = sym c.in_ok-message.ensures.ok ∙ c.in-Some.is in
    let place : position (is_named name) w.controllers.workers ≡ c.place_of-place.result = sym (c.place_of-place.ensures ∙ place_seen g.W.Seat.kept name c.as_slice.result.now ∙ ap (position (is_named name)) (ap (map g.W.Seat.kept) c.as_slice.ensures.value ∙ ap (λ (v : State). v.controllers.workers) c.self.view_is)) in
    (name, place, (message_there w.messages c.args.number c.in-Some.message found, refl))

pub returns-then-eq-clause-unmade : goal.returns-then-eq-clause-unmade
returns-then-eq-clause-unmade g c =
    let w : State = c.args.self.now in
    let found : message_at w.messages c.args.number ≡ Some c.in-Some.message = sym c.in_ok-message.ensures.ok ∙ c.in-Some.is in
    λ unmade. comes w c.args.number c.args.at c.in-Some.message (subst IsConsistent c.self.view_is c.self.invariant) found unmade

pub returns-clause-unmade : goal.returns-clause-unmade
returns-clause-unmade g c =
    let w : State = c.args.self.now in
    let found : message_at w.messages c.args.number ≡ Some c.in-Some.message = sym c.in_ok-message.ensures.ok ∙ c.in-Some.is in
    λ unmade. comes w c.args.number c.args.at c.in-Some.message (subst IsConsistent c.self.view_is c.self.invariant) found unmade

pub returns-in_err-message-clause-err : goal.returns-in_err-message-clause-err
returns-in_err-message-clause-err g c = on_err _ c.from_residual.result (not_made c.args.self.now (delivery_step c.args.number c.args.at c.args.self.now))

pub returns-then-eq-clause-sure : goal.returns-then-eq-clause-sure
returns-then-eq-clause-sure g c = err_by c.tell_master.result _ _ c.tell_master.ensures.sure (λ sure master workers direct. sure master direct)

pub returns-clause-sure : goal.returns-clause-sure
returns-clause-sure g c = err_by c.tell_worker.result _ _ c.tell_worker.ensures.sure (λ sure master workers direct. sure workers direct)

-- ---- the receiver's step

pub returns-then-eq-clause-answer : goal.returns-then-eq-clause-answer
returns-then-eq-clause-answer g c =
    let w : State = c.args.self.now in
    let found : message_at w.messages c.args.number ≡ Some c.in-Some.message = sym c.in_ok-message.ensures.ok ∙ c.in-Some.is in
    let own : c.in-Some.message.receiver ≡ w.controllers.master.name = search rules in
    let is = sym (comes_to_master w c.args.number c.args.at c.in-Some.message found own) in
    subst (λ st. IfOk c.tell_master.result (λ a. a ≡ next_answer c.args.stop w st)) is c.tell_master.ensures.answer

pub returns-then-eq-clause-state : goal.returns-then-eq-clause-state
returns-then-eq-clause-state g c =
    let w : State = c.args.self.now in
    let found : message_at w.messages c.args.number ≡ Some c.in-Some.message = sym c.in_ok-message.ensures.ok ∙ c.in-Some.is in
    let own : c.in-Some.message.receiver ≡ w.controllers.master.name = search rules in
    let is = sym (comes_to_master w c.args.number c.args.at c.in-Some.message found own) in
    subst (λ st. OnOk c.tell_master.result (c.tell_master.new.self ≡ next_state c.args.stop w st)) is c.tell_master.ensures.state

pub returns-then-eq-clause-err : goal.returns-then-eq-clause-err
returns-then-eq-clause-err g c =
    let w : State = c.args.self.now in
    let found : message_at w.messages c.args.number ≡ Some c.in-Some.message = sym c.in_ok-message.ensures.ok ∙ c.in-Some.is in
    let own : c.in-Some.message.receiver ≡ w.controllers.master.name = search rules in
    let is = sym (comes_to_master w c.args.number c.args.at c.in-Some.message found own) in
    subst (λ st. OnErr c.tell_master.result (IsUnknown w st c.tell_master.new.self)) is c.tell_master.ensures.err

pub returns-clause-answer : goal.returns-clause-answer
returns-clause-answer g c =
    let w : State = c.args.self.now in
    let found : message_at w.messages c.args.number ≡ Some c.in-Some.message = sym c.in_ok-message.ensures.ok ∙ c.in-Some.is in
    let name = c.in-Some.message.receiver in
    let other : bytes_eq name w.controllers.master.name ≡ false = search rules in
    let is = sym (comes_to_worker w c.args.number c.args.at c.in-Some.message found other) in
    let place : position (is_named name) w.controllers.workers ≡ c.place_of-place.result = sym (c.place_of-place.ensures ∙ place_seen g.W.Seat.kept name c.as_slice.result.now ∙ ap (position (is_named name)) (ap (map g.W.Seat.kept) c.as_slice.ensures.value ∙ ap (λ (v : State). v.controllers.workers) c.self.view_is)) in
    subst (λ st. IfOk c.tell_worker.result (λ a. a ≡ next_answer c.args.stop w st)) is (c.tell_worker.ensures.answer name place)

pub returns-clause-state : goal.returns-clause-state
returns-clause-state g c =
    let w : State = c.args.self.now in
    let found : message_at w.messages c.args.number ≡ Some c.in-Some.message = sym c.in_ok-message.ensures.ok ∙ c.in-Some.is in
    let name = c.in-Some.message.receiver in
    let other : bytes_eq name w.controllers.master.name ≡ false = search rules in
    let is = sym (comes_to_worker w c.args.number c.args.at c.in-Some.message found other) in
    let place : position (is_named name) w.controllers.workers ≡ c.place_of-place.result = sym (c.place_of-place.ensures ∙ place_seen g.W.Seat.kept name c.as_slice.result.now ∙ ap (position (is_named name)) (ap (map g.W.Seat.kept) c.as_slice.ensures.value ∙ ap (λ (v : State). v.controllers.workers) c.self.view_is)) in
    subst (λ st. OnOk c.tell_worker.result (c.tell_worker.new.self ≡ next_state c.args.stop w st)) is (c.tell_worker.ensures.state name place)

pub returns-clause-err : goal.returns-clause-err
returns-clause-err g c =
    let w : State = c.args.self.now in
    let found : message_at w.messages c.args.number ≡ Some c.in-Some.message = sym c.in_ok-message.ensures.ok ∙ c.in-Some.is in
    let name = c.in-Some.message.receiver in
    let other : bytes_eq name w.controllers.master.name ≡ false = search rules in
    let is = sym (comes_to_worker w c.args.number c.args.at c.in-Some.message found other) in
    let place : position (is_named name) w.controllers.workers ≡ c.place_of-place.result = sym (c.place_of-place.ensures ∙ place_seen g.W.Seat.kept name c.as_slice.result.now ∙ ap (position (is_named name)) (ap (map g.W.Seat.kept) c.as_slice.ensures.value ∙ ap (λ (v : State). v.controllers.workers) c.self.view_is)) in
    subst (λ st. OnErr c.tell_worker.result (IsUnknown w st c.tell_worker.new.self)) is (c.tell_worker.ensures.err name place)
