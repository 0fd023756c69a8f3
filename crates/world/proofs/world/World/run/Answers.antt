use Rattle.std.proofs.Common.{◌≡◌, ◌<◌, ℕ, IfOk, List, OnErr, OnOk, length, refl, subst, take}
use Rattle.ticket_rows.specs.Ticket.{Job}
use Rattle.world.proofs.Runs.Answered.{if_ok_by, on_err_by}
use Rattle.world.proofs.Runs.Replayed.{cut_before}
use Rattle.world.proofs.Runs.Unknown.{err_by}
use Rattle.world.specs.Happening as happening
use Rattle.plain_shop.specs.MergeAudits.{MergeAuditsMatch}
use Rattle.plain_shop.specs.Replay as replay
use Rattle.world.specs.Showing.{shows}
use Rattle.world.specs.State.{State, opening}
use Rattle.world.proofs.world.World.run.Goals as goal

pub returns-clause-said : goal.returns-clause-said
returns-clause-said c =
    if_ok_by c.run.result c.in_memory.result _ c.in_memory.ensures.ok
    (subst (λ (v : State). IfOk c.run.result (λ answers. answers.items ≡ replay.answers_to c.args.events.items (shows v))) c.self.view_is c.run.ensures.said)

pub returns-clause-shown : goal.returns-clause-shown
returns-clause-shown c =
    if_ok_by c.run.result c.in_memory.result _ c.in_memory.ensures.ok
    (subst (λ (v : State). OnOk c.run.result (shows c.run.new.self ≡ replay.after_all c.args.events.items (shows v))) c.self.view_is c.run.ensures.shown)

pub returns-clause-answers : goal.returns-clause-answers
returns-clause-answers c =
    if_ok_by c.run.result c.in_memory.result _ c.in_memory.ensures.ok
    (subst (λ (v : State). IfOk c.run.result (λ answers. answers.items ≡ happening.answers_to c.args.events.items v)) c.self.view_is c.run.ensures.answers)

pub returns-clause-state : goal.returns-clause-state
returns-clause-state c =
    if_ok_by c.run.result c.in_memory.result _ c.in_memory.ensures.ok
    (subst (λ (v : State). OnOk c.run.result (c.run.new.self ≡ happening.after_all c.args.events.items v)) c.self.view_is c.run.ensures.state)

pub returns-clause-once : goal.returns-clause-once
returns-clause-once c = if_ok_by c.run.result c.in_memory.result _ c.in_memory.ensures.ok c.run.ensures.once

pub returns-clause-merges : goal.returns-clause-merges
returns-clause-merges c =
    if_ok_by c.run.result c.in_memory.result _ c.in_memory.ensures.ok
    (subst (λ (v : State). IfOk c.run.result (λ answers. (name : List ℕ) (workers : List (List ℕ)) (ticket : Job) → v ≡ opening name workers ticket → MergeAuditsMatch ticket answers.items (shows c.run.new.self).shop)) c.self.view_is c.run.ensures.merges)

-- ---- where memory runs out

pub returns-clause-err : goal.returns-clause-err
returns-clause-err c =
    on_err_by c.run.result c.in_memory.result _ c.in_memory.ensures.err
    (subst (λ (v : State). OnErr c.run.result ((k : ℕ) × (k < length c.args.events.items) × (c.run.new.self ≡ happening.after_all (take k c.args.events.items) v))) c.self.view_is
    (err_by c.run.result _ _ c.run.ensures.sure (λ sure. sure refl refl refl)))

pub returns-clause-cut : goal.returns-clause-cut
returns-clause-cut c =
    on_err_by c.run.result c.in_memory.result _ c.in_memory.ensures.err
    (subst (λ (v : State). OnErr c.run.result ((k : ℕ) × (k < length c.args.events.items) × (shows c.run.new.self ≡ replay.after_all (take k c.args.events.items) (shows v)))) c.self.view_is
    (err_by c.run.result _ _ c.run.ensures.sure (λ sure. cut_before c.args.events.items c.self.inside.seats c.run.new.self c.run.ensures.kept (sure refl refl refl))))
