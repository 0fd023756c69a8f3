-- Where the part of a spawn was put in, the work on its entry has ended, and where a spawn was withdrawn, its entry is declined: also after each step.
use Rattle.std.proofs.Common.{◌≡◌, ℕ, true, false, IsSomeAnd, List, Some, Result, Err, inl, inr, refl, sym, ap, ◌∙◌, subst, arith, get_or, slice_get}
use Rattle.std.proofs.lemmas.Bool.{true≢false}
use Rattle.std.proofs.lemmas.List.Elements.{All-map, All-push, All-weaker}
use Rattle.std.proofs.lemmas.Option.{slice_get-get_or}
use Rattle.std.specs.List.{All}
use Rattle.controller.specs.Reply.{spawn_in}
use Rattle.controller.specs.declared.body.Body.{Body}
use Rattle.controller.specs.declared.body.Body.TheVariants.{Answer, Return}
use Rattle.controller.specs.declared.command.Command.TheVariants as command
use Rattle.controller.specs.declared.message.Message.{Message}
use Rattle.controller.specs.declared.queue_status.QueueStatus.{QueueStatus}
use Rattle.ticket_items.proofs.Places.{same_found}
use Rattle.ticket_items.specs.Refusal.{number_of}
use Rattle.ticket_items.specs.declared.refusal.Refusal.TheVariants as refusals
use Rattle.ticket_tree.specs.Part.{PartCopy}
use Rattle.spawn.proofs.Lawful.{placed}
use Rattle.spawn.specs.Records.{is_out_phase}
use Rattle.spawn.specs.declared.records.phase.Phase.{Phase}
use Rattle.spawn.specs.declared.records.phase.Phase.TheVariants.{Out, Merged, Withdrawn}
use Rattle.spawn.specs.declared.records.spawn_rec.SpawnRec.{SpawnRec}
use Rattle.master_core.proofs.MessageLaws.{message_ends_spawns}
use Rattle.master_core.proofs.Recorded.{phase_if, phase_or}
use Rattle.master_core.specs.Master.{IsNumbered, State, is_of, record_of, with_phase}
use Rattle.master_core.specs.Messages.{take_step}
use Rattle.master_core.specs.Orders.{allowed_step}
use Rattle.world_items.specs.declared.master_order.Order.{Order}
use Rattle.world_items.specs.declared.master_order.Order.TheVariants as order
use Rattle.worker_core.proofs.Closing.{closed_declined, closed_ended, declined_shut, ended_shut}
use Rattle.worker_core.specs.Worker.{closed_entry, is_declined, is_declined_stage, is_open, response_of_stage}
use Rattle.worker_core.specs.declared.entry.Entry.{Entry}
use Rattle.worker_core.specs.declared.stage.Stage.{Stage}
use Rattle.worker_core.specs.declared.stage.Stage.TheVariants as stage
use Rattle.world.proofs.Messages.StaysLater.{AreLater, entry_later}
use Rattle.world.proofs.Worker.Stored.{and_found, found_and}
use Rattle.world.specs.Controllers.{Controllers}
use Rattle.world.specs.Messages.{HasComeBack, IsBack, IsInOrder, SaysRight, entry_for}

-- such an entry isn't open, and is so once it is closed
pub back_shut : (phase : Phase) (e : Entry) → is_out_phase phase ≡ false → IsBack phase e → is_open e ≡ false
back_shut Out e isn't is = absurd (true≢false isn't)
back_shut Merged e isn't is = (ended_shut e is).0
back_shut Withdrawn e isn't is = declined_shut e is

back_closes : (phase : Phase) (e : Entry) → IsBack phase e → IsBack phase (closed_entry e)
back_closes Out e is = tt
back_closes Merged e is = closed_ended e ∙ is
back_closes Withdrawn e is = ap is_declined (closed_declined e is) ∙ is

-- what has come back has come back later
pub back_later : (c d : Controllers) (records : List SpawnRec) → AreLater c d → All (HasComeBack c) records → All (HasComeBack d) records
back_later c d records later all =
    All-weaker (HasComeBack c) (HasComeBack d) (λ r back isn't. entry_later c d r r (IsBack r.phase) (IsBack r.phase) later refl refl (λ e is. back_shut r.phase e isn't is) (λ e is. is) (λ e is. back_closes r.phase e is) (back isn't)) records all

-- ---- orders

-- a record that an order adds is out
pub ordered_back : (o : Order) (at : ℕ) (c : Controllers) → All (HasComeBack c) c.master.records → All (HasComeBack c) (allowed_step o at c.master).next.records
ordered_back (order.Edit e) at c all = all
ordered_back (order.Spawn node worker rw) at c all = All-push (HasComeBack c) c.master.records _ all (λ isn't. absurd (true≢false isn't))
ordered_back (order.Resend s) at c all = all
ordered_back (order.Withdraw s) at c all = all

-- ---- messages

-- a record of a number is the one that is found by it
pub one_record : (records : List SpawnRec) (k s : ℕ) (r q : SpawnRec) → IsNumbered records → slice_get records k ≡ Some r → record_of records s ≡ Some q → r.id ≡ q.id → r ≡ q
one_record records k s r q numbered there found same =
    let place = placed (is_of s) records q found in
    let one : k ≡ place.place = omega (arith, numbered k r there, numbered place.place q place.there, same) in
    same_found r q (slice_get records k) there (ap (slice_get records) one ∙ place.there)

phase_back : (phase : Phase) (c : Controllers) (records : List SpawnRec) (s : ℕ) (q : SpawnRec) → IsNumbered records → record_of records s ≡ Some q → IsSomeAnd (entry_for c q) (IsBack phase) → All (HasComeBack c) records → All (HasComeBack c) (with_phase phase q.id records)
phase_back phase c records s q numbered found back all =
    All-map (HasComeBack c) (phase_if phase q.id) records (λ k d within.
    let r = get_or records k d in
    elim (phase_or phase q.id r) [
      | inl own ↦
          let same : r ≡ q = one_record records k s r q numbered (slice_get-get_or records k d within) found own.0 in
          subst (HasComeBack c) (sym own.1) (λ isn't. subst (λ p. IsSomeAnd (entry_for c p) (IsBack phase)) (sym same) back)
      | inr other ↦ subst (HasComeBack c) (sym other.1) (all k d within)
    ])

-- a part that comes back says that the work has ended
ended_so : (c : Controllers) (m : Message) (p : PartCopy) (r q : SpawnRec) (body : Body) → body ≡ Return p → r ≡ q → SaysRight c r m body → IsSomeAnd (entry_for c q) (IsBack Merged)
ended_so c m p r q body is same says =
    let there = and_found _ (entry_for c r) (subst (SaysRight c r m) is says) in
    subst (λ s. IsSomeAnd (entry_for c s) (IsBack Merged)) same (found_and (IsBack Merged) (entry_for c r) there.0 there.1 there.2.0)

-- an entry of which a refusal is told was declined
declined_told : (reason : ℕ) (of : Stage) → ◌≡◌ {A = Result QueueStatus ℕ} (Err reason) (response_of_stage of) → is_declined_stage of ≡ true
declined_told reason stage.Open told = cc
declined_told reason (stage.Done how) told = cc
declined_told reason (stage.Closed how) told = cc
declined_told reason stage.Declined told = refl

declined_so : (c : Controllers) (m : Message) (s reason : ℕ) (r q : SpawnRec) (body : Body) → body ≡ Answer command.Abort s (Err reason) → r ≡ q → SaysRight c r m body → IsSomeAnd (entry_for c q) (IsBack Withdrawn)
declined_so c m s reason r q body is same says =
    let there = and_found _ (entry_for c r) (subst (SaysRight c r m) is says) in
    let e : Entry = there.0 in
    subst (λ t. IsSomeAnd (entry_for c t) (IsBack Withdrawn)) same (found_and (IsBack Withdrawn) (entry_for c r) e there.1 (declined_told reason e.phase there.2.1))

pub returned_back : (m : Message) (at : ℕ) (c : Controllers) → IsNumbered c.master.records → IsInOrder c m → All (HasComeBack c) c.master.records → All (HasComeBack c) (take_step m at c.master).next.records
returned_back m at c numbered h all =
    let records = c.master.records in
    elim (message_ends_spawns m at c.master) [
      | inl same ↦ subst (λ (w : State). All (HasComeBack c) w.records) (sym same) all
      | inr ends ↦ elim ends [
        | inl put ↦
            let same : h.spawn ≡ put.1 = same_found h.spawn put.1 (record_of records (spawn_in m.body)) h.recorded (ap (λ b. record_of records (spawn_in b)) put.2 ∙ put.4) in
            subst (λ (w : State). All (HasComeBack c) w.records) (sym put.7)
            (phase_back Merged c records put.0.spawn_id put.1 numbered put.4 (ended_so c m put.0 h.spawn put.1 m.body put.2 same h.says) all)
        | inr freed ↦
            let same : h.spawn ≡ freed.1 = same_found h.spawn freed.1 (record_of records (spawn_in m.body)) h.recorded (ap (λ b. record_of records (spawn_in b)) freed.2 ∙ freed.4) in
            subst (λ (w : State). All (HasComeBack c) w.records) (sym freed.7)
            (phase_back Withdrawn c records freed.0 freed.1 numbered freed.4 (declined_so c m freed.0 (number_of refusals.Declined) h.spawn freed.1 m.body freed.2 same h.says) all)
      ]
    ]
