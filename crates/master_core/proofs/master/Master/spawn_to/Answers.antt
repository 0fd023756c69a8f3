use Rattle.std.proofs.Common.{◌≡◌, ◌∙◌, Ok, Err, None, IfSome, Some, true, ap, refl, subst, sym}
use Rattle.ticket_items.specs.Ids.{mem}
use Rattle.ticket_items.specs.SpawnId.{is_spawn_number}
use Rattle.ticket_items.specs.declared.refusal.Refusal.TheVariants.{UnknownWorker}
use Rattle.controller.specs.declared.body.Body.TheVariants.{Submit}
use Rattle.world_items.specs.declared.reply.Reply.TheVariants.{Spawned}
use Rattle.spawn.proofs.PartKept.{allowed}
use Rattle.spawn.specs.Holdings.{IsTable}
use Rattle.spawn.specs.Parts.{part_for}
use Rattle.spawn.specs.Spawning.{job_after_spawn, new_record, spawn_refusal}
use Rattle.master_core.proofs.NextNumbers.{refused_alike}
use Rattle.master_core.proofs.OrderKept.{ordered_kept}
use Rattle.master_core.proofs.Passing.{behind_test, refused_through, went_free}
use Rattle.master_core.specs.Master.{IsInStep, State, next_number, state}
use Rattle.master_core.specs.Orders.{allowed_step, next_record, order_refusal}
use Rattle.world_items.specs.declared.master_order.Order.TheVariants.{Spawn}
use Rattle.master_core.proofs.master.Master.spawn_to.Goals as goal
use Rattle.master_core.proofs.master.Master.spawn_to.Goals.{In_ok-id}

pub returns-in_err-id-clause-refused : goal.returns-in_err-id-clause-refused
returns-in_err-id-clause-refused c =
    let w = state c.self.inside.name c.self.inside.workers c.self.inside.ticket c.self.inside.records.items in
    let number = c.next_number-number.result in
    let same : is_spawn_number number ≡ is_spawn_number (next_number c.args.self.now.records) =
    c.next_number-number.ensures.valid ∙ ap (λ rs. is_spawn_number (next_number rs)) c.records.ensures.records in
    let alike = ap (λ (v : State). spawn_refusal v.ticket.rows v.records number c.args.node c.args.rw) c.self.view_is ∙ refused_alike c.args.self.now.ticket.rows c.args.self.now.records number (next_number c.args.self.now.records) c.args.node c.args.rw same in
    subst (λ o. IfSome o (λ r. c.from_residual.result ≡ Err r)) alike (refused_through (spawn_refusal w.ticket.rows w.records number c.args.node c.args.rw) c.spawn_by_table.result c.from_residual.result c.in_err-id.field-0.0 c.spawn_by_table.ensures.spawns.refused c.in_err-id.was c.from_residual.ensures.1)

-- the master inside
abbrev inside : In_ok-id → State
inside c = state c.self.inside.name c.self.inside.workers c.self.inside.ticket c.self.inside.records.items

free : (c : In_ok-id) → spawn_refusal (inside c).ticket.rows (inside c).records c.next_number-number.result c.args.node c.args.rw ≡ None
free c = went_free (spawn_refusal (inside c).ticket.rows (inside c).records c.next_number-number.result c.args.node c.args.rw) (c.in_ok-id.id, c.in_ok-id.part) c.in_ok-id.ensures.spawns.refused

number : (c : In_ok-id) → c.next_number-number.result ≡ next_number (inside c).records
number c =
    let valid = (allowed (inside c).ticket.rows (inside c).records c.next_number-number.result c.args.node c.args.rw (free c)).2 in
    c.next_number-number.ensures.number valid ∙ ap next_number (c.records.ensures.records ∙ sym (ap (λ (v : State). v.records) c.self.view_is))

-- what was made is the step
made : (c : In_ok-id) → state c.self.inside.name c.self.inside.workers c.spawn_by_table.new.ticket c.spawn_by_table.new.records.items ≡ (allowed_step (Spawn c.args.node c.args.worker c.args.rw) c.args.at (inside c)).next
made c = rw (c.in_ok-id.ensures.spawns.ticket, c.in_ok-id.ensures.spawns.records, number c) refl

pub invariant_of-self-2 : goal.invariant_of-self-2
invariant_of-self-2 c =
    let w = inside c in
    let there : mem c.args.worker w.workers ≡ true = ap (λ (v : State). mem c.args.worker v.workers) c.self.view_is ∙ c.requires in
    let why = spawn_refusal w.ticket.rows w.records (next_number w.records) c.args.node c.args.rw in
    let none : order_refusal (Spawn c.args.node c.args.worker c.args.rw) w ≡ None =
    behind_test (mem c.args.worker w.workers) UnknownWorker why there ∙ ap (λ s. spawn_refusal w.ticket.rows w.records s c.args.node c.args.rw) (sym (number c)) ∙ free c in
    subst (λ (v : State). IsInStep v c.spawn_by_table.new.holders) (sym (made c)) (record {
      kept = ordered_kept (Spawn c.args.node c.args.worker c.args.rw) c.args.at w c.self.invariant.kept none;
      table = subst (λ (v : State). IsTable v.ticket.rows v.records c.spawn_by_table.new.holders) (made c) c.in_ok-id.ensures.table;
    })

pub returns-clause-ok : goal.returns-clause-ok
returns-clause-ok c =
    let w = inside c in
    let r = next_record w c.args.node c.args.worker c.args.rw c.args.at in
    let name : c.in-Ok.sender ≡ w.name = c.in-Ok.ensures.0 ∙ c.name.ensures ∙ sym (ap (λ (v : State). v.name) c.self.view_is) in
    let told : c.in_ok-id.id ≡ r.id = c.in_ok-id.ensures.spawns.id ∙ number c in
    let part : c.in_ok-id.part ≡ part_for (job_after_spawn w.ticket r) r =
    c.in_ok-id.ensures.spawns.part
    ∙ ap (λ t. part_for t (new_record w.ticket.rows c.next_number-number.result c.args.node c.args.worker c.args.rw c.args.at)) c.in_ok-id.ensures.spawns.ticket
    ∙ ap (λ s. let q = new_record w.ticket.rows s c.args.node c.args.worker c.args.rw c.args.at in part_for (job_after_spawn w.ticket q) q) (number c) in
    rw (← c.self.view_is) (λ i. record {
      reply = Ok (Spawned (told i));
      sent = Some (record { sender = name i; receiver = c.in-Ok.ensures.1 i; at = c.args.at; body = Submit (part i) });
      next = made c i;
    })
