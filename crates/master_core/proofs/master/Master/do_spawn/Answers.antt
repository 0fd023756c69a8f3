use Rattle.std.proofs.Common.{◌≡◌, ◌∙◌, true, ap, sym, subst}
use Rattle.ticket_items.specs.Ids.{mem}
use Rattle.ticket_items.specs.declared.refusal.Refusal.TheVariants.{UnknownWorker}
use Rattle.controller.proofs.Answered.{told_makes}
use Rattle.controller.specs.Step.{Makes, unless_refused}
use Rattle.spawn.specs.Spawning.{spawn_refusal}
use Rattle.master_core.proofs.Passing.{behind_test}
use Rattle.master_core.specs.Master.{next_number}
use Rattle.master_core.specs.Orders.{allowed_step}
use Rattle.world_items.specs.declared.master_order.Order.TheVariants.{Spawn}
use Rattle.master_core.proofs.master.Master.do_spawn.Goals as goal

pub returns : goal.returns
returns c =
    let worker = c.args.worker in
    let w = c.args.self.now in
    let made = c.spawn_to.ensures in
    let step = allowed_step (Spawn c.args.node worker c.args.rw) c.args.at w in
    let why = spawn_refusal w.ticket.rows w.records (next_number w.records) c.args.node c.args.rw in
    let there : mem worker w.workers ≡ true = ap (mem worker) (sym c.workers.ensures) ∙ sym c.is_among.ensures ∙ c.if-not-is_among.false in
    subst (λ o. Makes (unless_refused o w step) w c.spawn_to.result c.spawn_to.new.self) (sym (behind_test (mem worker w.workers) UnknownWorker why there))
    (told_makes why w step c.spawn_to.result c.spawn_to.new.self made.ok made.err tt made.refused made.memory)
