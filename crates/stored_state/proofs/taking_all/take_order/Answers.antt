use Rattle.std.proofs.Common.{◌≡◌, IfOk, ℕ, List, refl, subst}
use Rattle.std.proofs.lemmas.Result.{IfOk-weaker}
use Rattle.controller_form.specs.Orders.MasterForm.{master_order_read}
use Rattle.controller_form.specs.Orders.WorkerForm.{worker_order_read}
use Rattle.master_core.specs.Orders as master_orders
use Rattle.worker_core.specs.Orders as worker_orders
use Rattle.stored_state.specs.Opened.{of_master, of_worker}
use Rattle.stored_state.specs.TakingAll.{OrdersOne}
use Rattle.stored_state.specs.declared.coming.Coming.TheVariants.{Order}
use Rattle.stored_state.proofs.TakingEach.{ordered_as}
use Rattle.stored_state.proofs.taking_all.take_order.Goals as goal

pub returns-in-Master-clause-gives : goal.returns-in-Master-clause-gives
returns-in-Master-clause-gives c =
    let orders = subst (λ (b : List ℕ). IfOk c.order_master.result (λ given. OrdersOne master_order_read master_orders.order_step b c.args.at c.in-Master.master given.0 c.order_master.new.master)) c.as_slice.ensures.value c.order_master.ensures.read in
    rw c.in-Master.is
    (IfOk-weaker c.order_master.result _ _
    (λ given one. ordered_as of_master c.args.at (Order c.args.text) master_order_read master_orders.order_step c.args.text.items c.in-Master.master c.order_master.new.master given.0 (λ step of. of) (λ e why. why) refl one) orders)

pub returns-clause-gives : goal.returns-clause-gives
returns-clause-gives c =
    let orders = subst (λ (b : List ℕ). IfOk c.order_worker.result (λ given. OrdersOne worker_order_read worker_orders.order_step b c.args.at c.in-Worker.worker given.0 c.order_worker.new.worker)) c.as_slice-in-Worker.ensures.value c.order_worker.ensures.read in
    rw c.in-Worker.is
    (IfOk-weaker c.order_worker.result _ _
    (λ given one. ordered_as of_worker c.args.at (Order c.args.text) worker_order_read worker_orders.order_step c.args.text.items c.in-Worker.worker c.order_worker.new.worker given.0 (λ step of. of) (λ e why. why) refl one) orders)
