use Rattle.std.proofs.Common.{◌∙◌, Some, ap, sym}
use Rattle.std.specs.Option.{option_map}
use Rattle.controller_form.specs.Orders.WorkerForm.{worker_order_read}
use Rattle.world_items.specs.declared.what.What.TheVariants.{WorkerOrder}
use Rattle.shop_day.proofs.Asked.{read_so}
use Rattle.shop_day.proofs.asking.asked_of_worker.Goals as goal

pub returns-clause-ok : goal.returns-clause-ok
returns-clause-ok c =
    ap (option_map (WorkerOrder c.args.name.now)) (read_so worker_order_read c.args.bytes.now c.in_ok-worker_order.field-0 c.in_ok-worker_order.ensures.ok)
    ∙ ap (λ n. Some (WorkerOrder n c.in_ok-worker_order.field-0)) (sym c.in_ok-name.ensures)
