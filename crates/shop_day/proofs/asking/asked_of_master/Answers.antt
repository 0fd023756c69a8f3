use Rattle.std.proofs.Common.{ap}
use Rattle.std.specs.Option.{option_map}
use Rattle.controller_form.specs.Orders.MasterForm.{master_order_read}
use Rattle.world_items.specs.declared.what.What.TheVariants.{MasterOrder}
use Rattle.shop_day.proofs.Asked.{read_so}
use Rattle.shop_day.proofs.asking.asked_of_master.Goals as goal

pub returns-clause-ok : goal.returns-clause-ok
returns-clause-ok c = ap (option_map MasterOrder) (read_so master_order_read c.args.bytes.now c.in_ok-master_order.field-0 c.in_ok-master_order.ensures.ok)
