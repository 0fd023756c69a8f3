-- What an order to a worker is about.
use Rattle.std.specs.Prelude.{ℕ}
use Rattle.world_items.specs.declared.worker_order.Order.{Order}
use Rattle.world_items.specs.declared.worker_order.Order.TheVariants as order

-- the spawn that an order is about
abbrev pub spawn_of_order : Order → ℕ
spawn_of_order (order.Edit s e) = s
spawn_of_order (order.Finish s how) = s
spawn_of_order (order.Resend s) = s
