use Rattle.std.proofs.Common.{◌∙◌, is_some, ap, sym}
use Rattle.world.proofs.Worker.SameWorkers.{worker_known}
use Rattle.shop_day.proofs.Numbers.{some-map, some_copied}
use Rattle.shop_day.proofs.asking.is_worker.Goals as goal

pub returns : goal.returns
returns g c =
    c.is_some.ensures ∙ sym (some-map _ _ ∙ some_copied c.worker_seat.result) ∙ ap is_some c.worker_seat.ensures
    ∙ worker_known c.args.shop.now c.args.name.now c.messages.ensures.kept
