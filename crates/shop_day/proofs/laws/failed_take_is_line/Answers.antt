use Rattle.shop_day.proofs.Failing.{failed_take_is_line as holds}
use Rattle.shop_day.proofs.laws.failed_take_is_line.Goals as goal

pub returns : goal.returns
returns g c = holds g.K.Keep.is_honest g.K.Keep.held g.K.Keep.place g.K.Keep.count g.K.Keep.save_fails
