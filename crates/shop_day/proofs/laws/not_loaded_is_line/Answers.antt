use Rattle.shop_day.proofs.Failing.{not_loaded_is_line as holds}
use Rattle.shop_day.proofs.laws.not_loaded_is_line.Goals as goal

pub returns : goal.returns
returns g c = holds g.K.Keep.is_honest g.K.Keep.held g.K.Keep.load_fails
