use Rattle.shop_day.proofs.Commands.{take_is_line as holds}
use Rattle.shop_day.proofs.laws.take_is_line.Goals as goal

pub returns : goal.returns
returns g c = holds g.K.Keep.is_honest g.K.Keep.held g.K.Keep.place
