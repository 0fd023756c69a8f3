use Rattle.shop_day.proofs.Rounds.{round_is_lines as holds}
use Rattle.shop_day.proofs.laws.round_is_lines.Goals as goal

pub returns : goal.returns
returns g c = holds g.K.Keep.is_honest g.K.Keep.held
