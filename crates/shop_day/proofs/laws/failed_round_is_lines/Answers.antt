use Rattle.shop_day.proofs.FailedRounds.{failed_round_is_lines as holds}
use Rattle.shop_day.proofs.laws.failed_round_is_lines.Goals as goal

pub returns : goal.returns
returns g c = holds g.K.Keep.is_honest g.K.Keep.held g.K.Keep.place g.K.Keep.count g.K.Keep.load_fails g.K.Keep.save_fails
