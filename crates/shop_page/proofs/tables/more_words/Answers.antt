use Rattle.std.proofs.Common.{append_assoc, rules}
use Rattle.shop_page.specs.Page.{more_words}
use Rattle.shop_page.proofs.tables.more_words.Goals as goal

pub returns : goal.returns
unfolding more_words
returns c = simp append_assoc (search rules)
