use Rattle.std.proofs.Common.{append_assoc}
use Rattle.shop_page.specs.Rows.{row}
use Rattle.shop_page.proofs.rows.row.Goals as goal

pub returns : goal.returns
unfolding row
returns c = simp append_assoc (rw (← c.class_of-class.ensures, ← c.in_ok-work.ensures, ← c.in_ok-times.ensures) c.format.ensures.ok)
