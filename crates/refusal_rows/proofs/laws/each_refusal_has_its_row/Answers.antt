use Rattle.refusal_rows.proofs.EachRow.{each}
use Rattle.refusal_rows.proofs.laws.each_refusal_has_its_row.Goals as goal

pub returns : goal.returns
returns c = each
