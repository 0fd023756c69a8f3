use Rattle.std.proofs.Common.{◌∙◌, ap}
use Rattle.refusal_rows.specs.Rows.{text_in}
use Rattle.refusal_rows.proofs.table.text_of.Goals as goal

pub returns : goal.returns
returns c = c.text_in.ensures ∙ ap (λ table. text_in table c.args.number.now) c.all_rows.ensures
