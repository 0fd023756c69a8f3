use Rattle.std.proofs.Common.{◌∙◌, ap}
use Rattle.std.proofs.lemmas.Map.Text.{is_eq-slice_cmp}
use Rattle.std.specs.Option.{option_map}
use Rattle.spawn.proofs.OutSteps.{borrowed}
use Rattle.spawn.proofs.records.out_tables.take_numbers.Goals as goal

pub returns-in-Some-clause-others : goal.returns-in-Some-clause-others
returns-in-Some-clause-others c x off = ap (option_map (λ v. v.items)) (c.in-Some.ensures.updates.2 (borrowed x) (is_eq-slice_cmp c.args.id.now x ∙ off))
