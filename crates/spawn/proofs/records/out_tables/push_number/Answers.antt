use Rattle.std.proofs.Common.{◌∙◌, ◌∷◌, [], ◌++◌, ap}
use Rattle.spawn.proofs.OutSteps.{put_number}
use Rattle.spawn.proofs.records.out_tables.push_number.Goals as goal

pub returns : goal.returns
returns c =
    put_number c.args.numbers.now c.take_numbers-known.new.numbers c.insert.new.self c.args.id c.args.number c.push.new.self (c.in_ok-push.ensures.items ∙ ap (λ ns. ns ++ c.args.number ∷ []) c.take_numbers-known.ensures.known)
    c.take_numbers-known.ensures.others c.in_ok-insert.ensures.updates
