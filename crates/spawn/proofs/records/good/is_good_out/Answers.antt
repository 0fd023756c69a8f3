use Rattle.std.proofs.Common.{◌∙◌, ◌||◌, not, ap, sym}
use Rattle.std.proofs.lemmas.Bool.Decides.{same_from_decides}
use Rattle.spawn.proofs.GoodTest.{good-Decides}
use Rattle.spawn.specs.Stored.{is_good}
use Rattle.spawn.proofs.records.good.is_good_out.Goals as goal

pub returns-else-not-is_out : goal.returns-else-not-is_out
returns-else-not-is_out c =
    let rows = c.args.ticket.now.rows in
    let r = c.args.spawn.now in
    same_from_decides c.is_good.result (is_good rows r) c.is_good.ensures (good-Decides rows r) ∙ ap (λ b. not b || is_good rows r) (sym (sym c.is_out.ensures ∙ c.if-not-is_out.false))
