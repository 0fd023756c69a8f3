use Rattle.std.proofs.Common.{◌≡◌, ◌∙◌, ◌≤◌, unwrap_or, is_some, ap, subst, sym}
use Rattle.jdf_words.proofs.Numbers.{at_read}
use Rattle.jdf_words.proofs.reading.at_in.Goals as goal

pub unwrap-requires : goal.unwrap-requires
unwrap-requires c = ap is_some (at_read _ c.number_in.result c.requires c.number_in.ensures).read

pub returns-clause-number : goal.returns-clause-number
returns-clause-number c =
    let time = at_read _ c.number_in.result c.requires c.number_in.ensures in
    time.is ∙ sym time.read ∙ c.unwrap.ensures

pub returns-clause-time : goal.returns-clause-time
returns-clause-time c =
    let time = at_read _ c.number_in.result c.requires c.number_in.ensures in
    let same : time.number ≡ c.unwrap.result = ap (λ o. unwrap_or o 0) (sym time.read ∙ c.unwrap.ensures) in
    subst (λ n. n ≤ 9999999999) same time.time
