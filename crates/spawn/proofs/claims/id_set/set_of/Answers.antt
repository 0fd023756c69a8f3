use Rattle.std.proofs.Common.{rules, ℕ, List, Bool, false}
use Rattle.spawn.specs.IdSet.{IsSetOf}
use Rattle.spawn.proofs.claims.id_set.set_of.Goals as goal

pub returns : goal.returns
returns c =
    let none : List ℕ → Bool = λ x. false in
    let empty : IsSetOf none c.new-set.result = search rules in
    c.in_ok-add_all.ensures none empty
