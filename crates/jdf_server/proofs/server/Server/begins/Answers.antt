use Rattle.std.proofs.Common.{◌≡◌, refl, rules, subst, sym, true}
use Rattle.jdf_server.specs.Turns.{is_for_one_master}
use Rattle.jdf_server.proofs.server.Server.begins.Goals as goal

pub returns-in-WorkerOf : goal.returns-in-WorkerOf
returns-in-WorkerOf g c =
    λ so. record {
      known = search (rules, c.is_none.ensures, c.if-is_none.false);
      begun = search (rules, c.some_begins.ensures, c.if-not-some_begins.false);
      worker = subst (λ to. is_for_one_master to ≡ true) (sym c.in-WorkerOf.is) refl;
    }
