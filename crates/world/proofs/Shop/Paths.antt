-- Shops are the same where they are so field by field, and point by point in what is said by id.
use Rattle.std.proofs.Common.{◌≡◌, ℕ, List}
use Rattle.plain_shop.specs.Shop.{PlainState}

-- two shops have the same in each field
pub record AreAlike (p q : PlainState) : Type 0 where
  pub master : p.master ≡ q.master
  pub workers : p.workers ≡ q.workers
  pub job : p.job ≡ q.job
  pub tree : p.tree ≡ q.tree
  pub seen : (x : List ℕ) → p.seen x ≡ q.seen x
  pub now : (x : List ℕ) → p.now x ≡ q.now x
  pub holder : (x : List ℕ) → p.holder x ≡ q.holder x
  pub spawns : p.spawns ≡ q.spawns

pub same_shop : (p q : PlainState) → AreAlike p q → p ≡ q
same_shop p q a =
    λ j. record {
      master = a.master j;
      workers = a.workers j;
      job = a.job j;
      tree = a.tree j;
      seen = λ x. a.seen x j;
      now = λ x. a.now x j;
      holder = λ x. a.holder x j;
      spawns = a.spawns j;
    }
