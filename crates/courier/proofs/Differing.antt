-- Items of which none stands twice, as one comes behind them or the first goes there.
use Rattle.std.proofs.Common.{◌≡◌, ℕ, ◌==◌, true, false, ◌||◌, List, [], ◌∷◌, ◌++◌, take, drop, refl, arith, rules, tests}
use Rattle.std.proofs.lemmas.Bool.Decides.{nat_tests}
use Rattle.std.proofs.lemmas.Grind.{common_steps}
use Rattle.courier.specs.Items.{has, all_differ}

pub has-push : (item new : ℕ) (items : List ℕ) → has item (items ++ new ∷ []) ≡ (has item items || new == item)
has-push item new [] = grind (arith, common_steps)
has-push item new (x ∷ items) = let more = has-push item new items in grind (arith, common_steps)

pub all_differ-push : (items : List ℕ) (new : ℕ) → all_differ items ≡ true → has new items ≡ false → all_differ (items ++ new ∷ []) ≡ true
all_differ-push [] new differ other = refl
all_differ-push (x ∷ items) new differ other =
    let more = all_differ-push items new (search (rules, tests)) (search (rules, tests)) in
    let behind = has-push x new items in
    grind (arith, nat_tests, common_steps)

pub has-turned : (item : ℕ) (items : List ℕ) → has item (drop 1 items ++ take 1 items) ≡ has item items
has-turned item [] = refl
has-turned item (x ∷ items) = let behind = has-push item x items in grind (arith, common_steps)

pub all_differ-turned : (items : List ℕ) → all_differ items ≡ true → all_differ (drop 1 items ++ take 1 items) ≡ true
all_differ-turned [] differ = refl
all_differ-turned (x ∷ items) differ = all_differ-push items x (search (rules, tests)) (search (rules, tests))
