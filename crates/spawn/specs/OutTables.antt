-- Tables of what is out: numbers of spawns under borrowed ids of resources.
use Rattle.std.specs.Prelude.{ℕ, Bool, true, false, List, [], ◌∷◌, ◌++◌, if◌then◌else◌, unwrap_or}
use Rattle.std.specs.Prelude.{Option, Some, None}
use Rattle.std.specs.Borrow.{Bor}
use Rattle.std.specs.BTreeMap.{BTreeMap, get_by}
use Rattle.std.specs.Cmp.Lexicographic.{slice_cmp}
use Rattle.std.specs.Global.{Vec}
use Rattle.std.specs.Option.{option_map}
use Rattle.std.specs.Ordering.{nat_cmp}
use Rattle.ticket_items.specs.declared.res_mark.ResMark.{ResMark}
use Rattle.ticket_items.specs.declared.spawn_status.SpawnStatus.TheVariants.{SpawnedRO, SpawnedRW}
use Rattle.spawn.specs.IdSet.{IdSet, is_in}
use Rattle.spawn.specs.Marking.{in_order}

abbrev pub Numbers : Type 0
Numbers = BTreeMap (Bor (List ℕ)) (Vec ℕ)

-- the numbers that stand under the id
abbrev pub numbers_in : Numbers → List ℕ → Option (List ℕ)
numbers_in table x = option_map (λ v. v.items) (get_by (λ k. slice_cmp nat_cmp x k.now) table)

-- the numbers, with one more behind them where the test holds
abbrev pub numbers_with : Bool → ℕ → Option (List ℕ) → Option (List ℕ)
numbers_with true n known = Some (unwrap_or known [] ++ n ∷ [])
numbers_with false n known = known

-- the numbers, if there are some
abbrev pub if_any : List ℕ → Option (List ℕ)
if_any [] = None
if_any (n ∷ ns) = Some (n ∷ ns)

-- what a resource shows, by the set of those of which copies may be changed and by the table of all
abbrev pub mark_in : IdSet → Numbers → List ℕ → Option ResMark
mark_in changed numbers x =
    option_map
    (λ ns. record {
      id = x;
      status = if is_in changed x then SpawnedRW else SpawnedRO;
      spawn_ids = in_order ns;
    })
    (numbers_in numbers x)
