-- Who holds what in a shop.
use Rattle.std.specs.Prelude.{◌≡◌, ℕ, List, IsSomeAnd, Some}
use Rattle.world_items.specs.declared.holder.Holder.TheVariants.{Master, Spawn}
use Rattle.plain_shop.specs.Shop.{Open, PlainState, spawn_of}

-- who may change something: the master, or the worker of a name through its entry of a spawn
pub data Changer : Type 0 where
  by_master : Changer
  by_entry : List ℕ → ℕ → Changer

-- whether one holds it in a shop: the master, or a spawn that went to the worker of the name and is
-- open there
abbrev pub Holds : PlainState → Changer → List ℕ → Type 0
Holds p by_master x = p.holder x ≡ Some Master
Holds p (by_entry name s) x =
    (p.holder x ≡ Some (Spawn s))
    × IsSomeAnd (spawn_of s p) (λ a. (a.worker ≡ name) × (a.phase ≡ Open))
