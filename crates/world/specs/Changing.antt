-- Who may change what in a shop as a whole: the master, and each worker through its entries.
use Rattle.std.specs.Prelude.{◌≡◌, ℕ, true, List, IsSomeAnd}
pub use Rattle.plain_shop.specs.Holding.{Changer, Holds, by_entry, by_master}
use Rattle.master_core.specs.Master as master
use Rattle.worker_core.specs.Worker as worker
use Rattle.world.specs.Controllers.{worker_of}
use Rattle.world.specs.State.{State}

-- whether one may change the node or the resource of an id
abbrev pub MayChange : State → Changer → List ℕ → Type 0
MayChange w by_master x = master.may_change w.controllers.master x ≡ true
MayChange w (by_entry name s) x =
    IsSomeAnd (worker_of w.controllers.workers name) (λ v. worker.may_change v.entries s x ≡ true)
