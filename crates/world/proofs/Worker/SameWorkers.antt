-- The workers of a shop: which names there are, and that one who is stored as it was changes nothing.
use Rattle.std.proofs.Common.{◌≡◌, ◌∙◌, ℕ, Bool, true, false, cond, List, [], ◌∷◌, map, Some, is_some, refl, ap}
use Rattle.std.proofs.lemmas.Bool.{and_parts}
use Rattle.ticket_items.proofs.AtKey.{any_key}
use Rattle.ticket_items.proofs.Places.{is_some-find}
use Rattle.ticket_items.specs.Ids.{are_distinct, mem}
use Rattle.ticket_rows.proofs.OneRows.{at_key-same}
use Rattle.worker_core.specs.Worker as worker
use Rattle.world.specs.Controllers.{is_named, with_worker, worker_of}
use Rattle.world.specs.State.{IsConsistent, State}

-- a worker has a name just if the master names it
pub worker_known : (w : State) (name : List ℕ) → IsConsistent w → is_some (worker_of w.controllers.workers name) ≡ mem name w.controllers.master.workers
worker_known w name ok =
    let workers = w.controllers.workers in
    is_some-find (is_named name) workers ∙ any_key (λ (v : worker.State). v.name) name workers ∙ ap (mem name) ok.named

same_either : {X : Type 0} (b : Bool) (x : X) → cond b x x ≡ x
same_either true x = refl
same_either false x = refl

each_stays : (name : List ℕ) (workers : List worker.State) → map (λ v. cond (is_named name v) v v) workers ≡ workers
each_stays name [] = refl
each_stays name (v ∷ vs) = ap (λ u. u ∷ map (λ x. cond (is_named name x) x x) vs) (same_either (is_named name v) v) ∙ ap (λ us. v ∷ us) (each_stays name vs)

-- the controllers with a worker stored as it was are the same
pub stored_same : (w : State) (name : List ℕ) (v : worker.State) → IsConsistent w → worker_of w.controllers.workers name ≡ Some v → record w.controllers { workers = with_worker name v w.controllers.workers } ≡ w.controllers
stored_same w name v ok found =
    let c = w.controllers in
    let names = (and_parts _ (are_distinct c.master.workers) ok.master.names).1 in
    ap (λ workers. record c { workers = workers })
    (at_key-same (λ (u : worker.State). u.name) name (λ _. v) (λ u. u) c.workers v found (ap are_distinct ok.named ∙ names) (λ _. refl) ∙ each_stays name c.workers)
