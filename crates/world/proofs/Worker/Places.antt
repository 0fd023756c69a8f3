-- A worker is found at its place, and what is stored there is stored by its name.
use Rattle.std.proofs.Common.{◌≡◌, ◌<◌, inl, inr, ℕ, true, List, map, get_or, set, slice_get, Some, None, Result, Ok, Err, OnOk, OnErr, length, refl, subst, sym, ap, ◌∙◌}
use Rattle.std.proofs.lemmas.Bool.{and_parts}
use Rattle.std.proofs.lemmas.List.{set-get_or}
use Rattle.std.proofs.lemmas.Option.{slice_get-get_or}
use Rattle.std.proofs.lemmas.Slice.Eq.{bytes_eq-Decides}
use Rattle.std.specs.List.{position}
use Rattle.ticket_items.proofs.AtKey.{write_at_key}
use Rattle.ticket_items.proofs.Places.{below_length, found_at_position, none_at_position, same_found}
use Rattle.ticket_items.specs.Ids.{are_distinct}
use Rattle.ticket_rows.proofs.AtHome.{find-passes}
use Rattle.controller.specs.declared.message.Message.{Message}
use Rattle.master_core.specs.Master as master
use Rattle.stored_state.specs.Seat.{IsOldOrNext}
use Rattle.worker_core.specs.Worker as worker
use Rattle.world.proofs.Shop.Kept.{Keeps, settled_kept}
use Rattle.world.specs.Happening.{next_state}
use Rattle.plain_shop.specs.Settling.{messages_left, state_left}
use Rattle.world.specs.State.{IsConsistent, is_named, state, with_worker, worker_of}
use Rattle.controller.specs.Step.{Step}
use Rattle.world.specs.Stepping.{worker_moved}
use Rattle.world_items.specs.declared.stop.Stop.{Stop}
use Rattle.world_items.specs.declared.stop.Stop.TheVariants.{Run, BeforeSave, BeforeSend}

-- ---- what is found

-- a worker of a name at its place
pub record StandsAt (workers : List worker.State) (name : List ℕ) (k : ℕ) (x : worker.State) : Type 0 where
  pub place : position (is_named name) workers ≡ Some k
  pub at : x ≡ get_or workers k x

within : (workers : List worker.State) (name : List ℕ) (k : ℕ) (x : worker.State) → StandsAt workers name k x → k < length workers
within workers name k x here = below_length (is_named name) workers k here.place

pub found : (workers : List worker.State) (name : List ℕ) (k : ℕ) (x : worker.State) → StandsAt workers name k x → worker_of workers name ≡ Some x
found workers name k x here =
    let at = found_at_position (is_named name) workers k here.place in
    at.1 ∙ ap Some (same_found at.0 x (slice_get workers k) at.2 (slice_get-get_or workers k x (within workers name k x here) ∙ ap Some (sym here.at)))

pub name_of : (workers : List worker.State) (name : List ℕ) (k : ℕ) (x : worker.State) → StandsAt workers name k x → x.name ≡ name
name_of workers name k x here = (bytes_eq-Decides x.name name).0 (find-passes (is_named name) workers x (found workers name k x here))

-- ---- what is stored there

apart : (w : master.State) (workers : List worker.State) (messages : List Message) → IsConsistent (state w workers messages) → are_distinct (map (λ (v : worker.State). v.name) workers) ≡ true
apart m workers messages ok = ap are_distinct ok.named ∙ (and_parts _ _ ok.master.names).1

put : (m : master.State) (workers : List worker.State) (messages : List Message) (name : List ℕ) (k : ℕ) (x next : worker.State) → IsConsistent (state m workers messages) → StandsAt workers name k x → set workers k next ≡ with_worker x.name next workers
put m workers messages name k x next ok here =
    write_at_key (λ (v : worker.State). v.name) name (λ _. next) workers workers k x refl (apart m workers messages ok) here.place here.at
    ∙ ap (λ n. with_worker n next workers) (sym (name_of workers name k x here))

-- the state once a step of the worker is settled
pub settled_there : (stop : Stop) (m : master.State) (workers : List worker.State) (old new : List Message) (name : List ℕ) (k : ℕ) (x stored : worker.State) (moved : Step worker.State Message) → IsConsistent (state m workers old) → StandsAt workers name k x
    → stored ≡ state_left stop x moved.next → new ≡ messages_left stop old moved.sent
    → state m (set workers k stored) new ≡ next_state stop (state m workers old) (Ok (worker_moved (record { master = m; workers = workers }) x moved))
settled_there Run m workers old new name k x stored moved ok here is sent =
    ap (λ ms. state m (set workers k stored) ms) sent ∙ ap (λ s. state m (set workers k s) (messages_left Run old moved.sent)) is ∙ ap (λ ws. state m ws (messages_left Run old moved.sent)) (put m workers old name k x moved.next ok here)
settled_there BeforeSave m workers old new name k x stored moved ok here is sent =
    ap (λ ms. state m (set workers k stored) ms) sent ∙ ap (λ s. state m (set workers k s) old) is ∙ ap (λ s. state m (set workers k s) old) here.at ∙ ap (λ ws. state m ws old) (set-get_or workers k x)
settled_there BeforeSend m workers old new name k x stored moved ok here is sent =
    ap (λ ms. state m (set workers k stored) ms) sent ∙ ap (λ s. state m (set workers k s) old) is ∙ ap (λ ws. state m ws old) (put m workers old name k x moved.next ok here)

-- and what always holds holds then, also where it isn't known how far the step came, and nothing is sent
pub kept_there : {A E : Type 0} (r : Result A E) (stop : Stop) (m : master.State) (workers : List worker.State) (old new : List Message) (name : List ℕ) (k : ℕ) (x stored : worker.State) (moved : Step worker.State Message) → IsConsistent (state m workers old) → StandsAt workers name k x
    → OnOk r (stored ≡ state_left stop x moved.next) → OnOk r (new ≡ messages_left stop old moved.sent) → OnErr r (IsOldOrNext x moved stored) → OnErr r (new ≡ old)
    → Keeps (state m workers old) (worker_moved (record { master = m; workers = workers }) x moved) → IsConsistent (state m (set workers k stored) new)
kept_there (Ok a) stop m workers old new name k x stored moved ok here is sent either unsent keeps =
    subst IsConsistent (sym (settled_there stop m workers old new name k x stored moved ok here is sent)) (settled_kept stop (state m workers old) _ ok keeps)
kept_there (Err e) stop m workers old new name k x stored moved ok here is sent (inl same) unsent keeps =
    subst IsConsistent (sym (settled_there BeforeSave m workers old new name k x stored moved ok here same unsent)) (settled_kept BeforeSave (state m workers old) _ ok keeps)
kept_there (Err e) stop m workers old new name k x stored moved ok here is sent (inr next) unsent keeps =
    subst IsConsistent (sym (settled_there BeforeSend m workers old new name k x stored moved ok here next unsent)) (settled_kept BeforeSend (state m workers old) _ ok keeps)

-- the worker that stands there is the one of its name
pub found_own : (workers : List worker.State) (name : List ℕ) (k : ℕ) (x : worker.State) → StandsAt workers name k x → worker_of workers x.name ≡ Some x
found_own workers name k x here = ap (worker_of workers) (name_of workers name k x here) ∙ found workers name k x here

-- ---- as it was looked for

pub stands_at : (workers seen : List worker.State) (name : List ℕ) (k : ℕ) (x : worker.State) → seen ≡ workers → position (is_named name) seen ≡ Some k → x ≡ get_or workers k x → StandsAt workers name k x
stands_at workers seen name k x same place at = record { place = ap (position (is_named name)) (sym same) ∙ place; at = at }

pub none_there : (workers seen : List worker.State) (name : List ℕ) → seen ≡ workers → position (is_named name) seen ≡ None → worker_of workers name ≡ None
none_there workers seen name same none = none_at_position (is_named name) workers (ap (position (is_named name)) (sym same) ∙ none)
