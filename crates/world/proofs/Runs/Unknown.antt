-- Where it isn't known how far a step came, and nothing was sent, it is as if its controller had stopped in it.
use Rattle.std.proofs.Common.{◌≡◌, ◌∙◌, inl, inr, ℕ, List, set, Result, Ok, Err, OnErr, refl, sym}
use Rattle.controller.specs.Step.{Step}
use Rattle.controller.specs.declared.message.Message.{Message}
use Rattle.master_core.specs.Master as master
use Rattle.stored_state.specs.Seat.{IsOldOrNext}
use Rattle.worker_core.specs.Worker as worker
use Rattle.world.proofs.Runs.Settled.{master_settled}
use Rattle.world.proofs.Worker.Places.{StandsAt, settled_there}
use Rattle.world.specs.Controllers.{Controllers}
use Rattle.world.specs.Happening.{IsUnknown, next_state}
use Rattle.world.specs.State.{IsConsistent, State, state}
use Rattle.plain_shop.specs.Step.{StepOrWord}
use Rattle.world.specs.Stepping.{master_moved, worker_moved}
use Rattle.world_items.specs.declared.stop.Stop.TheVariants.{BeforeSave, BeforeSend}
use Rattle.world_items.specs.declared.word.Word.{Word}

pub err_by : {A E : Type 0} (r : Result A E) (P Q : Type 0) → OnErr r P → (P → Q) → OnErr r Q
err_by (Ok a) P Q p go = tt
err_by (Err e) P Q p go = go p

-- a step that is lost changes nothing
pub lost : (w : State) (step : StepOrWord Controllers Message) → next_state BeforeSave w step ≡ w
lost w (Ok step) = refl
lost w (Err word) = refl

pub not_made : (w : State) (step : StepOrWord Controllers Message) → IsUnknown w step w
not_made w step = inl (sym (lost w step))

pub unknown_same : {A E : Type 0} (r : Result A E) (w now : State) (word : Word) → OnErr r (now ≡ w) → OnErr r (IsUnknown w (Err word) now)
unknown_same (Ok a) w now word same = tt
unknown_same (Err e) w now word same = inl same

-- ---- the master's

pub master_unknown : {A E : Type 0} (r : Result A E) (m stored : master.State) (workers : List worker.State) (old new : List Message) (moved : Step master.State Message)
    → OnErr r (IsOldOrNext m moved stored) → OnErr r (new ≡ old)
    → OnErr r (IsUnknown (state m workers old) (Ok (master_moved (record { master = m; workers = workers }) moved)) (state stored workers new))
master_unknown (Ok a) m stored workers old new moved either unsent = tt
master_unknown (Err e) m stored workers old new moved (inl same) unsent = inl (master_settled BeforeSave m stored workers old new moved same unsent)
master_unknown (Err e) m stored workers old new moved (inr next) unsent = inr (master_settled BeforeSend m stored workers old new moved next unsent)

pub master_same : {A E : Type 0} (P Q : Type 0) (r : Result A E) (m stored : master.State) (workers : List worker.State) (old new : List Message)
    → OnErr r (P → Q → stored ≡ m) → OnErr r (new ≡ old) → OnErr r (P → Q → state stored workers new ≡ state m workers old)
master_same P Q (Ok a) m stored workers old new same unsent = tt
master_same P Q (Err e) m stored workers old new same unsent = λ p q i. state (same p q i) workers (unsent i)

-- ---- a worker's

pub worker_unknown : {A E : Type 0} (r : Result A E) (m : master.State) (workers : List worker.State) (old new : List Message) (name : List ℕ) (k : ℕ) (x stored : worker.State) (moved : Step worker.State Message) → IsConsistent (state m workers old) → StandsAt workers name k x
    → OnErr r (IsOldOrNext x moved stored) → OnErr r (new ≡ old)
    → OnErr r (IsUnknown (state m workers old) (Ok (worker_moved (record { master = m; workers = workers }) x moved)) (state m (set workers k stored) new))
worker_unknown (Ok a) m workers old new name k x stored moved ok here either unsent = tt
worker_unknown (Err e) m workers old new name k x stored moved ok here (inl same) unsent = inl (settled_there BeforeSave m workers old new name k x stored moved ok here same unsent)
worker_unknown (Err e) m workers old new name k x stored moved ok here (inr next) unsent = inr (settled_there BeforeSend m workers old new name k x stored moved ok here next unsent)

pub worker_same : {A E : Type 0} (P Q : Type 0) (r : Result A E) (m : master.State) (workers : List worker.State) (old new : List Message) (name : List ℕ) (k : ℕ) (x stored : worker.State) (moved : Step worker.State Message) → IsConsistent (state m workers old) → StandsAt workers name k x
    → OnErr r (P → Q → stored ≡ x) → OnErr r (new ≡ old) → OnErr r (P → Q → state m (set workers k stored) new ≡ state m workers old)
worker_same P Q (Ok a) m workers old new name k x stored moved ok here same unsent = tt
worker_same P Q (Err e) m workers old new name k x stored moved ok here same unsent =
    λ p q. settled_there BeforeSave m workers old new name k x stored moved ok here (same p q) unsent ∙ lost (state m workers old) (Ok (worker_moved (record { master = m; workers = workers }) x moved))
