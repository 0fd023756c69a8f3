-- A worker that is kept from its beginning on.
use Rattle.std.proofs.Common.{◌≡◌, ◌≢◌, ◌∙◌, ℕ, Bool, true, List, [], Result, Ok, Err, IfOk, ap, is_ok}
use Rattle.stored_state.specs.AnyStep.{text_of}
use Rattle.stored_state.specs.declared.any_controller.AnyController.TheVariants.{Worker as of_worker}
use Rattle.worker_core.specs.Worker.{State, state}
use Rattle.server_steps.specs.Begun.{Begins}

pub begun : {K X E : Type 0} (honest : K → Bool) (held place : K → List ℕ) (keep : K) (name master : List ℕ) (w : State) (r : Result X E) (keep_of : X → K) (b : Bool) → b ≡ is_ok r → name ≢ master → w ≡ state name master [] → IfOk r (λ x. honest (keep_of x) ≡ true → held (keep_of x) ≡ text_of (of_worker w)) → IfOk r (λ x. honest (keep_of x) ≡ honest keep) → IfOk r (λ x. place (keep_of x) ≡ place keep) → b ≡ true → Begins honest held place keep name master
begun honest held place keep name master w (Ok x) keep_of b is apart same holds stays at so =
    record {
      after = keep_of x;
      distinct = apart;
      honest = stays;
      same_place = at;
      holds = λ h. holds h ∙ ap (λ v. text_of (of_worker v)) same;
    }
begun honest held place keep name master w (Err e) keep_of b is apart same holds stays at so = absurd (cc)
