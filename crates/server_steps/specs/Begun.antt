-- A worker that begins.
use Rattle.std.specs.Prelude.{◌≡◌, ◌≢◌, ℕ, Bool, true, List, []}
use Rattle.stored_state.specs.AnyStep.{text_of}
use Rattle.stored_state.specs.declared.any_controller.AnyController.TheVariants.{Worker as of_worker}
use Rattle.worker_core.specs.Worker.{state}

-- a keeper came to hold a worker of this name for this master, which has no entry: it stays at its
-- place, and, if it is honest, holds the text of the worker's state
pub record Begins {K : Type 0} (is_honest : K → Bool) (held place : K → List ℕ) (keep : K)
    (name master : List ℕ) : Type 0 where
  pub after : K
  pub distinct : name ≢ master
  pub honest : is_honest after ≡ is_honest keep
  pub same_place : place after ≡ place keep
  pub holds : is_honest after ≡ true → held after ≡ text_of (of_worker (state name master []))
