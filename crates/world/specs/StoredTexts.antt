-- The texts from which controllers are started again.
use Rattle.std.specs.Prelude.{ℕ, List, Option, Some, option_map, Ok, IsSomeAnd, MatchBool}
use Rattle.std.specs.Prelude.{if◌then◌else◌}
use Rattle.std.specs.Str.{bytes_eq}
use Rattle.serde_json.specs.Written.{compact_text}
use Rattle.json_profile.specs.ReadAs.{IsReadAs}
use Rattle.controller_form.specs.States.MasterForm.{master_state_data, master_state_read}
use Rattle.controller_form.specs.States.WorkerForm.{worker_state_data, worker_state_read}
use Rattle.world.specs.Controllers.{Controllers, worker_of}

-- the text of the state of the controller of a name
abbrev pub text_of : Controllers → List ℕ → Option (List ℕ)
text_of c name =
    if bytes_eq name c.master.name then Some (compact_text (master_state_data c.master))
    else option_map (λ v. compact_text (worker_state_data v)) (worker_of c.workers name)

-- a text is read as the controller of a name
abbrev pub IsReadAgain : Controllers → List ℕ → List ℕ → Type 0
IsReadAgain c name text =
    MatchBool (bytes_eq name c.master.name) (IsReadAs master_state_read text (Ok c.master))
    (IsSomeAnd (worker_of c.workers name) (λ v. IsReadAs worker_state_read text (Ok v)))
