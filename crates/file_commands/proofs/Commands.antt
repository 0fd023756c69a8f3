-- Commands on a controller that a keeper holds, by the steps of the controller that was loaded.
use Rattle.std.proofs.Common.{◌≡◌, ℕ, Bool, List, Option, Result, Ok, Err, IfErr, inr, subst}
use Rattle.std.specs.Prelude.{IsErrAnd}
use Rattle.ticket_items.specs.declared.refusal.Refusal.{Refusal}
use Rattle.ticket_items.specs.declared.refusal.Refusal.TheVariants.{Memory}
use Rattle.world_items.specs.declared.reply.Reply.{Reply}
use Rattle.keepers.specs.InFile.{InFile}
use Rattle.keepers.specs.OnDisk.{OnDisk}
use Rattle.stored_state.specs.Held.{KeptState}
use Rattle.stored_state.specs.declared.any_controller.AnyController.{AnyController}
use Rattle.streams.specs.declared.fault.Fault.{Fault}
use Rattle.streams.specs.declared.fault.Fault.TheVariants.{Input}
use Rattle.streams.specs.declared.refused.Refused.TheVariants.{Core}
use Rattle.file_commands.specs.Calls as calls
use Rattle.file_commands.specs.Commands.{DoesNoStep, GivesHeld, Steps}

-- memory ran out once a step was saved
pub untold : {K A : Type 0} (is_honest : K → Bool) (held place : K → List ℕ) (count : K → ℕ) (load_fails : K → K → Type 0) (save_fails : K → List ℕ → K → Type 0) (Refuses : List ℕ → AnyController → Refusal → Type 0) (IsStep : Steps) (bytes : List ℕ) (keep : K) (after : KeptState AnyController K) (reply : Result Reply Refusal) (sent : Option (List ℕ)) (r : Result A Fault) → IsErrAnd r (λ f. f ≡ Input (Core Memory)) → GivesHeld is_honest held place IsStep bytes keep after reply sent → IfErr r (DoesNoStep is_honest held place count load_fails save_fails Refuses IsStep bytes keep)
untold h l p n lf sf Refuses IsStep bytes keep after reply sent (Ok a) memory given = tt
untold h l p n lf sf Refuses IsStep bytes keep after reply sent (Err f) memory given =
    let gives = given.gives in
    inr (given.before, given.loaded, after, inr (memory, record { step = gives.step; is_step = gives.is_step.0; saved = gives.saved }))

-- the keeper in a file that was locked does no step
pub none_in_file : {A : Type 0} (Refuses : List ℕ → AnyController → Refusal → Type 0) (IsStep : Steps) (file bytes : List ℕ) (keep : InFile OnDisk) (r : Result A Fault) → keep ≡ calls.keep_in_file file → IfErr r (DoesNoStep calls.is_honest calls.file_bytes calls.place calls.count calls.load_fails calls.save_fails Refuses IsStep bytes keep) → IfErr r (calls.DoesNoneOf Refuses IsStep file bytes)
none_in_file Refuses IsStep file bytes keep (Ok a) is why = tt
none_in_file Refuses IsStep file bytes keep (Err f) is why =
    inr (subst (λ k. DoesNoStep calls.is_honest calls.file_bytes calls.place calls.count calls.load_fails calls.save_fails Refuses IsStep bytes k f) is why)
