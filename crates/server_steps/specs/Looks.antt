-- What is seen of a controller at a moment.
use Rattle.std.specs.Prelude.{◌≡◌, ⊤, ℕ, Bool, true, false, List, Option, Some, None, is_some}
use Rattle.std.specs.Prelude.{Result, Ok, Err}
use Rattle.json_profile.specs.ReadAs.{IsReadAs}
use Rattle.keepers.specs.declared.keep_fault.KeepFault.{KeepFault}
use Rattle.stored_state.specs.Addressee.{is_addressed}
use Rattle.stored_state.specs.AnyStep.{text_of}
use Rattle.stored_state.specs.Opened.{any_state_read}
use Rattle.stored_state.specs.declared.addressee.Addressee.{Addressee}
use Rattle.stored_state.specs.declared.any_controller.AnyController.{AnyController}
use Rattle.server_steps.specs.declared.stepping.Look.{Look}
use Rattle.server_steps.specs.declared.stepping.Look.TheVariants as looks

-- a keeper, if it is honest, holds the text of a controller as it was saved last
abbrev pub HoldsSaved : {K : Type 0} → (K → Bool) → (K → List ℕ) → K → Option AnyController → Type 0
HoldsSaved is_honest held keep last =
    (saved : AnyController) × (last ≡ Some saved)
    × (is_honest keep ≡ true → held keep ≡ text_of saved)

-- a controller is seen that a keeper holds: it is one that is addressed; or the one that was saved
-- last is held still; or none is seen. A keeper that is at hand is locked by nobody else, and tells
abbrev pub IsSeenIn : {K : Type 0} → (K → Bool) → (K → List ℕ) → K → Addressee
    → Option AnyController → Look → Type 0
IsSeenIn is_honest held keep to last (looks.Found seen) =
    (is_addressed to seen.controller ≡ true)
    × (is_honest keep ≡ true → IsReadAs any_state_read (held keep) (Ok seen.controller))
IsSeenIn is_honest held keep to last looks.Same = HoldsSaved is_honest held keep last
IsSeenIn is_honest held keep to last looks.Nothing = ⊤
IsSeenIn is_honest held keep to last looks.LockedOut = ⊥
IsSeenIn is_honest held keep to last looks.Unanswered = ⊥

-- the same of a keeper that was found so: that somebody else has it locked is told
abbrev pub IsSeen : {K : Type 0} → (K → Bool) → (K → List ℕ) → Result (Option K) KeepFault
    → Addressee → Option AnyController → Look → Type 0
IsSeen is_honest held (Ok (Some keep)) to last look = IsSeenIn is_honest held keep to last look
IsSeen is_honest held (Ok None) to last look = look ≡ looks.LockedOut
IsSeen is_honest held (Err e) to last look = look ≡ looks.Nothing

-- the same at a path, in a file or under a key of etcd, of which nothing is known
abbrev pub IsSeenAt : Bool → Addressee → Option AnyController → Look → Type 0
IsSeenAt in_etcd to last (looks.Found seen) = is_addressed to seen.controller ≡ true
IsSeenAt in_etcd to last looks.Same = is_some last ≡ true
IsSeenAt in_etcd to last looks.Nothing = ⊤
IsSeenAt in_etcd to last looks.LockedOut = in_etcd ≡ false
IsSeenAt in_etcd to last looks.Unanswered = in_etcd ≡ true
