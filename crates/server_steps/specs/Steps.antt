-- What `serve` makes of those who wait for a controller. Nothing is known of what stands in a file,
-- so that of one no keeper is honest.
use Rattle.std.specs.Prelude.{◌≡◌, ◌⊎◌, ℕ, Bool, true, false, List, Option, Result}
use Rattle.mio.specs.declared.net.stream.TcpStream.{TcpStream}
use Rattle.streams.specs.declared.refused.Refused.{Refused}
use Rattle.stored_state.specs.declared.addressee.Addressee.{Addressee}
use Rattle.stored_state.specs.declared.any_controller.AnyController.{AnyController}
use Rattle.stored_state.specs.declared.taken_bytes.TakenBytes.{TakenBytes}
use Rattle.keepers.specs.SystemFile.{count, file_bytes, is_honest, keep_in_file, load_fails, place}
use Rattle.keepers.specs.SystemFile.{save_fails}
use Rattle.rounds.specs.Line.{AreToldNone, HasAnswer, TellsLine, waiting_of}
use Rattle.rounds.specs.declared.answered.AnsweredClient.{AnsweredClient}
use Rattle.rounds.specs.declared.errand.Errand.{Errand}
use Rattle.rounds.specs.declared.waiting.WaitingClient.{WaitingClient}
use Rattle.server_steps.specs.InEtcd as etcd
use Rattle.server_steps.specs.InEtcd.{EtcdKeep, IsKeepAt}
use Rattle.server_steps.specs.declared.stepping.StepsResult.{StepsResult}
use Rattle.server_steps.specs.declared.stepping.StepsResult.TheVariants.{Answered as answered_so}
use Rattle.server_steps.specs.declared.stepping.StepsResult.TheVariants.{LockedOut as locked_out}

-- those who wait for the controller that a keeper holds, if it is one that is addressed, are told,
-- in this form, what comes of its steps at a time, which are saved; or each is refused, with a
-- status of 503
abbrev pub TellsKept : {S A K : Type 0} → (Result TakenBytes Refused → WaitingClient S → A → Type 0)
    → (K → Bool) → (file_bytes place : K → List ℕ) → (K → ℕ) → (K → K → Type 0)
    → (K → List ℕ → K → Type 0) → K → Addressee → List (Errand S) → List A → Option AnyController
    → Type 0
TellsKept {K = K} IsTold honest file_bytes place count loads saves keep to errands told saved =
    ((at : ℕ) × (after : K)
    × TellsLine IsTold honest file_bytes place count loads saves to at keep after errands told saved)
    ⊎ AreToldNone IsTold (waiting_of errands) told

-- those who have sent a message are answered so
abbrev pub StepsKept : {S K : Type 0} → (K → Bool) → (file_bytes place : K → List ℕ) → (K → ℕ)
    → (K → K → Type 0) → (K → List ℕ → K → Type 0) → K → Addressee → ℕ → List (Errand S)
    → List (AnsweredClient S) → Option AnyController → Type 0
StepsKept is_honest file_bytes place count load_fails save_fails keep to now errands answered saved =
    TellsKept (HasAnswer now) is_honest file_bytes place count load_fails save_fails keep to errands
    answered saved

-- the same of those who wait for the controller in the file of this path; or somebody else has that
-- locked, and they wait on
abbrev pub IsStepped : List ℕ → Addressee → ℕ → List (Errand TcpStream) → Option AnyController
    → StepsResult → Type 0
IsStepped path to now errands last (answered_so answered saved) =
    StepsKept is_honest file_bytes place count load_fails save_fails (keep_in_file path) to now errands
    answered.items saved
IsStepped path to now errands last (locked_out left kept) =
    (left.items ≡ errands) × (kept ≡ last)

-- those who wait for the controller under the key of etcd that a path names are told so, by the
-- keeper over that; or each is refused, with a status of 503
abbrev pub TellsInEtcd : {S A : Type 0} → (R : Type 0)
    → (Result TakenBytes Refused → WaitingClient S → A → Type 0) → List ℕ → Addressee
    → List (Errand S) → List A → Option AnyController → Type 0
TellsInEtcd R IsTold path to errands told saved =
    ((keep : EtcdKeep R) × IsKeepAt path keep
    × TellsKept IsTold etcd.is_honest etcd.value_bytes etcd.place etcd.count etcd.load_fails
    etcd.save_fails keep to errands told saved)
    ⊎ AreToldNone IsTold (waiting_of errands) told

-- those who wait for the controller at a path are told so: in the file there, or, where the path is
-- to be a place in etcd, under its key
abbrev pub TellsAt : {S A : Type 0} → (R : Type 0)
    → (Result TakenBytes Refused → WaitingClient S → A → Type 0) → Bool → List ℕ → Addressee
    → List (Errand S) → List A → Option AnyController → Type 0
TellsAt R IsTold true path to errands told saved = TellsInEtcd R IsTold path to errands told saved
TellsAt R IsTold false path to errands told saved =
    TellsKept IsTold is_honest file_bytes place count load_fails save_fails (keep_in_file path) to
    errands told saved

-- the same of those who wait for the controller at a path; or somebody else has its file locked,
-- and they wait on
abbrev pub IsSteppedAt : (R : Type 0) → Bool → List ℕ → Addressee → ℕ → List (Errand TcpStream)
    → Option AnyController → StepsResult → Type 0
IsSteppedAt R in_etcd path to now errands last (answered_so answered saved) =
    TellsAt R (HasAnswer now) in_etcd path to errands answered.items saved
IsSteppedAt R in_etcd path to now errands last (locked_out left kept) =
    (in_etcd ≡ false) × (left.items ≡ errands) × (kept ≡ last)
