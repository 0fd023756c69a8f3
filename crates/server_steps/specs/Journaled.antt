-- The lines that `serve` appends to its journal, of the steps of one turn: one of each step that was
-- saved and, as its reply tells, changed its controller.
use Rattle.std.specs.Prelude.{◌≡◌, ◌≢◌, ◌⊎◌, ◌&&◌, ◌++◌, ℕ, Bool, true, false, not, List, [], ◌∷◌}
use Rattle.std.specs.Prelude.{⊤, map, codes}
use Rattle.std.specs.Prelude.{Option, Some, None, Result, Ok, Err, if◌then◌else◌, option_map}
use Rattle.ticket_items.specs.declared.refusal.Refusal.{Refusal}
use Rattle.world_items.specs.declared.reply.Reply.{Reply}
use Rattle.keepers.specs.declared.keep_fault.KeepFault.{KeepFault}
use Rattle.keepers.specs.SystemFile.{count, file_bytes, is_honest, keep_in_file, load_fails, place}
use Rattle.keepers.specs.SystemFile.{save_fails}
use Rattle.journal.specs.Journal.{IsAppended, IsLeft, IsMissed, Misses}
use Rattle.journal.specs.Line.{told_line}
use Rattle.journal.specs.What.{message_word}
use Rattle.mio.specs.declared.net.stream.TcpStream.{TcpStream}
use Rattle.rounds.specs.Line.{AreUnavailable, StepsLine, comings_of, reply_from, waiting_of}
use Rattle.rounds.specs.declared.answered.AnsweredClient.{AnsweredClient}
use Rattle.rounds.specs.declared.errand.Errand.{Errand}
use Rattle.rounds.specs.declared.receipt.Receipt.{Receipt}
use Rattle.stored_state.specs.Addressee.{name_of}
use Rattle.stored_state.specs.Resting.{is_abort, is_idle_reply}
use Rattle.stored_state.specs.TakingAll.{TakesAll}
use Rattle.stored_state.specs.declared.addressee.Addressee.{Addressee}
use Rattle.stored_state.specs.declared.any_controller.AnyController.{AnyController}
use Rattle.stored_state.specs.declared.coming.Coming.{Coming}
use Rattle.stored_state.specs.declared.coming.Coming.TheVariants as comings
use Rattle.stored_state.specs.declared.taken_bytes.TakenBytes.{TakenBytes}
use Rattle.server_steps.specs.InEtcd as etcd
use Rattle.server_steps.specs.InEtcd.{EtcdKeep, IsKeepAt}
use Rattle.server_steps.specs.declared.journaling.Call.{Call}
use Rattle.server_steps.specs.declared.stepping.OwnStepResult.{OwnStepResult}
use Rattle.server_steps.specs.declared.stepping.OwnStepResult.TheVariants as own_stepped
use Rattle.server_steps.specs.declared.stepping.StepsResult.{StepsResult}
use Rattle.server_steps.specs.declared.stepping.StepsResult.TheVariants.{Answered as answered_so}
use Rattle.server_steps.specs.declared.stepping.StepsResult.TheVariants.{LockedOut as locked_out}

-- ---- one step

-- what a step is made of: its name, and whether it is that a spawn is to be given up
pub record StepName : Type 0 where
  pub what : List ℕ
  pub is_abort : Bool

-- what comes, so; the only order that `serve` gives is to send once more; nothing of what makes no
-- step
abbrev pub called_of_coming : Coming → Option StepName
called_of_coming (comings.Message m) =
    Some (record { what = message_word m.body; is_abort = is_abort m.body })
called_of_coming (comings.Order text) = Some (record { what = codes "Resend"; is_abort = false })
called_of_coming (comings.Neither why) = None

-- the same as it is kept while the step is made
abbrev pub kept_call : Call → StepName
kept_call c = record { what = c.what.now; is_abort = c.is_abort }

abbrev pub step_of_call : Option Call → Option StepName
step_of_call = option_map kept_call

-- whether a step of it that replied so left its controller as it was
abbrev pub is_idle : StepName → Reply → Bool
is_idle c reply = not c.is_abort && is_idle_reply reply

-- the line of a step of the controller of a name, at a time, as it was taken; none where it left
-- that as it was
abbrev pub line_of : List ℕ → ℕ → StepName → Receipt → List ℕ
line_of name at c taken =
    if is_idle c taken.reply then [] else told_line (Some taken.sender) name taken.reply at c.what

-- the same of what came; none where that made no step, or was refused
abbrev pub line_for : List ℕ → ℕ → Option StepName → Option Receipt → List ℕ
line_for name at (Some c) (Some taken) = line_of name at c taken
line_for name at _ _ = []

-- ---- those of one turn

-- the lines of all that came, one after the other, each as it was taken
abbrev pub lines_for : List ℕ → ℕ → List (Option StepName) → List (Option Receipt) → List ℕ
lines_for name at (c ∷ all) (taken ∷ more) = line_for name at c taken ++ lines_for name at all more
lines_for name at _ _ = []

-- what clients came for, as it was taken
abbrev pub taken_from_client : {S : Type 0} → AnsweredClient S → Option Receipt
taken_from_client a = a.taken

-- by whom a step is that no client waits for: by who sent its message, and by `serve` where there is
-- no sender
abbrev pub maker_of : Option (List ℕ) → List ℕ
maker_of None = codes "serve"
maker_of (Some sender) = sender

-- what no client waits for, as it was taken
abbrev pub taken_from_result : Result TakenBytes Refusal → Option Receipt
taken_from_result (Ok taken) = reply_from (Some (maker_of taken.sender)) taken.reply
taken_from_result (Err e) = None

-- ---- in the journal

-- these lines, if there are any, are appended, or are missed, or weren't made for want of memory
abbrev pub AreJournaled : {J : Type 0} → (J → List ℕ) → (J → Bool) → List ℕ → J → J → Type 0
AreJournaled file_bytes is_missed lines old new =
    ((lines ≡ []) × IsLeft file_bytes is_missed old new)
    ⊎ (((lines ≢ [])
    × (IsAppended file_bytes is_missed lines old new ⊎ IsMissed file_bytes is_missed lines old new))
    ⊎ Misses file_bytes is_missed old new)

-- so are those of the steps by which a controller is as it was saved; none where none was saved
abbrev pub StepsJournaled : {J : Type 0} → (J → List ℕ) → (J → Bool) → ℕ → List (Option StepName)
    → List (Option Receipt) → Option AnyController → J → J → Type 0
StepsJournaled file_bytes is_missed at all taken None old new = IsLeft file_bytes is_missed old new
StepsJournaled file_bytes is_missed at all taken (Some c) old new =
    AreJournaled file_bytes is_missed (lines_for (name_of c) at all taken) old new

-- those who wait for the controller that a keeper holds are answered by its steps at a time, and
-- their lines are in the journal; or each is refused, with a status of 503, and the journal is left
abbrev pub KeepsJournal : {S K J : Type 0} → (K → Bool) → (file_bytes place : K → List ℕ) → (K → ℕ)
    → (K → K → Type 0) → (K → List ℕ → K → Type 0) → (J → List ℕ) → (J → Bool) → K → Addressee → ℕ
    → List (Errand S) → List (AnsweredClient S) → Option AnyController → J → J → Type 0
KeepsJournal {K = K} honest file_bytes place count loads saves told missed keep to now es answered c old new =
    ((at : ℕ) × (after : K)
    × StepsLine honest file_bytes place count loads saves to at now keep after es answered c
    × StepsJournaled told missed at (map called_of_coming (comings_of es)) (map taken_from_client answered) c old new)
    ⊎ (AreUnavailable now (waiting_of es) answered × IsLeft told missed old new)

-- the same of those who wait for the controller in the file of this path; where somebody else has
-- that locked, the journal is left
abbrev pub KeepsJournalIn : {J : Type 0} → (J → List ℕ) → (J → Bool) → List ℕ → Addressee → ℕ
    → List (Errand TcpStream) → J → J → StepsResult → Type 0
KeepsJournalIn told is_missed path to now errands old new (answered_so answered saved) =
    KeepsJournal is_honest file_bytes place count load_fails save_fails told is_missed (keep_in_file path) to
    now errands answered.items saved old new
KeepsJournalIn told is_missed path to now errands old new (locked_out left last) =
    IsLeft told is_missed old new

-- the same of those who wait for the controller under the key of etcd that a path names
abbrev pub JournalInEtcd : {J : Type 0} → (R : Type 0) → (J → List ℕ) → (J → Bool) → List ℕ
    → Addressee → ℕ → List (Errand TcpStream) → List (AnsweredClient TcpStream)
    → Option AnyController → J → J → Type 0
JournalInEtcd R told is_missed path to now errands answered saved old new =
    ((keep : EtcdKeep R) × IsKeepAt path keep
    × KeepsJournal etcd.is_honest etcd.value_bytes etcd.place etcd.count etcd.load_fails
    etcd.save_fails told is_missed keep to now errands answered saved old new)
    ⊎ (AreUnavailable now (waiting_of errands) answered × IsLeft told is_missed old new)

-- and of those who wait for the controller at a path, in its file or under its key
abbrev pub KeepsJournalAt : {J : Type 0} → (R : Type 0) → Bool → (J → List ℕ) → (J → Bool) → List ℕ
    → Addressee → ℕ → List (Errand TcpStream) → J → J → StepsResult → Type 0
KeepsJournalAt R true told is_missed path to now errands old new (answered_so answered saved) =
    JournalInEtcd R told is_missed path to now errands answered.items saved old new
KeepsJournalAt R true told is_missed path to now errands old new (locked_out left last) = ⊥
KeepsJournalAt R false told is_missed path to now errands old new stepped =
    KeepsJournalIn told is_missed path to now errands old new stepped

-- ---- of what no client waits for

-- the controller that a keeper held took all this at a time, and this was given out of it; or nothing
-- was given out. A keeper that is at hand is locked by nobody else
abbrev pub OwnStepsKept : {K : Type 0} → (K → Bool) → (K → List ℕ) → K → Addressee → ℕ → List Coming
    → OwnStepResult → Type 0
OwnStepsKept {K = K} is_honest file_bytes keep to at all (own_stepped.Stepped given saved) =
    (after : K) × TakesAll is_honest file_bytes to at all given.items saved keep after
OwnStepsKept is_honest file_bytes keep to at all (own_stepped.LockedOut left last) = ⊥
OwnStepsKept is_honest file_bytes keep to at all own_stepped.Failed = Unit {0}

-- nothing was done: all this is given back, and the controller as it was saved last
abbrev pub IsGivenBack : List Coming → Option AnyController → OwnStepResult → Type 0
IsGivenBack all last (own_stepped.LockedOut left kept) = (left.items ≡ all) × (kept ≡ last)
IsGivenBack all last result = ⊥

-- the same of a keeper that was found so; where somebody else has it locked all is given back, and
-- nothing was done where it can't be locked
abbrev pub OwnStepsFound : {K : Type 0} → (K → Bool) → (K → List ℕ) → Result (Option K) KeepFault
    → Addressee → ℕ → List Coming → Option AnyController → OwnStepResult → Type 0
OwnStepsFound is_honest file_bytes (Ok (Some keep)) to at all last result =
    OwnStepsKept is_honest file_bytes keep to at all result
OwnStepsFound is_honest file_bytes (Ok None) to at all last result = IsGivenBack all last result
OwnStepsFound is_honest file_bytes (Err e) to at all last result = result ≡ own_stepped.Failed

-- the same of the controller at a path, in its file or under its key; only of a file it is told that
-- somebody else has it locked
abbrev pub OwnStepsAt : (R : Type 0) → Bool → List ℕ → Addressee → ℕ → List Coming
    → Option AnyController → OwnStepResult → Type 0
OwnStepsAt R true path to at all last (own_stepped.Stepped given saved) =
    (keep : EtcdKeep R) × IsKeepAt path keep
    × OwnStepsKept etcd.is_honest etcd.value_bytes keep to at all (own_stepped.Stepped given saved)
OwnStepsAt R false path to at all last (own_stepped.Stepped given saved) =
    OwnStepsKept is_honest file_bytes (keep_in_file path) to at all (own_stepped.Stepped given saved)
OwnStepsAt R in_etcd path to at all last (own_stepped.LockedOut left kept) =
    (in_etcd ≡ false) × (left.items ≡ all) × (kept ≡ last)
OwnStepsAt R in_etcd path to at all last own_stepped.Failed = ⊤

-- the lines of its steps are in the journal; where nothing was given out that is left
abbrev pub KeepsOwnJournal : {J : Type 0} → (J → List ℕ) → (J → Bool) → ℕ → List Coming → J → J
    → OwnStepResult → Type 0
KeepsOwnJournal told is_missed at all old new (own_stepped.Stepped given saved) =
    StepsJournaled told is_missed at (map called_of_coming all) (map taken_from_result given.items) saved old new
KeepsOwnJournal told is_missed at all old new (own_stepped.LockedOut left last) =
    IsLeft told is_missed old new
KeepsOwnJournal told is_missed at all old new own_stepped.Failed = IsLeft told is_missed old new
