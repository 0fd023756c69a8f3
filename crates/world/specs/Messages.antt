-- What always holds of the messages that were sent: of one spawn one part goes out, one comes back,
-- and one command gives it up; each is what the controllers know of the spawn, and each entry has a
-- record.
use Rattle.std.specs.Prelude.{◌≡◌, ℕ, true, false, List, if◌then◌else◌, is_some, Option, Some}
use Rattle.std.specs.Prelude.{IfSome, IsSomeAnd, Result, is_ok, ⊤}
use Rattle.std.specs.List.{All, Contains}
use Rattle.ticket_tree.specs.Part.{is_sound}
use Rattle.controller.specs.Reply.{command_given, spawn_in}
use Rattle.controller.specs.declared.body.Body.{Body}
use Rattle.controller.specs.declared.body.Body.TheVariants.{Submit, Return, Abort, Answer}
use Rattle.controller.specs.declared.command.Command.TheVariants as command
use Rattle.controller.specs.declared.message.Message.{Message}
use Rattle.controller.specs.declared.queue_status.QueueStatus.{QueueStatus}
use Rattle.spawn.specs.Records.{is_out}
use Rattle.spawn.specs.declared.records.phase.Phase.{Phase}
use Rattle.spawn.specs.declared.records.phase.Phase.TheVariants.{Out, Merged, Withdrawn}
use Rattle.spawn.specs.declared.records.spawn_rec.SpawnRec.{SpawnRec}
use Rattle.merge.specs.Shape.{Fits}
use Rattle.master_core.specs.Master.{record_of}
use Rattle.master_core.specs.Messages as master_messages
use Rattle.master_core.specs.Orders.{abort_of, submit_of}
use Rattle.worker_core.specs.Messages as worker_messages
use Rattle.worker_core.specs.Orders.{return_of}
use Rattle.worker_core.specs.Worker.{State, is_declined, is_ended, is_open, response_of_stage}
use Rattle.worker_core.specs.declared.entry.Entry.{Entry}
use Rattle.world.specs.Controllers.{Controllers, entry_at}

-- ---- entries

-- the entry of a spawn, at the worker that its record names
abbrev pub entry_for : Controllers → SpawnRec → Option Entry
entry_for c r = entry_at c.workers r.worker r.id

-- an entry at the worker of a name is of a spawn whose record names that worker: so no two workers
-- have an entry of one spawn. While that spawn is out, an entry that wasn't declined has a part,
-- which fits its claim
abbrev pub IsRecorded : Controllers → List ℕ → Entry → Type 0
IsRecorded c name e =
    IsSomeAnd (record_of c.master.records e.spawn_id) (λ r.
    (r.worker ≡ name)
    × (is_out r ≡ true → is_declined e ≡ false → IsSomeAnd e.part (Fits c.master.ticket r)))

-- and so is each entry of a worker
abbrev pub AreRecorded : Controllers → State → Type 0
AreRecorded c v = All (IsRecorded c v.name) v.entries

-- ---- the way of a message

-- who sends a message, and to whom: between the master and the worker of the spawn's record
abbrev pub sender_of : Controllers → SpawnRec → Body → List ℕ
sender_of c r body = if worker_messages.is_for_worker body then c.master.name else r.worker

abbrev pub receiver_of : Controllers → SpawnRec → Body → List ℕ
receiver_of c r body = if worker_messages.is_for_worker body then r.worker else c.master.name

-- ---- what a message says

-- the work on a spawn has ended, and a fact holds of its entry
abbrev pub HasEnded : Controllers → SpawnRec → (Entry → Type 0) → Type 0
HasEnded c r P = IsSomeAnd (entry_for c r) (λ e. (is_ended e ≡ true) × P e)

-- the entry of a spawn whose record is in a phase: the work on it has ended where its part was put
-- in, and it was declined where the spawn was withdrawn
abbrev pub IsBack : Phase → Entry → Type 0
IsBack Out e = ⊤
IsBack Merged e = is_ended e ≡ true
IsBack Withdrawn e = is_declined e ≡ true

-- and each spawn that isn't out has such an entry
abbrev pub HasComeBack : Controllers → SpawnRec → Type 0
HasComeBack c r = is_out r ≡ false → IsSomeAnd (entry_for c r) (IsBack r.phase)

-- a message is the one that gives back the part of an entry, from a name to another, while the
-- entry has the part
abbrev pub IsReturn : List ℕ → List ℕ → Message → Entry → Type 0
IsReturn name master m e = IfSome (return_of name master e) (λ n. m ≡ n)

-- an answer to the command to give a spawn up tells how far its entry is: it isn't open, and so it
-- tells the same from then on. Only of an entry that was declined does it tell of a refusal
abbrev pub TellsEntry : Result QueueStatus ℕ → Entry → Type 0
TellsEntry told e = (is_open e ≡ false) × (told ≡ response_of_stage e.phase)

-- a message that sends a part out is, while its spawn is out, the one that the master makes of its
-- ticket and the record; one that brings a part back is of an entry on which the work has ended,
-- and is, while that has the part, the one that the worker makes of it; one to give a spawn up is
-- the one that the master makes of the record; and where a part that came back is answered, it
-- wasn't refused, and was put in
abbrev pub SaysRight : Controllers → SpawnRec → Message → Body → Type 0
SaysRight c r m (Submit p) = is_out r ≡ true → m ≡ submit_of c.master.name c.master.ticket r
SaysRight c r m (Return p) = HasEnded c r (IsReturn r.worker c.master.name m)
SaysRight c r m (Abort s) = m ≡ abort_of c.master.name r
SaysRight c r m (Answer command.Submit s told) = ⊤
SaysRight c r m (Answer command.Return s told) =
    (is_ok told ≡ true) × (is_out r ≡ false) × HasEnded c r (λ e. ⊤)
SaysRight c r m (Answer command.Abort s told) = IsSomeAnd (entry_for c r) (TellsEntry told)

-- a part that goes out can have come from a ticket
abbrev pub HasSoundPart : Body → Type 0
HasSoundPart (Submit p) = is_sound p ≡ true
HasSoundPart (Return p) = ⊤
HasSoundPart (Abort s) = ⊤
HasSoundPart (Answer c s told) = ⊤

-- ---- a message in order

-- its spawn has a record; it goes between the master and that spawn's worker; it says what they
-- know; and its part is one that either may take
pub record IsInOrder (c : Controllers) (m : Message) : Type 0 where
  pub spawn : SpawnRec
  pub recorded : record_of c.master.records (spawn_in m.body) ≡ Some spawn
  pub from : m.sender ≡ sender_of c spawn m.body
  pub to : m.receiver ≡ receiver_of c spawn m.body
  pub says : SaysRight c spawn m m.body
  pub for_master : master_messages.IsValidBody m.body
  pub for_worker : worker_messages.IsValidBody m.body
  pub sound : HasSoundPart m.body

-- both give the same command of the same spawn: both send its part out, both bring it back, or both
-- are to give it up. An answer gives none
pub record GiveOneCommand (m n : Message) : Type 0 where
  pub given : is_some (command_given m.body) ≡ true
  pub same : command_given m.body ≡ command_given n.body
  pub spawn : spawn_in m.body ≡ spawn_in n.body

-- ---- all messages

-- each message is in order, and two that give the same command of the same spawn are one message
pub record AreInOrder (c : Controllers) (messages : List Message) : Type 0 where
  pub each : All (IsInOrder c) messages
  pub one :
      (m n : Message) → Contains messages m → Contains messages n → GiveOneCommand m n → m ≡ n
