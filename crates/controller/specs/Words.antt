-- Messages between controllers (JMF; JDF 1.5, 5): the words and IDs that they are made of.
use Rattle.std.specs.Prelude.{ℕ, ◌++◌, ◌&&◌, Bool, true, false, List, codes, if◌then◌else◌, nat_le}
use Rattle.std.specs.Prelude.{Option, Some, None, Result, Ok, Err, not}
use Rattle.std.specs.Str.{bytes_eq}
use Rattle.ticket_items.specs.SpawnId.{spawn_text}
use Rattle.controller.specs.declared.body.Body.{Body}
use Rattle.controller.specs.declared.body.Body.TheVariants.{Submit, Return, Abort, Answer}
use Rattle.controller.specs.declared.command.Command.{Command}
use Rattle.controller.specs.declared.command.Command.TheVariants as commands
use Rattle.controller.specs.declared.queue_status.QueueStatus.{QueueStatus}
use Rattle.controller.specs.declared.queue_status.QueueStatus.TheVariants.{Running, Completed}
use Rattle.controller.specs.declared.queue_status.QueueStatus.TheVariants.{Aborted}

-- the Version of the standard that messages name
abbrev pub version : List ℕ
version = codes "1.5"

-- a URL that names no place: nothing is fetched or written by it
abbrev pub no_place : List ℕ
no_place = codes "cid:jdf"

-- where a sender takes messages
abbrev pub place_of : List ℕ → List ℕ
place_of sender = codes "jmf:" ++ sender

-- what the profile says of a command: its Type, what its ID begins with, the name under which its
-- params stand, whether a part goes with it, and whether it goes to a worker, and its answer to a
-- master, or the other way round
pub record CommandRow : Type 0 where
  pub word : List ℕ
  pub mark : List ℕ
  pub params : List ℕ
  pub has_part : Bool
  pub is_to_worker : Bool

-- the table of commands
abbrev pub row_of : Command → CommandRow
row_of commands.Submit =
    record {
      word = codes "SubmitQueueEntry";
      mark = codes "Q.";
      params = codes "QueueSubmissionParams";
      has_part = true;
      is_to_worker = true;
    }
row_of commands.Return =
    record {
      word = codes "ReturnQueueEntry";
      mark = codes "R.";
      params = codes "ReturnQueueEntryParams";
      has_part = true;
      is_to_worker = false;
    }
row_of commands.Abort =
    record {
      word = codes "AbortQueueEntry";
      mark = codes "A.";
      params = codes "AbortQueueEntryParams";
      has_part = false;
      is_to_worker = true;
    }

-- the Type of a command
abbrev pub type_of : Command → List ℕ
type_of c = (row_of c).word

-- what its ID begins with
abbrev pub mark_of : Command → List ℕ
mark_of c = (row_of c).mark

-- the ID of the command of a spawn
abbrev pub command_id : Command → ℕ → List ℕ
command_id asked spawn = mark_of asked ++ spawn_text spawn

-- the ID of the answer to it
abbrev pub answer_id : Command → ℕ → List ℕ
answer_id asked spawn = command_id asked spawn ++ codes ".a"

-- the Status of a queue entry
abbrev pub status_word : QueueStatus → List ℕ
status_word Running = codes "Running"
status_word Completed = codes "Completed"
status_word Aborted = codes "Aborted"

-- the command of a Type
abbrev pub command_named : List ℕ → Option Command
command_named kind =
    if bytes_eq kind (type_of commands.Submit) then Some commands.Submit else
    (if bytes_eq kind (type_of commands.Return) then Some commands.Return else
    (if bytes_eq kind (type_of commands.Abort) then Some commands.Abort else None))

-- the Status of a word
abbrev pub status_named : List ℕ → Option QueueStatus
status_named word =
    if bytes_eq word (status_word Running) then Some Running else
    (if bytes_eq word (status_word Completed) then Some Completed else
    (if bytes_eq word (status_word Aborted) then Some Aborted else None))

-- the ID of a message
abbrev pub message_id : Body → List ℕ
message_id (Submit part) = command_id commands.Submit part.spawn_id
message_id (Return part) = command_id commands.Return part.spawn_id
message_id (Abort spawn) = command_id commands.Abort spawn
message_id (Answer asked spawn result) = answer_id asked spawn

-- the command that a message gives, or that it answers
abbrev pub command_in : Body → Command
command_in (Submit part) = commands.Submit
command_in (Return part) = commands.Return
command_in (Abort spawn) = commands.Abort
command_in (Answer asked spawn result) = asked

-- whether a message is one for a worker, else for a master: a command goes as its row says, and
-- the answer to it the other way
abbrev pub is_for_worker : Body → Bool
is_for_worker (Answer asked spawn result) = not (row_of asked).is_to_worker
is_for_worker body = (row_of (command_in body)).is_to_worker

-- the spawn that it is about
abbrev pub spawn_in : Body → ℕ
spawn_in (Submit part) = part.spawn_id
spawn_in (Return part) = part.spawn_id
spawn_in (Abort spawn) = spawn
spawn_in (Answer asked spawn result) = spawn

-- whether it is an answer
abbrev pub is_answer : Body → Bool
is_answer (Submit part) = false
is_answer (Return part) = false
is_answer (Abort spawn) = false
is_answer (Answer asked spawn result) = true

-- the number of a refusal is 1 to 999
abbrev pub is_reason : ℕ → Bool
is_reason n = nat_le 1 n && nat_le n 999

-- whether the number of the refusal that a result tells of, if it does, is one
abbrev pub is_told : Result QueueStatus ℕ → Bool
is_told (Ok status) = true
is_told (Err reason) = is_reason reason

-- whether a message may be sent: the number of a refusal in it is one
abbrev pub may_be_sent : Body → Bool
may_be_sent (Submit part) = true
may_be_sent (Return part) = true
may_be_sent (Abort spawn) = true
may_be_sent (Answer asked spawn result) = is_told result
