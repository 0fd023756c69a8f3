-- What is written of the answer to a message, once the controller that sent it has taken that.
use Rattle.std.specs.Prelude.{◌≡◌, ◌≢◌, ℕ, ◌++◌, ◌||◌, ◌∷◌, Bool, List, [], codes, decimal}
use Rattle.std.specs.Prelude.{Option, Some, None, Result, Ok, Err, is_some}
use Rattle.controller.specs.Words.{status_word}
use Rattle.controller.specs.declared.body.Body.{Body}
use Rattle.controller.specs.declared.body.Body.TheVariants.{Answer}
use Rattle.controller.specs.declared.message.Message.{Message}
use Rattle.controller.specs.declared.queue_status.QueueStatus.{QueueStatus}
use Rattle.world_items.specs.declared.reply.Reply.{Reply}
use Rattle.jmf_message.specs.Refused.{refusal_told}
use Rattle.refusal_rows.specs.Numbers.{named_number}
use Rattle.ticket_items.specs.Refusal.{name_of, number_of}
use Rattle.ticket_items.specs.declared.refusal.Refusal.{Refusal}
use Rattle.file_commands.specs.Step.{is_refused, reply_text, text_line}

-- ---- what it tells

-- the number of the refusal that an answer tells, once it was taken so: of one that wasn't taken
-- none
abbrev pub refusal_taken : Result Reply Refusal → Body → Option ℕ
refusal_taken (Ok reply) body = refusal_told body
refusal_taken (Err e) body = None

-- the Status of the queue entry that an answer tells of, once it was taken so
abbrev pub status_taken : Result Reply Refusal → Body → Option QueueStatus
status_taken (Ok reply) (Answer asked spawn (Ok status)) = Some status
status_taken reply body = None

-- ---- in words

-- a Status behind a space, if there is one
abbrev pub status_behind : Option QueueStatus → List ℕ
status_behind None = []
status_behind (Some status) = codes " " ++ status_word status

-- this is the refusal of a number, or there is none of it
abbrev pub IsNumbered : ℕ → Option Refusal → Type 0
IsNumbered number (Some e) = number_of e ≡ number
IsNumbered number None = (e : Refusal) → number_of e ≢ number

-- a number, and the name of its refusal, if there is one
abbrev pub number_text : ℕ → Option Refusal → List ℕ
number_text number (Some e) = named_number number (name_of e)
number_text number None = decimal number

-- the line of a refusal and of who refused
unfoldable pub refusal_line : List ℕ → List ℕ → List ℕ
refusal_line number sender = codes "Refused " ++ number ++ codes " by " ++ sender ++ 10 ∷ []

-- the line tells that the controller of a name refused, for the refusal of a number
abbrev pub IsRefusedBy : ℕ → List ℕ → List ℕ → Type 0
IsRefusedBy number sender line =
    (refusal : Option Refusal) × IsNumbered number refusal
    × (line ≡ refusal_line (number_text number refusal) sender)

-- the same where there is such a number, and else nothing
abbrev pub IsRefusalLine : Option ℕ → List ℕ → List ℕ → Type 0
IsRefusalLine None sender line = line ≡ []
IsRefusalLine (Some number) sender line = IsRefusedBy number sender line

-- what is written of an answer that was taken, so, and whether anything was refused: the reply,
-- with the Status of the queue entry; the text that goes out, if there is one; and who refused
pub record IsOfAnswer (m : Message) (reply : Result Reply Refusal) (sent : Option (List ℕ))
    (text : List ℕ) (refused : Bool) : Type 0 where
  pub line : List ℕ
  pub is : IsRefusalLine (refusal_taken reply m.body) m.sender line
  pub written : text ≡
      reply_text reply ++ status_behind (status_taken reply m.body) ++ 10 ∷ text_line sent ++ line
  pub told : refused ≡ (is_refused reply || is_some (refusal_taken reply m.body))
