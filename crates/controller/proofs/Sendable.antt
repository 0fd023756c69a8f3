-- What a controller sends may be sent: a part, or an answer with the number of a refusal.
use Rattle.std.proofs.Common.{◌≡◌, ℕ, List, true, Option, Some, None, Result, Err, refl}
use Rattle.std.specs.Option.{option_map}
use Rattle.std.specs.Prelude.{IfSome}
use Rattle.ticket_items.specs.Refusal.{number_of}
use Rattle.ticket_items.specs.declared.refusal.Refusal.{Refusal}
use Rattle.ticket_items.specs.declared.refusal.Refusal.TheVariants as refusals
use Rattle.controller.specs.Reply.{answer_message, answer_to, command_given}
use Rattle.controller.specs.Step.{Taking, message_step}
use Rattle.controller.specs.Words.{is_told, may_be_sent}
use Rattle.controller.specs.declared.command.Command.{Command}
use Rattle.controller.specs.declared.message.Message.{Message}
use Rattle.controller.specs.declared.queue_status.QueueStatus.{QueueStatus}

number_told : (e : Refusal) → is_told (Err (number_of e)) ≡ true
number_told refusals.BadId = refl
number_told refusals.DuplicateId = refl
number_told refusals.UnresolvedLink = refl
number_told refusals.TooDeep = refl
number_told refusals.ReservedStatus = refl
number_told refusals.BadText = refl
number_told refusals.NotATree = refl
number_told refusals.UnknownNode = refl
number_told refusals.UnknownResource = refl
number_told (refusals.NotHeld s) = refl
number_told refusals.IsRoot = refl
number_told refusals.NotLinked = refl
number_told refusals.UnknownWorker = refl
number_told refusals.NotOut = refl
number_told refusals.TooManySpawns = refl
number_told refusals.SameName = refl
number_told refusals.UnknownSpawn = refl
number_told refusals.WrongSender = refl
number_told refusals.WrongShape = refl
number_told refusals.UnknownEntry = refl
number_told refusals.NotOpen = refl
number_told refusals.ReadOnly = refl
number_told refusals.NotInPart = refl
number_told refusals.NotForWorkers = refl
number_told refusals.NotDone = refl
number_told refusals.BadPart = refl
number_told refusals.Acknowledged = refl
number_told refusals.Declined = refl
number_told refusals.NotJson = refl
number_told refusals.NotProfile = refl
number_told refusals.WrongMessage = refl
number_told refusals.WrongVersion = refl
number_told refusals.BadState = refl
number_told refusals.Memory = refl

answer_sent : (name : List ℕ) (m : Message) (at' : ℕ) (result : Result QueueStatus ℕ) (c : Option Command) → is_told result ≡ true → IfSome (option_map (answer_message name m at' result) c) (λ a. may_be_sent a.body ≡ true)
answer_sent name m at' result None is = tt
answer_sent name m at' result (Some c) is = is

answers_sent : (name : List ℕ) (m : Message) (at' : ℕ) (result : Result QueueStatus ℕ) → is_told result ≡ true → IfSome (answer_to name m at' result) (λ a. may_be_sent a.body ≡ true)
answers_sent name m at' result is = answer_sent name m at' result (command_given m.body) is

-- and so may what a controller answers with, refused or not
pub answering_sends : {S : Type 0} (name : List ℕ) (m : Message) (at' : ℕ) (why : Option Refusal) (w : S) (t : Taking S) → is_told t.response ≡ true
    → IfSome (message_step name m at' why w t).sent (λ a. may_be_sent a.body ≡ true)
answering_sends name m at' None w t is = answers_sent name m at' t.response is
answering_sends name m at' (Some e) w t is = answers_sent name m at' (Err (number_of e)) (number_told e)
