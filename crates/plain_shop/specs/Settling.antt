-- What is left of a step, by where its controller stops: whether its state is stored, and whether
-- its message is sent. The same for any kind of state and of message.
use Rattle.std.specs.Prelude.{ℕ, zero, suc, List, [], ◌∷◌, ◌++◌, length, slice_get, Option, None}
use Rattle.std.specs.Option.{option_map, option_map_or}
use Rattle.world_items.specs.declared.answer.Answer.{Answer}
use Rattle.world_items.specs.declared.stop.Stop.{Stop}
use Rattle.world_items.specs.declared.stop.Stop.TheVariants.{Run, BeforeSave, BeforeSend}
use Rattle.world_items.specs.declared.word.Word.{Word}
use Rattle.world_items.specs.declared.word.Word.TheVariants.{Stopped}

-- the number of a message that is sent next. The first has the number 1
abbrev pub number_of : {M : Type 0} → List M → Option M → Option ℕ
number_of messages sent = option_map (λ m. suc (length messages)) sent

-- the messages, with the one that is sent, if one is
abbrev pub with_sent : {M : Type 0} → List M → Option M → List M
with_sent messages sent = option_map_or (λ m. messages ++ m ∷ []) sent messages

-- what is answered where no step is made
abbrev pub answer_without_step : Word → Answer
answer_without_step word = record { word = word; number = None }

-- what is answered: a lost step as `Stopped`, else the word of the step, with the number of its
-- message if that is sent
abbrev pub answer_left : {M : Type 0} → Stop → List M → Word → Option M → Answer
answer_left Run messages word sent =
    record { word = word; number = number_of messages sent }
answer_left BeforeSave messages word sent = answer_without_step Stopped
answer_left BeforeSend messages word sent = answer_without_step word

-- the state that is stored: the next, unless the step is lost
abbrev pub state_left : {S : Type 0} → Stop → S → S → S
state_left Run old next = next
state_left BeforeSave old next = old
state_left BeforeSend old next = next

-- the messages that were sent: also the step's, unless it or its message is lost
abbrev pub messages_left : {M : Type 0} → Stop → List M → Option M → List M
messages_left Run messages sent = with_sent messages sent
messages_left BeforeSave messages sent = messages
messages_left BeforeSend messages sent = messages

-- the message of a number. The first has the number 1
abbrev pub message_at : {M : Type 0} → List M → ℕ → Option M
message_at messages zero = None
message_at messages (suc k) = slice_get messages k
