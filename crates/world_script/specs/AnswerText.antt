-- The text of an answer.
use Rattle.std.specs.Prelude.{ℕ, List, [], ◌++◌, codes, decimal, Option, Some, None}
use Rattle.ticket_items.specs.Refusal.{holder_of, number_of, name_of}
use Rattle.ticket_items.specs.SpawnId.{spawn_text}
use Rattle.ticket_items.specs.declared.refusal.Refusal.{Refusal}
use Rattle.controller.specs.Reply as replies
use Rattle.world_items.specs.declared.reply.Reply.{Reply}
use Rattle.world_items.specs.declared.answer.Answer.{Answer}
use Rattle.world_items.specs.declared.word.Word.{Word}
use Rattle.world_items.specs.declared.word.Word.TheVariants.{Did, Refused, Stopped, Restarted}
use Rattle.world_items.specs.declared.word.Word.TheVariants.{NoMessage}

-- a space and the id of a spawn, if there is one
abbrev pub spawn_behind : Option ℕ → List ℕ
spawn_behind None = []
spawn_behind (Some s) = codes " " ++ spawn_text s

-- a reply's word, and the spawn that it tells of
abbrev pub reply_text : Reply → List ℕ
reply_text reply = replies.word_of reply ++ spawn_behind (replies.spawn_of_reply reply)

-- `Refused`, and a refusal's number and name
abbrev pub refusal_words : ℕ → List ℕ → List ℕ
refusal_words number name = codes "Refused " ++ decimal number ++ codes " " ++ name

-- the words of a refusal, and the spawn that it tells of
abbrev pub refusal_text : Refusal → List ℕ
refusal_text e = refusal_words (number_of e) (name_of e) ++ spawn_behind (holder_of e)

-- what came of an event, in a word and what that tells
abbrev pub word_text : Word → List ℕ
word_text (Did reply) = reply_text reply
word_text (Refused e) = refusal_text e
word_text Stopped = codes "Stopped"
word_text Restarted = codes "Restarted"
word_text NoMessage = codes "NoMessage"

-- the number of the message that was sent, if one was
abbrev pub number_behind : Option ℕ → List ℕ
number_behind None = []
number_behind (Some k) = codes " #" ++ decimal k

abbrev pub answer_text : Answer → List ℕ
answer_text a = word_text a.word ++ number_behind a.number
