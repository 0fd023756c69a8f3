-- What came of an event, in a word.
use Rattle.std.specs.Prelude.{Result, Ok, Err}
use Rattle.ticket_items.specs.declared.refusal.Refusal.{Refusal}
use Rattle.world_items.specs.declared.reply.Reply.{Reply}
use Rattle.world_items.specs.declared.word.Word.{Word}
use Rattle.world_items.specs.declared.word.Word.TheVariants.{Did, Refused}

-- what a controller replies, or why it refuses, in a word
abbrev pub word_of : Result Reply Refusal → Word
word_of (Ok reply) = Did reply
word_of (Err e) = Refused e
