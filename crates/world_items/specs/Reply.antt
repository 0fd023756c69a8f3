-- What a controller replies, in words, and the spawn that it tells of.
use Rattle.std.specs.Prelude.{ℕ, Bool, true, false, List, codes, Option, Some, None}
use Rattle.world_items.specs.declared.reply.Reply.{Reply}
use Rattle.world_items.specs.declared.reply.Reply.TheVariants as replies

-- its word
abbrev pub word_of : Reply → List ℕ
word_of replies.Edited = codes "Edited"
word_of (replies.Spawned s) = codes "Spawned"
word_of (replies.Sent s) = codes "Sent"
word_of (replies.Finished s) = codes "Finished"
word_of (replies.Merged s) = codes "Merged"
word_of (replies.Already s) = codes "Already"
word_of (replies.Noted s) = codes "Noted"
word_of (replies.Taken s) = codes "Taken"
word_of (replies.Again s) = codes "Again"
word_of (replies.Acked s) = codes "Acked"
word_of (replies.Asked s) = codes "Asked"
word_of (replies.Declined s) = codes "Declined"
word_of (replies.Ended s) = codes "Ended"
word_of (replies.Freed s) = codes "Freed"

-- the spawn that a reply tells of
abbrev pub spawn_of_reply : Reply → Option ℕ
spawn_of_reply replies.Edited = None
spawn_of_reply (replies.Spawned s) = Some s
spawn_of_reply (replies.Sent s) = Some s
spawn_of_reply (replies.Finished s) = Some s
spawn_of_reply (replies.Merged s) = Some s
spawn_of_reply (replies.Already s) = Some s
spawn_of_reply (replies.Noted s) = Some s
spawn_of_reply (replies.Taken s) = Some s
spawn_of_reply (replies.Again s) = Some s
spawn_of_reply (replies.Acked s) = Some s
spawn_of_reply (replies.Asked s) = Some s
spawn_of_reply (replies.Declined s) = Some s
spawn_of_reply (replies.Ended s) = Some s
spawn_of_reply (replies.Freed s) = Some s

-- whether a reply tells that a spawn is freed
abbrev pub is_freed : Reply → Bool
is_freed (replies.Freed s) = true
is_freed _ = false
