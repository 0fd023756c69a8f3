-- Which spawns' parts were put in, by the answers.
use Rattle.std.specs.Prelude.{◌≡◌, ℕ, List, Some, slice_get}
use Rattle.world_items.specs.declared.answer.Answer.{Answer}
use Rattle.world_items.specs.declared.reply.Reply.TheVariants.{Merged}
use Rattle.world_items.specs.declared.word.Word.TheVariants.{Did}

-- the answer tells that the part of a spawn was put in
abbrev pub TellsMerge : ℕ → Answer → Type 0
TellsMerge s a = a.word ≡ Did (Merged s)

-- of answers in turn no two tell that the part of one spawn was put in
abbrev pub AreMergedOnce : List Answer → Type 0
AreMergedOnce answers =
    (s i j : ℕ) (a b : Answer) → slice_get answers i ≡ Some a → slice_get answers j ≡ Some b
    → TellsMerge s a → TellsMerge s b → i ≡ j
