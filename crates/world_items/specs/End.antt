-- How the work on a part ended, in a word.
use Rattle.std.specs.Prelude.{ℕ, List, codes}
use Rattle.world_items.specs.declared.end.End.{End}
use Rattle.world_items.specs.declared.end.End.TheVariants.{Completed, Aborted}

-- the Status of the node of a part whose work ended so
abbrev pub end_word : End → List ℕ
end_word Completed = codes "Completed"
end_word Aborted = codes "Aborted"
