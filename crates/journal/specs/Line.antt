-- The line of a step: a JSON object whose members stand in the byte order of their names.
use Rattle.std.specs.Prelude.{ℕ, List, [], ◌∷◌, ◌++◌, codes, Option, Some, None}
use Rattle.std.specs.Borrow.{Bor}
use Rattle.std.specs.Option.{option_map}
use Rattle.serde_json.specs.Data.{Data, Members, member, no_members, number, object, string, unsigned}
use Rattle.serde_json.specs.Written.{compact_text}
use Rattle.ticket_items.specs.SpawnId.{spawn_text}
pub use Rattle.controller.specs.Reply.{spawn_of_reply, word_of}
use Rattle.world_items.specs.declared.reply.Reply.{Reply}
use Rattle.journal.specs.declared.line.Step.{Step}

-- who asked for a step, where that is known
abbrev pub who : Option (Bor (List ℕ)) → Option (List ℕ)
who by = option_map (λ name. name.now) by

-- members behind the one that tells who asked for a step, where that is known
abbrev pub with_by : Option (List ℕ) → Members → Members
with_by None more = more
with_by (Some name) more = member (codes "By") (string name) more

-- members behind the one that tells a spawn, if there is one
abbrev pub with_spawn : Option ℕ → Members → Members
with_spawn None more = more
with_spawn (Some s) more = member (codes "SpawnID") (string (spawn_text s)) more

-- a step by this one, if that is known, of the controller of a name, by what has this name, at a
-- time, which replied so
abbrev pub told_data : Option (List ℕ) → List ℕ → Reply → ℕ → List ℕ → Data
told_data by controller reply at what =
    object
    (with_by by
    (member (codes "Controller") (string controller)
    (member (codes "Reply") (string (word_of reply))
    (with_spawn (spawn_of_reply reply)
    (member (codes "Time") (number (unsigned at))
    (member (codes "What") (string what) no_members))))))

-- the same as a line of text
abbrev pub told_line : Option (List ℕ) → List ℕ → Reply → ℕ → List ℕ → List ℕ
told_line by controller reply at what =
    compact_text (told_data by controller reply at what) ++ 10 ∷ []

-- the same of a step
abbrev pub step_data : Step → Data
step_data s = told_data (who s.by) s.controller.now s.reply s.at s.what.now

-- its line
abbrev pub step_line : Step → List ℕ
step_line s = told_line (who s.by) s.controller.now s.reply s.at s.what.now
