-- The members of an entry, as they are printed one after another.
use Rattle.std.proofs.Common.{◌≡◌, ℕ, List, codes, Option, Some, None, refl}
use Rattle.serde_json.specs.Data.{Members, no_members, member, number, unsigned, put, string}
use Rattle.ticket_items.specs.SpawnId.{spawn_text}
use Rattle.ticket_tree.specs.Part.{PartCopy}
use Rattle.json_text.proofs.PrintedObjects.{joined}
use Rattle.json_text.proofs.Tokens.{put_all}
use Rattle.worker_core.specs.declared.stage.Stage.{Stage}
use Rattle.worker_core.specs.declared.stage.Stage.TheVariants.{Open, Done, Closed, Declined}
use Rattle.controller_form.specs.States.EntryForm.{with_end, with_id, with_part}
use Rattle.controller_form.specs.States.StateFormat.{written_format}

-- in their order
abbrev pub shown_members : ℕ → Stage → ℕ → Option PartCopy → List ℕ → Members
shown_members at phase spawn part word =
    joined (joined (joined (joined (member (codes "At") (number (unsigned at)) no_members) (with_end phase no_members)) (member (codes "ID") (string (spawn_text spawn)) no_members)) (with_part part no_members)) (member (codes "Phase") (string word) no_members)

-- those of the form
abbrev pub stored_members : ℕ → Stage → ℕ → Option PartCopy → List ℕ → Members
stored_members at phase spawn part word =
    with_part part (with_end phase (with_id written_format spawn (put (codes "Phase") (string word) (put (codes "At") (number (unsigned at)) no_members))))

-- they are the same, and in the order of their names
pub same_members : (at : ℕ) (phase : Stage) (spawn : ℕ) (part : Option PartCopy) (word : List ℕ) → (shown_members at phase spawn part word ≡ stored_members at phase spawn part word) × (put_all (shown_members at phase spawn part word) no_members ≡ shown_members at phase spawn part word)
same_members at Open spawn None word = (refl, refl)
same_members at Open spawn (Some p) word = (refl, refl)
same_members at (Done how) spawn None word = (refl, refl)
same_members at (Done how) spawn (Some p) word = (refl, refl)
same_members at (Closed how) spawn None word = (refl, refl)
same_members at (Closed how) spawn (Some p) word = (refl, refl)
same_members at Declined spawn None word = (refl, refl)
same_members at Declined spawn (Some p) word = (refl, refl)
