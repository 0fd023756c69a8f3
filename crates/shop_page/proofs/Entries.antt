-- The members of an entry, as they are printed one behind the other.
use Rattle.std.proofs.Common.{ℕ, Option, Some, None, Result, OnOk, codes, refl}
use Rattle.json.specs.Token.{end_object}
use Rattle.json.specs.Written.{Written, Writes}
use Rattle.serde_json.specs.Data.{Members, member, no_members, string}
use Rattle.ticket_items.specs.SpawnId.{spawn_text}
use Rattle.ticket_tree.specs.Part.{PartCopy}
use Rattle.json_text.specs.Printed.{IsPrinted}
use Rattle.json_text.proofs.PrintedObjects.{IsOpen, closed, joined}
use Rattle.list_text.specs.JsonLine.{number_data}
use Rattle.worker_core.specs.declared.stage.Stage.{Stage}
use Rattle.worker_core.specs.declared.stage.Stage.TheVariants.{Open, Done, Closed, Declined}
use Rattle.shop_page.specs.WorkerJson.{end_of, stage_word, told_entry, with_end, with_part}

-- as they were printed
abbrev pub printed : ℕ → Stage → Option PartCopy → ℕ → Members
printed at stage part spawn =
    joined
    (joined
    (joined
    (joined (joined no_members (member (codes "At") (number_data at) no_members)) (with_end (end_of stage) no_members))
    (with_part part no_members))
    (member (codes "Phase") (string (stage_word stage)) no_members))
    (member (codes "SpawnID") (string (spawn_text spawn)) no_members)

-- the end of such an object
pub ended : {E : Type 0} (at : ℕ) (stage : Stage) (part : Option PartCopy) (spawn : ℕ) {old mid : Written} (r : Result (Unit {0}) E) (new : Written) → IsOpen (printed at stage part spawn) old mid → Writes r mid new end_object → OnOk r (IsPrinted (told_entry at stage part spawn) old new)
ended at Open None spawn r new all writes = closed r new all writes refl
ended at Open (Some p) spawn r new all writes = closed r new all writes refl
ended at (Done how) None spawn r new all writes = closed r new all writes refl
ended at (Done how) (Some p) spawn r new all writes = closed r new all writes refl
ended at (Closed how) None spawn r new all writes = closed r new all writes refl
ended at (Closed how) (Some p) spawn r new all writes = closed r new all writes refl
ended at Declined None spawn r new all writes = closed r new all writes refl
ended at Declined (Some p) spawn r new all writes = closed r new all writes refl
