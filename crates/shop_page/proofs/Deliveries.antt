-- The members of what is told of a message, as they are printed one behind the other.
use Rattle.std.proofs.Common.{ℕ, List, Option, Some, None, Result, OnOk, codes, refl}
use Rattle.json.specs.Token.{end_object}
use Rattle.json.specs.Written.{Written, Writes}
use Rattle.serde_json.specs.Data.{Members, member, no_members, string}
use Rattle.ticket_items.specs.SpawnId.{spawn_text}
use Rattle.json_text.specs.Printed.{IsPrinted}
use Rattle.json_text.proofs.PrintedObjects.{IsOpen, closed, joined}
use Rattle.list_text.specs.JsonLine.{number_data}
use Rattle.shop_page.specs.ListJson.{told_delivery, with_refusal}

-- as they were printed
abbrev pub printed : List ℕ → Option ℕ → ℕ → ℕ → Members
printed controller refusal seconds spawn =
    joined
    (joined
    (joined (joined no_members (member (codes "Controller") (string controller) no_members))
    (with_refusal refusal no_members))
    (member (codes "Seconds") (number_data seconds) no_members))
    (member (codes "SpawnID") (string (spawn_text spawn)) no_members)

-- the end of such an object
pub ended : {E : Type 0} (controller : List ℕ) (refusal : Option ℕ) (seconds spawn : ℕ) {old mid : Written} (r : Result (Unit {0}) E) (new : Written) → IsOpen (printed controller refusal seconds spawn) old mid → Writes r mid new end_object → OnOk r (IsPrinted (told_delivery controller refusal seconds spawn) old new)
ended controller None seconds spawn r new all writes = closed r new all writes refl
ended controller (Some number) seconds spawn r new all writes = closed r new all writes refl
