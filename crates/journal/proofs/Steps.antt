-- The members of a step, as they are printed one behind the other.
use Rattle.std.proofs.Common.{ℕ, List, Option, Some, None, Result, OnOk, codes, refl}
use Rattle.json.specs.Token.{end_object}
use Rattle.json.specs.Written.{Written, Writes}
use Rattle.serde_json.specs.Data.{Members, member, no_members, number, object, string, unsigned}
use Rattle.json_text.specs.Printed.{IsPrinted}
use Rattle.json_text.proofs.PrintedObjects.{IsOpen, closed, joined}
use Rattle.journal.specs.Line.{with_by, with_spawn}

-- as they were printed
abbrev pub printed : Option (List ℕ) → List ℕ → List ℕ → Option ℕ → ℕ → List ℕ → Members
printed by controller word spawn at what =
    joined
    (joined
    (joined
    (joined
    (joined (joined no_members (with_by by no_members))
    (member (codes "Controller") (string controller) no_members))
    (member (codes "Reply") (string word) no_members))
    (with_spawn spawn no_members))
    (member (codes "Time") (number (unsigned at)) no_members))
    (member (codes "What") (string what) no_members)

-- as they are told
abbrev pub told : Option (List ℕ) → List ℕ → List ℕ → Option ℕ → ℕ → List ℕ → Members
told by controller word spawn at what =
    with_by by
    (member (codes "Controller") (string controller)
    (member (codes "Reply") (string word)
    (with_spawn spawn
    (member (codes "Time") (number (unsigned at)) (member (codes "What") (string what) no_members)))))

-- the end of such an object
pub ended : {E : Type 0} (by : Option (List ℕ)) (controller word : List ℕ) (spawn : Option ℕ) (at : ℕ) (what : List ℕ) {old mid : Written} (r : Result (Unit {0}) E) (new : Written) → IsOpen (printed by controller word spawn at what) old mid → Writes r mid new end_object → OnOk r (IsPrinted (object (told by controller word spawn at what)) old new)
ended None controller word None at what r new all writes = closed r new all writes refl
ended None controller word (Some s) at what r new all writes = closed r new all writes refl
ended (Some name) controller word None at what r new all writes = closed r new all writes refl
ended (Some name) controller word (Some s) at what r new all writes = closed r new all writes refl
