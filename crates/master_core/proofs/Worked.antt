-- The definitions computed on a small job: a product, whose printing is out at the press with its sheets to change, and whose cutting
-- came back.
use Rattle.std.proofs.Common.{◌≡◌, ℕ, true, false, List, [], ◌∷◌, map, refl}
use Rattle.std.specs.Prelude.{codes}
use Rattle.ticket_items.specs.declared.link.Link.{Link}
use Rattle.ticket_items.specs.declared.node_row.NodeRow.{NodeRow}
use Rattle.ticket_items.specs.declared.resource.Resource.{Resource}
use Rattle.ticket_items.specs.declared.usage.Usage.TheVariants.{Input, Output}
use Rattle.spawn.specs.declared.records.phase.Phase.TheVariants.{Out, Merged}
use Rattle.spawn.specs.declared.records.spawn_rec.SpawnRec.{SpawnRec}
use Rattle.master_core.specs.Master.{State}
use Rattle.master_core.specs.Stored.{is_master}

abbrev paper : Resource
paper = record { id = codes "r1"; name = codes "Media"; class = codes "Consumable"; status = codes "Available"; attrs = [] }

abbrev sheets : Resource
sheets = record { id = codes "r2"; name = codes "Component"; class = codes "Quantity"; status = codes "Unavailable"; attrs = [] }

abbrev node : List ℕ → ℕ → List ℕ → List ℕ → List Resource → List Link → NodeRow
node id depth kind job_part pool links =
    record { id = id; depth = depth; kind = kind; job_part = job_part; status = codes "Waiting"; attrs = []; resources = pool; links = links; audits = [] }

abbrev rows : List NodeRow
rows =
    node (codes "n0") 1 (codes "Product") (codes "p0") (paper ∷ sheets ∷ []) []
    ∷ node (codes "n1") 2 (codes "ConventionalPrinting") (codes "p1") [] (record { rref = codes "r1"; usage = Input } ∷ record { rref = codes "r2"; usage = Output } ∷ [])
    ∷ node (codes "n2") 2 (codes "Cutting") (codes "p2") [] (record { rref = codes "r2"; usage = Input } ∷ []) ∷ []

abbrev first : SpawnRec
first = record { id = 1; node = codes "n2"; worker = codes "bind"; at = 100; rw = []; ro = sheets ∷ []; phase = Merged }

abbrev second : SpawnRec
second = record { id = 2; node = codes "n1"; worker = codes "press"; at = 110; rw = codes "r2" ∷ []; ro = paper ∷ []; phase = Out }

abbrev office : List SpawnRec → State
office records =
    record { name = codes "mis"; workers = codes "press" ∷ codes "bind" ∷ []; ticket = record { job_id = codes "J1"; rows = rows }; records = records }

stored : map (λ records. is_master (office records)) ([] ∷ (first ∷ []) ∷ (first ∷ second ∷ []) ∷ []) ≡ true ∷ true ∷ true ∷ []
stored = refl

-- two names that are equal
one_name : is_master (record (office []) { name = codes "press" }) ≡ false
one_name = refl

-- numbers in another order
other_order : is_master (office (second ∷ first ∷ [])) ≡ false
other_order = refl

-- no worker of the name
unknown_worker : is_master (office (record first { worker = codes "fold" } ∷ [])) ≡ false
unknown_worker = refl

-- a node that isn't there, and the root, also once the part came back
unknown_node : is_master (office (record first { node = codes "n9" } ∷ [])) ≡ false
unknown_node = refl

root : is_master (office (record first { node = codes "n0" } ∷ [])) ≡ false
root = refl

-- a copy of what isn't there
unknown_copy : is_master (office (record first { rw = codes "r9" ∷ [] } ∷ [])) ≡ false
unknown_copy = refl

-- a copy to read less than is linked, while the spawn is out
no_copy : is_master (office (first ∷ record second { ro = [] } ∷ [])) ≡ false
no_copy = refl

-- two that are out have the sheets to change
both_change : is_master (office (record first { rw = codes "r2" ∷ []; ro = []; phase = Out } ∷ second ∷ [])) ≡ false
both_change = refl
