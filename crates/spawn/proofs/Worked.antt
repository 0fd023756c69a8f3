-- The definitions computed on a small job: a product with paper and sheets in its pool, whose
-- printing takes paper and makes sheets, and whose cutting takes the sheets.
use Rattle.std.proofs.Common.{◌≡◌, ℕ, true, false, List, [], ◌∷◌, map, Some, None, refl}
use Rattle.std.specs.Fmt.{digits}
use Rattle.std.specs.List.{filter}
use Rattle.std.specs.Prelude.{codes}
use Rattle.ticket_rows.specs.Edit.{edited_rows}
use Rattle.ticket_rows.specs.Place.{below, places, resource, row_in}
use Rattle.ticket_rows.specs.Ticket.{Job}
use Rattle.ticket_tree.specs.PartView.{cut_place, part_row, part_thing}
use Rattle.ticket_items.specs.declared.audit.Audit.TheVariants.{Spawned}
use Rattle.ticket_items.specs.declared.edit.Edit.TheVariants.{AddNode}
use Rattle.ticket_items.specs.declared.link.Link.{Link}
use Rattle.ticket_items.specs.declared.node_row.NodeRow.{NodeRow}
use Rattle.ticket_items.specs.declared.refusal.Refusal.TheVariants.{UnknownNode, IsRoot}
use Rattle.ticket_items.specs.declared.refusal.Refusal.TheVariants.{UnknownResource, NotLinked}
use Rattle.ticket_items.specs.declared.refusal.Refusal.TheVariants.{NotHeld, TooManySpawns}
use Rattle.ticket_items.specs.declared.resource.Resource.{Resource}
use Rattle.ticket_items.specs.declared.spawn_status.SpawnStatus.TheVariants.{SpawnedRO, SpawnedRW}
use Rattle.ticket_items.specs.declared.usage.Usage.TheVariants.{Input, Output}
use Rattle.plain_shop.specs.Claim.{ids_of, linked_outside, claim}
use Rattle.spawn.specs.Holdings.{claimed_ids, claims}
use Rattle.spawn.specs.Marking.{marks}
use Rattle.spawn.specs.Parts.{part_for}
use Rattle.spawn.specs.Spawning.{job_after_spawn, new_record, spawn_refusal}
use Rattle.spawn.specs.Stored.{are_apart, are_good, stands_in}
use Rattle.spawn.specs.Table.{holder_of, spawn_with}
use Rattle.world_items.specs.declared.holder.Holder.TheVariants.{Master, Spawn}
use Rattle.spawn.specs.declared.records.phase.Phase.TheVariants.{Out, Merged, Withdrawn}
use Rattle.spawn.specs.declared.records.spawn_rec.SpawnRec.{SpawnRec}

abbrev paper : Resource
paper = record { id = codes "r1"; name = codes "Media"; class = codes "Consumable"; status = codes "Available"; attrs = [] }

abbrev sheets : Resource
sheets = record { id = codes "r2"; name = codes "Component"; class = codes "Quantity"; status = codes "Unavailable"; attrs = [] }

abbrev node : List ℕ → ℕ → List ℕ → List ℕ → List Resource → List Link → NodeRow
node id depth kind job_part pool links =
    record { id = id; depth = depth; kind = kind; job_part = job_part; status = codes "Waiting"; attrs = []; resources = pool; links = links; audits = [] }

abbrev product : NodeRow
product = node (codes "n0") 1 (codes "Product") (codes "p0") (paper ∷ sheets ∷ []) []

abbrev printing : ℕ → NodeRow
printing depth =
    node (codes "n1") depth (codes "ConventionalPrinting") (codes "p1") [] (record { rref = codes "r1"; usage = Input } ∷ record { rref = codes "r2"; usage = Output } ∷ [])

abbrev cutting : NodeRow
cutting = node (codes "n2") 2 (codes "Cutting") (codes "p2") [] (record { rref = codes "r2"; usage = Input } ∷ [])

abbrev rows : List NodeRow
rows = product ∷ printing 2 ∷ cutting ∷ []

abbrev job : Job
job = record { job_id = codes "J1"; rows = rows }

-- ---- what is linked and claimed

printing_links : ids_of (linked_outside (places rows) (codes "n1")) ≡ codes "r1" ∷ codes "r2" ∷ []
printing_links = refl

cutting_links : ids_of (linked_outside (places rows) (codes "n2")) ≡ codes "r2" ∷ []
cutting_links = refl

product_links : ids_of (linked_outside (places rows) (codes "n0")) ≡ []
product_links = refl

printing_claims : ids_of (claim (places rows) (codes "n1") (codes "r2" ∷ []))
    ≡ codes "r2" ∷ codes "n1" ∷ []
printing_claims = refl

-- ---- the spawn of the printing

abbrev first : SpawnRec
first = record { id = 1; node = codes "n1"; worker = codes "press"; at = 100; rw = codes "r2" ∷ []; ro = paper ∷ []; phase = Out }

first_record : new_record rows 1 (codes "n1") (codes "press") (codes "r2" ∷ codes "r2" ∷ []) 100
    ≡ first
first_record = refl

abbrev told : List NodeRow
told =
    record product { audits = Spawned 100 (codes "n1") (codes "S1") (codes "r1" ∷ []) (codes "r2" ∷ []) (codes "Waiting") ∷ [] } ∷ printing 2 ∷ cutting ∷ []

first_spawned : job_after_spawn job first ≡ record { job_id = codes "J1"; rows = told }
unfolding digits
first_spawned = refl

first_part : part_for job first ≡ record {
  job_id = codes "J1";
  spawn_id = 1;
  ancestors = record { node_id = codes "n0"; job_part = codes "p0" } ∷ [];
  rows = printing 1 ∷ [];
  rw = sheets ∷ [];
  ro = paper ∷ [];
}
first_part = refl

-- the part shows the printing and its sheets, but neither the paper, which may be read alone, nor
-- the product
first_rows : map (part_row (part_for job first))
    (codes "n1" ∷ codes "r2" ∷ codes "r1" ∷ codes "n0" ∷ [])
    ≡ row_in rows (codes "n1") ∷ row_in rows (codes "r2") ∷ None ∷ None ∷ []
first_rows = refl

first_sheets : part_thing (part_for job first) (codes "r2")
    ≡ Some (resource (codes "Component") (codes "Quantity"))
first_sheets = refl

first_paper : part_thing (part_for job first) (codes "r1") ≡ None
first_paper = refl

-- the paths of the part end at the printing
first_places : map (cut_place 1) (filter (below (codes "n1")) (places rows)) ≡ places (printing 1 ∷ [])
first_places = refl

-- ---- refusals

root_refused : spawn_refusal rows [] 1 (codes "n0") [] ≡ Some IsRoot
root_refused = refl

unknown_refused : spawn_refusal rows [] 1 (codes "r1") [] ≡ Some UnknownNode
unknown_refused = refl

node_refused : spawn_refusal rows [] 1 (codes "n1") (codes "n2" ∷ []) ≡ Some UnknownResource
node_refused = refl

unlinked_refused : spawn_refusal rows [] 1 (codes "n2") (codes "r1" ∷ []) ≡ Some NotLinked
unlinked_refused = refl

number_refused : spawn_refusal rows [] 0 (codes "n1") (codes "r2" ∷ []) ≡ Some TooManySpawns
number_refused = refl

large_number_refused : spawn_refusal rows [] 1000000000 (codes "n1") (codes "r2" ∷ [])
    ≡ Some TooManySpawns
large_number_refused = refl

done : spawn_refusal rows [] 1 (codes "n1") (codes "r2" ∷ []) ≡ None
done = refl

twice_refused : spawn_refusal told (first ∷ []) 2 (codes "n1") (codes "r2" ∷ []) ≡ Some (NotHeld 1)
twice_refused = refl

shared_refused : spawn_refusal told (first ∷ []) 2 (codes "n2") (codes "r2" ∷ []) ≡ Some (NotHeld 1)
shared_refused = refl

read_alone : spawn_refusal told (first ∷ []) 2 (codes "n2") [] ≡ None
read_alone = refl

-- ---- holders and marks

sheets_held : holder_of told (first ∷ []) (codes "r2") ≡ Some (Spawn 1)
sheets_held = refl

paper_held : holder_of told (first ∷ []) (codes "r1") ≡ Some Master
paper_held = refl

unknown_held : holder_of told (first ∷ []) (codes "n9") ≡ None
unknown_held = refl

abbrev second : SpawnRec
second = record { id = 2; node = codes "n2"; worker = codes "bind"; at = 100; rw = []; ro = sheets ∷ []; phase = Out }

second_record : new_record told 2 (codes "n2") (codes "bind") [] 100 ≡ second
second_record = refl

both_marked : marks told (first ∷ second ∷ []) ≡ record {
  nodes = codes "n1" ∷ codes "n2" ∷ [];
  resources = record { id = codes "r1"; status = SpawnedRO; spawn_ids = 1 ∷ [] } ∷ record { id = codes "r2"; status = SpawnedRW; spawn_ids = 1 ∷ 2 ∷ [] } ∷ [];
}
both_marked = refl

-- numbers stand in their order, whatever that of the records is
turned_marked : marks told (second ∷ first ∷ []) ≡ marks told (first ∷ second ∷ [])
turned_marked = refl

second_merged : marks told (first ∷ record second { phase = Merged } ∷ []) ≡ record {
  nodes = codes "n1" ∷ [];
  resources = record { id = codes "r1"; status = SpawnedRO; spawn_ids = 1 ∷ [] } ∷ record { id = codes "r2"; status = SpawnedRW; spawn_ids = 1 ∷ [] } ∷ [];
}
second_merged = refl

first_merged : marks told (record first { phase = Merged } ∷ second ∷ []) ≡ record {
  nodes = codes "n2" ∷ [];
  resources = record { id = codes "r2"; status = SpawnedRO; spawn_ids = 2 ∷ [] } ∷ [];
}
first_merged = refl

-- a spawn that was withdrawn leaves as little
first_withdrawn : marks told (record first { phase = Withdrawn } ∷ second ∷ [])
    ≡ marks told (record first { phase = Merged } ∷ second ∷ [])
first_withdrawn = refl

-- ---- who holds what, by id

abbrev all_ids : List (List ℕ)
all_ids = codes "n0" ∷ codes "n1" ∷ codes "n2" ∷ codes "r1" ∷ codes "r2" ∷ codes "n9" ∷ []

both_hold : map (spawn_with told (first ∷ second ∷ [])) all_ids
    ≡ None ∷ Some 1 ∷ Some 2 ∷ None ∷ Some 1 ∷ None ∷ []
both_hold = refl

first_claims : map (claims told first) all_ids ≡ false ∷ true ∷ false ∷ false ∷ true ∷ false ∷ []
first_claims = refl

first_ids : claimed_ids told first ≡ codes "n1" ∷ codes "r2" ∷ []
first_ids = refl

-- a copy that isn't of the ticket is no claim
unknown_ids : claimed_ids told (record first { rw = codes "r9" ∷ [] }) ≡ codes "n1" ∷ []
unknown_ids = refl

-- once the first is merged or withdrawn
first_given_back : map (spawn_with told (record first { phase = Merged } ∷ second ∷ [])) all_ids
    ≡ None ∷ None ∷ Some 2 ∷ None ∷ None ∷ None ∷ []
first_given_back = refl

first_taken_back : map (spawn_with told (record first { phase = Withdrawn } ∷ second ∷ [])) all_ids
    ≡ None ∷ None ∷ Some 2 ∷ None ∷ None ∷ None ∷ []
first_taken_back = refl

-- of two claims that share something, the first of the records has it
shared_claim : map (spawn_with told (first ∷ record second { rw = codes "r2" ∷ []; ro = [] } ∷ [])) all_ids
    ≡ map (spawn_with told (first ∷ second ∷ [])) all_ids
shared_claim = refl

-- no spawn holds what is added
folding : List NodeRow
folding = edited_rows (AddNode (codes "n0") (codes "n3") (codes "Folding") (codes "p3") (codes "Waiting")) 5 told

folding_held : map (holder_of folding (first ∷ second ∷ [])) (codes "n3" ∷ codes "n1" ∷ [])
    ≡ Some Master ∷ Some (Spawn 1) ∷ []
unfolding folding
folding_held = refl

-- ---- what was stored

stand : map (stands_in told) (first ∷ record second { phase = Merged } ∷ []) ≡ true ∷ true ∷ []
stand = refl

root_stands : stands_in told (record second { node = codes "n0"; phase = Merged }) ≡ false
root_stands = refl

unknown_stands : stands_in told (record second { node = codes "n9"; phase = Merged }) ≡ false
unknown_stands = refl

copy_of_a_node_stands : stands_in told (record second { rw = codes "n1" ∷ []; phase = Merged }) ≡ false
copy_of_a_node_stands = refl

good : are_good told (first ∷ second ∷ []) ≡ true
good = refl

-- a copy of another name isn't good while the spawn is out
renamed : List Resource
renamed = record sheets { name = codes "Media" } ∷ []

renamed_good : are_good told (record second { ro = renamed } ∷ []) ≡ false
unfolding renamed
renamed_good = refl

renamed_merged : are_good told (record second { ro = renamed; phase = Merged } ∷ []) ≡ true
unfolding renamed
renamed_merged = refl

apart : are_apart (places told) (first ∷ second ∷ []) ≡ true
apart = refl

sheets_twice : are_apart (places told) (first ∷ record second { rw = codes "r2" ∷ []; ro = [] } ∷ [])
    ≡ false
sheets_twice = refl

-- a copy of what is at home below another's node is claimed twice
product_too : are_apart (places told) (record second { node = codes "n0" } ∷ first ∷ []) ≡ false
product_too = refl

merged_apart : are_apart (places told) (record second { node = codes "n0"; phase = Merged } ∷ first ∷ [])
    ≡ true
merged_apart = refl

-- what stands nowhere is claimed by none
unknown_apart : are_apart (places told)
    (record first { node = codes "n8"; rw = codes "r9" ∷ [] } ∷ record second { rw = codes "r9" ∷ [] } ∷ [])
    ≡ true
unknown_apart = refl
