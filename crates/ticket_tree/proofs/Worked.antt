-- The definitions, computed on small tickets.
use Rattle.std.proofs.Common.{◌≡◌, ℕ, true, false, List, [], ◌∷◌, ◌++◌, map, Some, None, refl}
use Rattle.std.specs.Prelude.{codes}
use Rattle.ticket_items.specs.Names.{is_name}
use Rattle.ticket_rows.specs.Place.{node_places, resource_places, home, is_below, up, kids}
use Rattle.ticket_rows.specs.Place.{preorder}
use Rattle.ticket_rows.specs.Ticket.{fault_of, ids, node_ids}
use Rattle.ticket_rows.specs.Edit.{refusal_of, edited_rows, bare_row}
use Rattle.ticket_items.specs.declared.edit.Edit.TheVariants.{SetStatus, SetResStatus, Note}
use Rattle.ticket_items.specs.declared.edit.Edit.TheVariants.{AddNode, AddLink}
use Rattle.ticket_rows.specs.Homes.{home_of}
use Rattle.ticket_rows.specs.OneRow.{replaced_node, replaced_resource, rows_with_audit}
use Rattle.ticket_tree.specs.Part.{is_sound, part_copy}
use Rattle.ticket_rows.specs.Copies.{with_copies}
use Rattle.ticket_items.specs.SpawnId.{spawn_of}
use Rattle.ticket_items.specs.declared.ancestor.Ancestor.{Ancestor}
use Rattle.ticket_items.specs.declared.audit.Audit.TheVariants.{Notification}
use Rattle.ticket_items.specs.declared.link.Link.{Link}
use Rattle.ticket_items.specs.declared.resource.Resource.{Resource}
use Rattle.ticket_items.specs.declared.usage.Usage.{Usage}
use Rattle.ticket_items.specs.declared.usage.Usage.TheVariants.{Input, Output}
use Rattle.ticket_items.specs.declared.node_row.NodeRow.{NodeRow}
use Rattle.ticket_items.specs.declared.refusal.Refusal.TheVariants.{UnknownNode, UnknownResource}
use Rattle.ticket_items.specs.declared.refusal.Refusal.TheVariants.{ReservedStatus, NotATree}
use Rattle.ticket_items.specs.declared.refusal.Refusal.TheVariants.{DuplicateId, UnresolvedLink}

abbrev row : List ℕ → ℕ → NodeRow
row id depth = record { id = id; depth = depth; kind = codes "Product"; job_part = codes "p"; status = codes "Waiting"; attrs = []; resources = []; links = []; audits = [] }

-- a (b (c) (d (e))) f
abbrev sample : List NodeRow
sample = row (codes "a") 1 ∷ row (codes "b") 2 ∷ row (codes "c") 3 ∷ row (codes "d") 3 ∷ row (codes "e") 4 ∷ row (codes "f") 2 ∷ []

valid : fault_of sample ≡ None
valid = refl

e_path : map (λ p. p.path) (node_places sample)
    ≡ (codes "a" ∷ []) ∷ (codes "b" ∷ codes "a" ∷ []) ∷ (codes "c" ∷ codes "b" ∷ codes "a" ∷ [])
    ∷ (codes "d" ∷ codes "b" ∷ codes "a" ∷ []) ∷ (codes "e" ∷ codes "d" ∷ codes "b" ∷ codes "a" ∷ [])
    ∷ (codes "f" ∷ codes "a" ∷ []) ∷ []
e_path = refl

e_below_b : is_below (node_places sample) (codes "e") (codes "b") ≡ true
e_below_b = refl

f_not_below_b : is_below (node_places sample) (codes "f") (codes "b") ≡ false
f_not_below_b = refl

unknown_below_none : is_below (node_places sample) (codes "x") (codes "x") ≡ false
unknown_below_none = refl

up_e : up (node_places sample) (codes "e") ≡ Some (codes "d")
up_e = refl

up_root : up (node_places sample) (codes "a") ≡ None
up_root = refl

kids_b : kids (node_places sample) (codes "b") ≡ codes "c" ∷ codes "d" ∷ []
kids_b = refl

drawn : preorder 32 (node_places sample) (codes "a") ≡ node_ids sample
drawn = refl

two_roots : fault_of (row (codes "a") 1 ∷ row (codes "b") 1 ∷ []) ≡ Some NotATree
two_roots = refl

gap : fault_of (row (codes "a") 1 ∷ row (codes "b") 3 ∷ []) ≡ Some NotATree
gap = refl

no_row : fault_of [] ≡ Some NotATree
no_row = refl

twice : fault_of (row (codes "a") 1 ∷ row (codes "a") 2 ∷ []) ≡ Some DuplicateId
twice = refl

unknown : refusal_of (SetStatus (codes "x") (codes "Spawned")) sample ≡ Some UnknownNode
unknown = refl

reserved : refusal_of (SetStatus (codes "b") (codes "Spawned")) sample ≡ Some ReservedStatus
reserved = refl

digits_first : is_name (codes "9x") ≡ false
digits_first = refl

dots : is_name (codes "_a.b-9") ≡ true
dots = refl

-- ---- resources, links and all edits, on a product with paper and sheets, its printing and its cutting

abbrev item : List ℕ → List ℕ → Resource
item id name = record { id = id; name = name; class = codes "Consumable"; status = codes "Available"; attrs = [] }

abbrev use_of : List ℕ → Usage → Link
use_of x usage = record { rref = x; usage = usage }

abbrev node_with : List ℕ → ℕ → List Resource → List Link → NodeRow
node_with id depth resources links = record { id = id; depth = depth; kind = codes "Product"; job_part = codes "p"; status = codes "Waiting"; attrs = []; resources = resources; links = links; audits = [] }

abbrev product : List NodeRow
product =
    node_with (codes "n0") 1 (item (codes "r1") (codes "Media") ∷ item (codes "r2") (codes "Component") ∷ []) [] ∷ node_with (codes "n1") 2 [] (use_of (codes "r1") Input ∷ use_of (codes "r2") Output ∷ [])
    ∷ node_with (codes "n2") 2 [] (use_of (codes "r2") Input ∷ []) ∷ []

product_valid : fault_of product ≡ None
product_valid = refl

all_ids : ids product ≡ codes "n0" ∷ codes "r1" ∷ codes "r2" ∷ codes "n1" ∷ codes "n2" ∷ []
all_ids = refl

paper_home : home_of product (codes "r1") ≡ Some (codes "n0")
paper_home = refl

no_paper_home : home_of product (codes "n1") ≡ None
no_paper_home = refl

place_home : home (resource_places product) (codes "r2") ≡ Some (codes "n0")
place_home = refl

id_of_both : fault_of (node_with (codes "n0") 1 (item (codes "n0") (codes "Media") ∷ []) [] ∷ [])
    ≡ Some DuplicateId
id_of_both = refl

-- a resource of a sibling's pool is out of reach
beside : fault_of
    (node_with (codes "n0") 1 [] [] ∷ node_with (codes "n1") 2 [] (use_of (codes "r3") Input ∷ [])
    ∷ node_with (codes "n2") 2 (item (codes "r3") (codes "Component") ∷ []) [] ∷ [])
    ≡ Some UnresolvedLink
beside = refl

-- the refusals of edits, in their order
unknown_resource : refusal_of (SetResStatus (codes "r9") (codes "InUse")) product
    ≡ Some UnknownResource
unknown_resource = refl

node_no_resource : refusal_of (SetResStatus (codes "n1") (codes "InUse")) product
    ≡ Some UnknownResource
node_no_resource = refl

spawned_first : refusal_of
    (AddNode (codes "n0") (codes "n1") (codes "Folding") (codes "p3") (codes "Spawned")) product
    ≡ Some ReservedStatus
spawned_first = refl

twice_added : refusal_of
    (AddNode (codes "n0") (codes "r1") (codes "Folding") (codes "p3") (codes "Waiting")) product
    ≡ Some DuplicateId
twice_added = refl

linked_unknown : refusal_of (AddLink (codes "n1") (use_of (codes "r9") Input)) product
    ≡ Some UnknownResource
linked_unknown = refl

-- a new node is the third child, with nothing in it
third_child : edited_rows
    (AddNode (codes "n0") (codes "n3") (codes "Folding") (codes "p3") (codes "Waiting")) 5 product
    ≡ product ++ bare_row (codes "n3") (codes "Folding") (codes "p3") (codes "Waiting") 2 ∷ []
third_child = refl

-- a new child of a node with others below it stands behind them
behind_others : node_ids
    (edited_rows
    (AddNode (codes "b") (codes "g") (codes "Folding") (codes "p3") (codes "Waiting")) 5 sample)
    ≡ codes "a" ∷ codes "b" ∷ codes "c" ∷ codes "d" ∷ codes "e" ∷ codes "g" ∷ codes "f" ∷ []
behind_others = refl

noted : map (λ r. r.audits) (edited_rows (Note (codes "n1") (codes "washed up")) 7 product)
    ≡ [] ∷ (Notification 7 (codes "washed up") ∷ []) ∷ [] ∷ []
noted = refl

-- ---- a part: the printing, with its sheets to change and its paper to read

abbrev above : List Ancestor
above = record { node_id = codes "n0"; job_part = codes "p0" } ∷ []

abbrev printing : NodeRow
printing = node_with (codes "n1") 1 [] (use_of (codes "r1") Input ∷ use_of (codes "r2") Output ∷ [])

abbrev sheets : List Resource
sheets = item (codes "r2") (codes "Component") ∷ []

abbrev paper : List Resource
paper = item (codes "r1") (codes "Media") ∷ []

part_valid : fault_of (with_copies (printing ∷ []) sheets paper) ≡ None
part_valid = refl

part_sound : is_sound (part_copy (codes "J1") 1 above (printing ∷ []) sheets paper) ≡ true
part_sound = refl

-- its row once more, below itself
row_twice : fault_of (with_copies (printing ∷ record printing { depth = 2 } ∷ []) sheets paper)
    ≡ Some DuplicateId
row_twice = refl

-- without the paper
no_paper : fault_of (with_copies (printing ∷ []) sheets []) ≡ Some UnresolvedLink
no_paper = refl

from_nowhere : is_sound (part_copy (codes "J1") 1 [] (printing ∷ []) sheets paper) ≡ false
from_nowhere = refl

below_itself : is_sound
    (part_copy (codes "J1") 1 (record { node_id = codes "n1"; job_part = codes "p0" } ∷ [])
    (printing ∷ []) sheets paper)
    ≡ false
below_itself = refl

unlinked : is_sound
    (part_copy (codes "J1") 1 above (printing ∷ []) (sheets ++ item (codes "r3") (codes "Ink") ∷ []) paper)
    ≡ false
unlinked = refl

-- ---- spawn ids by their texts

spawn_one : spawn_of (codes "S1") ≡ Some 1
spawn_one = refl

spawn_last : spawn_of (codes "S999999999") ≡ Some 999999999
spawn_last = refl

spawn_zero : spawn_of (codes "S0") ≡ None
spawn_zero = refl

spawn_leading : spawn_of (codes "S01") ≡ None
spawn_leading = refl

spawn_many : spawn_of (codes "S1000000000") ≡ None
spawn_many = refl

spawn_bare : spawn_of (codes "S") ≡ None
spawn_bare = refl

spawn_small : spawn_of (codes "s1") ≡ None
spawn_small = refl

-- ---- the calls that change one row

-- the audit stands last
audited : map (λ r. r.audits)
    (rows_with_audit (codes "n1") (Notification 8 (codes "dried"))
    (edited_rows (Note (codes "n1") (codes "washed up")) 7 product))
    ≡ [] ∷ (Notification 7 (codes "washed up") ∷ Notification 8 (codes "dried") ∷ []) ∷ [] ∷ []
audited = refl

-- the depth stays
put_back : replaced_node (record printing { status = codes "Completed" }) product
    ≡ edited_rows (SetStatus (codes "n1") (codes "Completed")) 5 product
put_back = refl

used : replaced_resource
    (record (item (codes "r2") (codes "Component")) { status = codes "InUse" }) product
    ≡ edited_rows (SetResStatus (codes "r2") (codes "InUse")) 5 product
used = refl
