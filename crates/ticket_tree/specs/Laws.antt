-- Laws of the definitions: what valid rows and their places are, and what an edit makes of both.
use Rattle.std.specs.Prelude.{◌≡◌, ◌↔◌, ◌⊎◌, ℕ, ◌&&◌, ◌||◌, true, false, List, [], ◌∷◌, ◌++◌}
use Rattle.std.specs.Prelude.{length, map, Some, None, is_some, slice_get}
use Rattle.std.specs.Option.{option_map, option_map_or}
use Rattle.std.specs.Str.{bytes_eq}
use Rattle.ticket_rows.specs.Homes.{has_resource, home_of, resource_of}
use Rattle.ticket_items.specs.Ids.{mem}
use Rattle.ticket_rows.specs.OneRow.{MayReplaceNode, MayReplaceResource, replaced_node}
use Rattle.ticket_rows.specs.OneRow.{rows_with_audit}
use Rattle.ticket_rows.specs.OneRow.{replaced_resource}
use Rattle.ticket_rows.specs.Place.{Place, is_node, node_place, node_places, node_row}
use Rattle.ticket_rows.specs.Place.{resource_place, resource_places, resource_row, places, place_at}
use Rattle.ticket_rows.specs.Place.{home, home_at, is_below, preorder, row_in}
use Rattle.ticket_rows.specs.Copies.{with_copies}
use Rattle.ticket_items.specs.Edit.{is_structural, target}
use Rattle.ticket_rows.specs.Edit.{refusal_of, edited_rows}
use Rattle.ticket_tree.specs.Part.{PartCopy, edited_part, refusal_of_part}
use Rattle.ticket_tree.specs.PartView.{own_rows, part_row}
use Rattle.ticket_tree.specs.PlainEdit.{plain_refusal, plain_changed, plain_places, plain_rows}
use Rattle.ticket_tree.specs.PlainEdit.{or_row, with_row_changed}
use Rattle.ticket_items.specs.declared.audit.Audit.{Audit}
use Rattle.ticket_items.specs.declared.edit.Edit.{Edit}
use Rattle.ticket_rows.specs.Place as tree
use Rattle.ticket_rows.specs.Ticket.{IsValid, fault_of, has_node, row_of, node_ids, depths}
use Rattle.ticket_rows.specs.Ticket.{max_depth}
use Rattle.ticket_items.specs.declared.node_row.NodeRow.{NodeRow}
use Rattle.ticket_items.specs.declared.resource.Resource.{Resource}

-- rows have no fault exactly if they are valid
abbrev pub NoFaultIsValid : Type 0
NoFaultIsValid = (rows : List NodeRow) → (fault_of rows ≡ None) ↔ IsValid rows

-- x stands at p as the root: its path is x alone, and it comes first
pub record IsRootAt (nodes : List Place) (x : List ℕ) (p : Place) : Type 0 where
  pub path : p.path ≡ x ∷ []
  pub first : slice_get nodes 0 ≡ Some p

-- x stands at p below a parent: its path is x and the parent's path, on which x is not
pub record HasParentAt (nodes : List Place) (x : List ℕ) (p : Place) : Type 0 where
  pub parent : Place
  pub there : place_at nodes parent.id ≡ Some parent
  pub path : p.path ≡ x ∷ parent.path
  pub above : tree.up nodes x ≡ Some parent.id
  pub once : mem x parent.path ≡ false

-- each node of valid rows is the root or has one parent
abbrev pub OneParentEach : Type 0
OneParentEach =
    (rows : List NodeRow) → IsValid rows → (x : List ℕ) (p : Place)
    → place_at (node_places rows) x ≡ Some p
    → IsRootAt (node_places rows) x p ⊎ HasParentAt (node_places rows) x p

-- a node of valid rows stands as deep as its path is long
abbrev pub DepthIsPathLength : Type 0
DepthIsPathLength =
    (rows : List NodeRow) → IsValid rows → map (λ p. length p.path) (node_places rows) ≡ depths rows

-- a is b or below it if it is known, and is b or has a parent that is b or below it
abbrev pub BelowByParent : Type 0
BelowByParent =
    (rows : List NodeRow) → IsValid rows → (a b : List ℕ)
    → is_below (node_places rows) a b
    ≡ (is_some (place_at (node_places rows) a)
    && (bytes_eq a b || option_map_or (λ u. is_below (node_places rows) u b)
    (tree.up (node_places rows) a) false))

-- valid rows are the preorder of the children: the root, its first child with all below it, ..
abbrev pub RowsArePreorder : Type 0
RowsArePreorder =
    (r : NodeRow) (rows : List NodeRow) → IsValid (r ∷ rows)
    → preorder max_depth (node_places (r ∷ rows)) r.id ≡ node_ids (r ∷ rows)

-- an edit of the rows is refused for what it is refused for on the places
abbrev pub RefusalIsPlain : Type 0
RefusalIsPlain =
    (e : Edit) (rows : List NodeRow) → IsValid rows
    → plain_refusal e (places rows) ≡ refusal_of e rows

-- an edit of the rows makes of the places what it makes of them on the plain ticket
abbrev pub EditOfPlaces : Type 0
EditOfPlaces =
    (e : Edit) (at : ℕ) (rows : List NodeRow) → IsValid rows → refusal_of e rows ≡ None
    → places (edited_rows e at rows) ≡ plain_places e (places rows)

-- and of the rows by id
abbrev pub EditOfRows : Type 0
EditOfRows =
    (e : Edit) (at : ℕ) (rows : List NodeRow) → IsValid rows → refusal_of e rows ≡ None
    → (y : List ℕ) → row_in (edited_rows e at rows) y ≡ plain_rows e at (row_in rows) y

-- an audit more at a node moves nothing
abbrev pub AppendOfPlaces : Type 0
AppendOfPlaces =
    (n : List ℕ) (audit : Audit) (rows : List NodeRow)
    → places (rows_with_audit n audit rows) ≡ places rows

-- and changes the row of that node alone
abbrev pub AppendOfRows : Type 0
AppendOfRows =
    (n : List ℕ) (audit : Audit) (rows : List NodeRow) → IsValid rows → has_node rows n ≡ true
    → (y : List ℕ)
    → row_in (rows_with_audit n audit rows) y
    ≡ with_row_changed n (λ r. record r { audits = r.audits ++ audit ∷ [] }) (row_in rows) y

-- the names and Classes of resources
abbrev pub names_of : List Resource → List (List ℕ × List ℕ)
names_of pool = map (λ x. (x.name, x.class)) pool

-- a node in the place of another moves nothing, where the resources of its pool have the names and
-- Classes that they had
abbrev pub ReplacedNodeOfPlaces : Type 0
ReplacedNodeOfPlaces =
    (row : NodeRow) (rows : List NodeRow) → IsValid rows → (may : MayReplaceNode rows row)
    → names_of row.resources ≡ names_of may.old.resources
    → places (replaced_node row rows) ≡ places rows

-- and changes the rows of the node and of the resources of its pool alone
abbrev pub ReplacedNodeOfRows : Type 0
ReplacedNodeOfRows =
    (row : NodeRow) (rows : List NodeRow) → IsValid rows → MayReplaceNode rows row → (y : List ℕ)
    → row_in (replaced_node row rows) y ≡ or_row (row_in (row ∷ []) y) (row_in rows y)

-- a resource in the place of another moves nothing
abbrev pub ReplacedResourceOfPlaces : Type 0
ReplacedResourceOfPlaces =
    (x : Resource) (rows : List NodeRow) → IsValid rows → MayReplaceResource rows x
    → places (replaced_resource x rows) ≡ places rows

-- and changes its row alone
abbrev pub ReplacedResourceOfRows : Type 0
ReplacedResourceOfRows =
    (x : Resource) (rows : List NodeRow) → IsValid rows → has_resource rows x.id ≡ true
    → (y : List ℕ)
    → row_in (replaced_resource x rows) y ≡ with_row_changed x.id (λ _. resource_row x) (row_in rows) y

-- ---- changes leave a ticket

-- an edit that isn't refused leaves valid rows
abbrev pub EditIsValid : Type 0
EditIsValid =
    (e : Edit) (at : ℕ) (rows : List NodeRow) → IsValid rows → refusal_of e rows ≡ None
    → IsValid (edited_rows e at rows)

-- and so does an audit more at a node
abbrev pub AppendIsValid : Type 0
AppendIsValid =
    (n : List ℕ) (audit : Audit) (rows : List NodeRow) → IsValid rows
    → IsValid (rows_with_audit n audit rows)

-- and a node, or a resource, in the place of another
abbrev pub ReplacedNodeIsValid : Type 0
ReplacedNodeIsValid =
    (row : NodeRow) (rows : List NodeRow) → IsValid rows → MayReplaceNode rows row
    → IsValid (replaced_node row rows)

abbrev pub ReplacedResourceIsValid : Type 0
ReplacedResourceIsValid =
    (x : Resource) (rows : List NodeRow) → IsValid rows → MayReplaceResource rows x
    → IsValid (replaced_resource x rows)

-- ---- look-ups

-- under x stand the place of the node and what of it may change
pub record IsNodeAt (rows : List NodeRow) (x : List ℕ) (r : NodeRow) : Type 0 where
  pub path : List (List ℕ)
  pub place : place_at (node_places rows) x ≡ Some (node_place r path)
  pub row : row_in rows x ≡ Some (node_row r)

-- the same of a resource
pub record IsResourceAt (rows : List NodeRow) (x : List ℕ) (y : Resource) : Type 0 where
  pub path : List (List ℕ)
  pub place : place_at (resource_places rows) x ≡ Some (resource_place path y)
  pub row : row_in rows x ≡ Some (resource_row y)

-- a node that is found among valid rows is found on the places and on the rows by id
abbrev pub NodeIsAtPlace : Type 0
NodeIsAtPlace =
    (rows : List NodeRow) → IsValid rows → (x : List ℕ) (r : NodeRow) → row_of rows x ≡ Some r
    → IsNodeAt rows x r

abbrev pub ResourceIsAtPlace : Type 0
ResourceIsAtPlace =
    (rows : List NodeRow) → IsValid rows → (x : List ℕ) (y : Resource) → resource_of rows x ≡ Some y
    → IsResourceAt rows x y

-- the home of a resource is that of its place
abbrev pub HomeIsAtPlace : Type 0
HomeIsAtPlace = (rows : List NodeRow) (x : List ℕ) → home_of rows x ≡ home (resource_places rows) x

-- a place of a node is there just if the node is, and is the place of that id
abbrev pub NodesAmongPlaces : Type 0
NodesAmongPlaces =
    (rows : List NodeRow) → IsValid rows → (x : List ℕ)
    → (is_some (place_at (node_places rows) x) ≡ has_node rows x)
    × ((p : Place) → place_at (node_places rows) x ≡ Some p → place_at (places rows) x ≡ Some p)

abbrev pub ResourcesAmongPlaces : Type 0
ResourcesAmongPlaces =
    (rows : List NodeRow) → IsValid rows → (x : List ℕ)
    → (is_some (place_at (resource_places rows) x) ≡ has_resource rows x)
    × ((p : Place) → place_at (resource_places rows) x ≡ Some p → place_at (places rows) x ≡ Some p)

-- the place of an id is found among those of its kind
abbrev pub PlacesByKind : Type 0
PlacesByKind =
    (rows : List NodeRow) (x : List ℕ) (p : Place) → place_at (places rows) x ≡ Some p
    → (is_node p ≡ true → place_at (node_places rows) x ≡ Some p)
    × (is_node p ≡ false → place_at (resource_places rows) x ≡ Some p)

-- an id stands at a place just if it has a row
abbrev pub StandsWithRow : Type 0
StandsWithRow =
    (rows : List NodeRow) (x : List ℕ)
    → is_some (place_at (places rows) x) ≡ is_some (row_in rows x)

-- a resource has the path of its home
abbrev pub PathIsHomes : Type 0
PathIsHomes =
    (rows : List NodeRow) → IsValid rows → (x : List ℕ) (p : Place) (h : List ℕ)
    → place_at (resource_places rows) x ≡ Some p → home_at p ≡ Some h
    → option_map (λ q. q.path) (place_at (node_places rows) h) ≡ Some p.path

-- valid rows that have the same places and the same rows by id are the same
abbrev pub PlacesAndRowsDetermine : Type 0
PlacesAndRowsDetermine =
    (a b : List NodeRow) → IsValid a → IsValid b → places a ≡ places b
    → ((x : List ℕ) → row_in a x ≡ row_in b x) → a ≡ b

-- ---- edits of a part

-- an edit of a part is refused for what it is refused for among its rows with the copies that may
-- be changed
abbrev pub PartRefusalIsOfOwnRows : Type 0
PartRefusalIsOfOwnRows =
    (e : Edit) (p : PartCopy) → IsValid (with_copies p.rows p.rw p.ro) → is_structural e ≡ false
    → refusal_of_part e p ≡ refusal_of e (own_rows p)

-- it leaves a part
abbrev pub PartEditIsValid : Type 0
PartEditIsValid =
    (e : Edit) (at : ℕ) (p : PartCopy) → IsValid (with_copies p.rows p.rw p.ro)
    → is_structural e ≡ false → refusal_of_part e p ≡ None
    → IsValid (with_copies (edited_part e at p).rows (edited_part e at p).rw p.ro)

-- it moves nothing
abbrev pub PartEditOfPlaces : Type 0
PartEditOfPlaces =
    (e : Edit) (at : ℕ) (p : PartCopy) → IsValid (with_copies p.rows p.rw p.ro)
    → is_structural e ≡ false → refusal_of_part e p ≡ None
    → places (own_rows (edited_part e at p)) ≡ places (own_rows p)

-- and changes one row, as on the plain ticket
abbrev pub PartEditOfRows : Type 0
PartEditOfRows =
    (e : Edit) (at : ℕ) (p : PartCopy) → IsValid (with_copies p.rows p.rw p.ro)
    → is_structural e ≡ false → refusal_of_part e p ≡ None
    → (y : List ℕ)
    → part_row (edited_part e at p) y ≡ with_row_changed (target e) (plain_changed e at) (part_row p) y
