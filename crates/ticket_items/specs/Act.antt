-- What an edit does to a ticket: its act.
use Rattle.std.specs.Prelude.{ℕ, Bool, true, false, List, [], ◌∷◌, ◌++◌, Option, Some, None}
use Rattle.ticket_items.specs.Attrs.{Pairs, with_attr}
use Rattle.ticket_items.specs.declared.audit.Audit.{Audit}
use Rattle.ticket_items.specs.declared.audit.Audit.TheVariants.{Notification}
use Rattle.ticket_items.specs.declared.edit.Edit.{Edit}
use Rattle.ticket_items.specs.declared.edit.Edit.TheVariants.{SetStatus, SetAttr, SetResStatus}
use Rattle.ticket_items.specs.declared.edit.Edit.TheVariants.{SetResAttr, Note, AddNode}
use Rattle.ticket_items.specs.declared.edit.Edit.TheVariants.{AddResource, AddLink}
use Rattle.ticket_items.specs.declared.link.Link.{Link}
use Rattle.ticket_items.specs.declared.resource.Resource.{Resource}

-- what changes in the row of a node or of a resource: another Status, the text of an attribute, or
-- a note last among the audits
pub data Change : Type 0 where
  NewStatus : List ℕ → Change
  NewAttr : List ℕ → List ℕ → Change
  NewNote : List ℕ → Change

-- a node that is put into a ticket: without attributes, pools or audits
pub record BareNode : Type 0 where
  pub id : List ℕ
  pub kind : List ℕ
  pub job_part : List ℕ
  pub status : List ℕ

-- what is new at a node: a child, a resource of its pool or a link
pub data Addition : Type 0 where
  NewNode : BareNode → Addition
  NewResource : Resource → Addition
  NewLink : Link → Addition

-- a change of the node or of the resource of an id, or an addition to the node of an id
pub data Act : Type 0 where
  NodeChange : List ℕ → Change → Act
  ResourceChange : List ℕ → Change → Act
  NodeAddition : List ℕ → Addition → Act

abbrev pub act_of : Edit → Act
act_of (SetStatus node status) = NodeChange node (NewStatus status)
act_of (SetAttr node name value) = NodeChange node (NewAttr name value)
act_of (SetResStatus resource status) = ResourceChange resource (NewStatus status)
act_of (SetResAttr resource name value) = ResourceChange resource (NewAttr name value)
act_of (Note node text) = NodeChange node (NewNote text)
act_of (AddNode node id kind job_part status) =
    NodeAddition node
    (NewNode (record { id = id; kind = kind; job_part = job_part; status = status }))
act_of (AddResource node resource) = NodeAddition node (NewResource resource)
act_of (AddLink node link) = NodeAddition node (NewLink link)

-- ---- what a change makes of a row

abbrev pub status_after : Change → List ℕ → List ℕ
status_after (NewStatus status) old = status
status_after change old = old

abbrev pub attrs_after : Change → Pairs → Pairs
attrs_after (NewAttr name value) old = with_attr name value old
attrs_after change old = old

-- the audits after a change at a time. A resource has none
abbrev pub audits_after : Change → ℕ → List Audit → List Audit
audits_after (NewNote text) at old = old ++ Notification at text ∷ []
audits_after change at old = old

-- ---- what an act is about

-- the id that an act changes, under `node` or `resource`
abbrev pub act_target : Act → List ℕ
act_target (NodeChange node change) = node
act_target (ResourceChange resource change) = resource
act_target (NodeAddition node addition) = node

-- whether the target is read as a node's id, and not as a resource's
abbrev pub is_act_of_node : Act → Bool
is_act_of_node (ResourceChange resource change) = false
is_act_of_node a = true

-- whether it adds to the tree: a node, a resource or a link
abbrev pub is_act_structural : Act → Bool
is_act_structural (NodeAddition node addition) = true
is_act_structural a = false

-- whether a change puts anything more into a row, which another Status doesn't
abbrev pub does_row_grow : Change → Bool
does_row_grow (NewStatus status) = false
does_row_grow change = true

-- whether an act puts anything more into the ticket
abbrev pub does_act_grow : Act → Bool
does_act_grow (NodeChange node change) = does_row_grow change
does_act_grow (ResourceChange resource change) = does_row_grow change
does_act_grow (NodeAddition node addition) = true

-- the id that it puts into the ticket
abbrev pub act_added_id : Act → Option (List ℕ)
act_added_id (NodeAddition node (NewNode new)) = Some new.id
act_added_id (NodeAddition node (NewResource resource)) = Some resource.id
act_added_id a = None
