-- What is written for tickets: each member of a form, in the byte order of the names.
use Rattle.std.specs.Prelude.{ℕ, Bool, false, List, [], ◌∷◌, codes, nat_lt, if◌then◌else◌}
use Rattle.serde_json.specs.Data.{Data, Items, no_items, item, Members, no_members, member, null}
use Rattle.serde_json.specs.Data.{string, array, object}
use Rattle.ticket_rows.specs.Ticket.{Job}
use Rattle.ticket_items.specs.declared.node_row.NodeRow.{NodeRow}
use Rattle.ticket_items.specs.declared.marks.Marks.{Marks}
use Rattle.json_items.specs.TicketDraft.{RawRow}
use Rattle.json_items.specs.Listed.{data_items}
use Rattle.json_items.specs.Resources.{MarkedResource}
use Rattle.json_items.specs.Attributes.{attr_members}
use Rattle.json_items.specs.Resources.{raw_data}
use Rattle.json_items.specs.Links.{link_data}
use Rattle.json_items.specs.Audits.{audit_data}
use Rattle.json_text.specs.Marked.{no_marks, marked_rows}
pub use Rattle.json_items.specs.Edits.{edit_data}

-- ---- nodes

-- resources, each with what it shows of spawns
abbrev pub pool_data : List MarkedResource → Items
pool_data raws = data_items raw_data raws

-- from a node's part in its job on: what stands behind its children. These are its resources.
abbrev pub last_members : NodeRow → Items → Members
last_members r pool =
    member (codes "JobPartID") (string r.job_part)
    (member (codes "ResourceLinkPool") (array (data_items link_data r.links))
    (member (codes "ResourcePool") (array pool)
    (member (codes "Status") (string r.status) (member (codes "Type") (string r.kind) no_members))))

-- a node's members up to its children, in front of `last`
abbrev pub first_members : NodeRow → Items → Members → Members
first_members r children last =
    member (codes "Attr") (object (attr_members r.attrs))
    (member (codes "AuditPool") (array (data_items audit_data r.audits))
    (member (codes "ID") (string r.id) (member (codes "JDF") (array children) last)))

-- a node with these resources and these children
abbrev pub node_object : NodeRow → Items → Items → Data
node_object r pool children = object (first_members r children (last_members r pool))

-- a node with its children
abbrev pub node_data : RawRow → Items → Data
node_data r children = node_object r.row (pool_data r.pool) children

-- a ticket's root, which also has the job's id
abbrev pub root_data : List ℕ → RawRow → Items → Data
root_data job r children =
    object (first_members r.row children
    (member (codes "JobID") (string job) (last_members r.row (pool_data r.pool))))

-- ---- trees

-- a node with all below it, and its depth
pub record Tree : Type 0 where
  pub depth : ℕ
  pub value : Data

-- whether the tree in front stands deeper
abbrev pub has_deeper_front : ℕ → List Tree → Bool
has_deeper_front depth [] = false
has_deeper_front depth (t ∷ trees) = nat_lt depth t.depth

-- the trees in front that stand deeper: the children of a node at this depth
abbrev pub children : ℕ → List Tree → Items
children depth [] = no_items
children depth (t ∷ trees) =
    if nat_lt depth t.depth then item t.value (children depth trees) else no_items

-- the trees from the first on that stands no deeper
abbrev pub trees_behind : ℕ → List Tree → List Tree
trees_behind depth [] = []
trees_behind depth (t ∷ trees) = if nat_lt depth t.depth then trees_behind depth trees else t ∷ trees

-- a row in front of trees: those that stand deeper are its children
abbrev pub with_tree : RawRow → List Tree → List Tree
with_tree r ts = record { depth = r.row.depth; value = node_data r (children r.row.depth ts) }
    ∷ trees_behind r.row.depth ts

-- the trees that rows in preorder are
abbrev pub trees : List RawRow → List Tree
trees [] = []
trees (r ∷ rows) = with_tree r (trees rows)

abbrev pub job_data : List ℕ → List RawRow → Data
job_data job [] = null
job_data job (r ∷ rows) = root_data job r (children r.row.depth (trees rows))

-- a ticket that shows marks: its root with all below it
abbrev pub shown_data : Marks → Job → Data
shown_data marks t = job_data t.job_id (marked_rows marks t.rows)

-- a ticket, which shows none
abbrev pub ticket_data : Job → Data
ticket_data t = shown_data no_marks t
