-- The form of tickets: from JSON data to a draft, which is a ticket by its members and their kinds
-- alone. Its names and texts may be any bytes, its rows no tree's, and its resources may show
-- spawns.
use Rattle.std.specs.Prelude.{ℕ, ◌+◌, Bool, List, [], ◌∷◌, ◌++◌, map, codes, min, Option, Some}
use Rattle.std.specs.Prelude.{None}
use Rattle.std.specs.List.{list_all}
use Rattle.std.specs.Option.{option_map}
use Rattle.std.specs.Ordering.{nat_cmp, match_ordering}
use Rattle.std.specs.Cmp.Lexicographic.{slice_cmp}
use Rattle.serde_json.specs.Data.{Data, Items, no_items, item, Members, no_members, member, null}
use Rattle.serde_json.specs.Data.{boolean, number, string, array, object}
use Rattle.serde_json.specs.Find.{get}
use Rattle.ticket_rows.specs.Ticket.{Job}
use Rattle.ticket_items.specs.declared.resource.Resource.{Resource}
use Rattle.ticket_items.specs.declared.node_row.NodeRow.{NodeRow}
use Rattle.json_items.specs.Audits.{audit_form}
use Rattle.json_items.specs.Listed.{pool_form}
use Rattle.json_items.specs.Resources.{MarkedResource}
use Rattle.json_items.specs.Resources.{resource_form}
use Rattle.json_items.specs.Links.{link_form}
use Rattle.json_items.specs.Shown.{shows_nothing}
use Rattle.json_source.specs.Read.{◌>>=◌, some_if, has_only, text_under, attrs_of}

-- ---- nodes

-- what may stand in a node
abbrev pub node_members : List (List ℕ)
node_members =
    codes "Attr" ∷ codes "AuditPool" ∷ codes "ID" ∷ codes "JDF" ∷ codes "JobPartID"
    ∷ codes "ResourceLinkPool" ∷ codes "ResourcePool" ∷ codes "Status" ∷ codes "Type" ∷ []

-- what may stand in a ticket's root
abbrev pub root_members : List (List ℕ)
root_members = codes "JobID" ∷ node_members

-- the depth of a child, counted no further than 33: one more than a ticket may have, so that each
-- depth fits
abbrev pub next_depth : ℕ → ℕ
next_depth depth = min (depth + 1) 33

-- a node's row, and its resources with what they show of spawns
pub record RawRow : Type 0 where
  pub row : NodeRow
  pub pool : List MarkedResource

-- the resources, without what they show
abbrev pub resources_of : List MarkedResource → List Resource
resources_of raws = map (λ r. r.resource) raws

-- whether none of them shows anything
abbrev pub are_bare : List MarkedResource → Bool
are_bare raws = list_all (λ r. shows_nothing r.shown) raws

-- a node without its children
unfoldable pub own_row : List (List ℕ) → ℕ → Data → Option RawRow
own_row names depth d = do
  _ ← some_if (has_only names d)
  id ← text_under (codes "ID") d
  job_part ← text_under (codes "JobPartID") d
  kind ← text_under (codes "Type") d
  status ← text_under (codes "Status") d
  attrs ← attrs_of (get (codes "Attr") d)
  resources ← pool_form resource_form (get (codes "ResourcePool") d)
  links ← pool_form link_form (get (codes "ResourceLinkPool") d)
  audits ← pool_form audit_form (get (codes "AuditPool") d)
  Some (record {
    row = record {
      id = id;
      depth = depth;
      kind = kind;
      job_part = job_part;
      status = status;
      attrs = attrs;
      resources = resources_of resources;
      links = links;
      audits = audits;
    };
    pool = resources;
  })

-- a node with the nodes below it, in preorder
abbrev mutual
  pub node_rows : List (List ℕ) → ℕ → Data → Option (List RawRow)
  node_rows names depth null = None
  node_rows names depth (boolean b) = None
  node_rows names depth (number n) = None
  node_rows names depth (string s) = None
  node_rows names depth (array ds) = None
  node_rows names depth (object ms) = own_row names depth (object ms) >>=
      λ row. option_map (λ rows. row ∷ rows) (child_rows (next_depth depth) ms)

  -- the children under `JDF`, none where it is absent
  pub child_rows : ℕ → Members → Option (List RawRow)
  child_rows depth no_members = Some []
  child_rows depth (member k d ms) =
      match_ordering (slice_cmp nat_cmp (codes "JDF") k) (child_rows depth ms) (list_rows depth d)
      (child_rows depth ms)

  pub list_rows : ℕ → Data → Option (List RawRow)
  list_rows depth null = None
  list_rows depth (boolean b) = None
  list_rows depth (number n) = None
  list_rows depth (string s) = None
  list_rows depth (array ds) = item_rows depth ds
  list_rows depth (object ms) = None

  pub item_rows : ℕ → Items → Option (List RawRow)
  item_rows depth no_items = Some []
  item_rows depth (item d ds) = node_rows node_members depth d >>=
      λ first. option_map (λ rest. first ++ rest) (item_rows depth ds)

-- ---- tickets

-- a ticket, and whether its resources show nothing of spawns
pub record RawTicket : Type 0 where
  pub job : Job
  pub bare : Bool

-- the ticket of a job with these nodes
abbrev pub raw_ticket : List ℕ → List RawRow → RawTicket
raw_ticket job raws =
    record {
      job = record { job_id = job; rows = map (λ r. r.row) raws };
      bare = list_all (λ r. are_bare r.pool) raws;
    }

unfoldable pub ticket_form : Data → Option RawTicket
ticket_form d = do
  job ← text_under (codes "JobID") d
  rows ← node_rows root_members 1 d
  Some (raw_ticket job rows)
