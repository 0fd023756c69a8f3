-- The ticket that a shop's tree and rows tell: each node with its pool, in ticket order.
use Rattle.std.specs.Prelude.{ℕ, List, length, Option, Some, None}
use Rattle.std.specs.List.{filter, filter_map}
use Rattle.std.specs.Option.{option_and_then}
use Rattle.ticket_items.specs.declared.node_row.NodeRow.{NodeRow}
use Rattle.ticket_items.specs.declared.resource.Resource.{Resource}
use Rattle.ticket_rows.specs.Place.{Place, Row, Thing, node, resource}
use Rattle.ticket_rows.specs.Ticket.{Job}
use Rattle.ticket_tree.specs.PlainEdit.{is_at}
use Rattle.plain_shop.specs.Shop.{PlainState, Rows}

-- a resource, from what no worker may change of it and what may change. A node is none
abbrev pub as_resource : List ℕ → Thing → Row → Option Resource
as_resource x (node kind job_part links) r = None
as_resource x (resource name class) r =
    Some (record { id = x; name = name; class = class; status = r.status; attrs = r.attrs })

-- a node with its pool, from the same. A resource is none
abbrev pub as_node : Place → List Resource → Thing → Row → Option NodeRow
as_node p pool (resource name class) r = None
as_node p pool (node kind job_part links) r =
    Some
    (record {
      id = p.id;
      depth = length p.path;
      kind = kind;
      job_part = job_part;
      status = r.status;
      attrs = r.attrs;
      resources = pool;
      links = links;
      audits = r.audits;
    })

-- the resource at a place, if one stands there
abbrev pub resource_there : Rows → Place → Option Resource
resource_there rows p = option_and_then (as_resource p.id p.thing) (rows p.id)

-- the pool of a node: the resources whose home it is
abbrev pub pool_of : List Place → Rows → List ℕ → List Resource
pool_of tree rows n = filter_map (resource_there rows) (filter (is_at n) tree)

-- the node at a place, if one stands there
abbrev pub node_there : List Place → Rows → Place → Option NodeRow
node_there tree rows p = option_and_then (as_node p (pool_of tree rows p.id) p.thing) (rows p.id)

-- the nodes, in ticket order
abbrev pub nodes_told : List Place → Rows → List NodeRow
nodes_told tree rows = filter_map (node_there tree rows) tree

-- the ticket as the master sees it
abbrev pub ticket_seen : PlainState → Job
ticket_seen p = record { job_id = p.job; rows = nodes_told p.tree p.seen }
