-- What is written for a part: each member of its form, in the byte order of the names.
use Rattle.std.specs.Prelude.{ℕ, List, [], ◌∷◌, ◌++◌, codes}
use Rattle.serde_json.specs.Data.{Data, Items, Members, no_members, member, null, string, array}
use Rattle.serde_json.specs.Data.{object}
use Rattle.ticket_tree.specs.Part.{PartCopy}
use Rattle.ticket_items.specs.SpawnId.{spawn_text}
use Rattle.ticket_items.specs.declared.ancestor.Ancestor.{Ancestor}
use Rattle.ticket_items.specs.declared.node_row.NodeRow.{NodeRow}
use Rattle.ticket_items.specs.declared.resource.Resource.{Resource}
use Rattle.json_items.specs.TicketDraft.{RawRow}
use Rattle.json_items.specs.Listed.{data_items}
use Rattle.json_items.specs.Shown.{shown_rw, shown_ro}
use Rattle.json_items.specs.Resources.{MarkedResource}
use Rattle.json_items.specs.Shown.{nothing_shown}
use Rattle.json_items.specs.Resources.{all_showing}
use Rattle.json_items.specs.Links.{link_data}
pub use Rattle.json_items.specs.Ancestors.{ancestor_data}
use Rattle.json_text.specs.Marked.{no_marks, marked_rows}
use Rattle.json_text.specs.Written.{first_members, pool_data, children, trees}

-- the copies in the pool of a part's root: those to change, then those to read
abbrev pub copies_pool : List ℕ → List Resource → List Resource → List MarkedResource
copies_pool spawn changes reads = all_showing (shown_rw spawn) changes
    ++ all_showing (shown_ro spawn) reads

-- the pool of a part's root: its own resources, then the copies
abbrev pub root_pool : List ℕ → List Resource → List Resource → List Resource → List MarkedResource
root_pool spawn own changes reads = all_showing nothing_shown own ++ copies_pool spawn changes reads

-- what stands behind the children of a part's root
abbrev pub part_last_members : List ℕ → List ℕ → NodeRow → Items → Members
part_last_members job spawn r pool =
    member (codes "JobID") (string job)
    (member (codes "JobPartID") (string r.job_part)
    (member (codes "ResourceLinkPool") (array (data_items link_data r.links))
    (member (codes "ResourcePool") (array pool)
    (member (codes "SpawnID") (string spawn)
    (member (codes "Status") (string r.status)
    (member (codes "Type") (string r.kind) no_members))))))

-- a part's root: it also has the job's id, the spawn's, and the nodes that it stood under
abbrev pub part_root_data : List ℕ → List ℕ → List Ancestor → RawRow → Items → Data
part_root_data job spawn ancestors r kids =
    object (member (codes "AncestorPool") (array (data_items ancestor_data ancestors))
    (first_members r.row kids (part_last_members job spawn r.row (pool_data r.pool))))

-- the root with the copies in its pool
abbrev pub copied_root : List ℕ → List Resource → List Resource → NodeRow → RawRow
copied_root spawn changes reads r =
    record {
      row = record r { resources = r.resources ++ changes ++ reads };
      pool = root_pool spawn r.resources changes reads;
    }

abbrev pub rows_data : List ℕ → List ℕ → List Ancestor → List NodeRow → List Resource
    → List Resource → Data
rows_data job spawn ancestors [] changes reads = null
rows_data job spawn ancestors (r ∷ rows) changes reads =
    part_root_data job spawn ancestors (copied_root spawn changes reads r)
    (children r.depth (trees (marked_rows no_marks rows)))

-- a part: its root with all below it. The other nodes' resources show nothing
abbrev pub part_data : PartCopy → Data
part_data p = rows_data p.job_id (spawn_text p.spawn_id) p.ancestors p.rows p.rw p.ro
