-- The form of parts: from JSON data to a draft, which is a part by its members and their kinds
-- alone, and by what its resources show. Its ids, names and texts may be any bytes, and its rows no
-- tree's.
use Rattle.std.specs.Prelude.{ℕ, Bool, List, [], ◌∷◌, map, drop, codes, take_while, Option, Some}
use Rattle.std.specs.Prelude.{None}
use Rattle.std.specs.List.{list_all, prefix_len}
use Rattle.serde_json.specs.Data.{Data}
use Rattle.ticket_items.specs.declared.ancestor.Ancestor.{Ancestor}
use Rattle.ticket_items.specs.declared.node_row.NodeRow.{NodeRow}
use Rattle.ticket_items.specs.declared.resource.Resource.{Resource}
use Rattle.json_items.specs.TicketDraft.{RawRow, root_members, node_rows, resources_of, are_bare}
use Rattle.json_items.specs.Listed.{items_read, items_under}
use Rattle.json_items.specs.Resources.{MarkedResource}
use Rattle.json_items.specs.Shown.{shows_change, shows_nothing, shows_read}
use Rattle.json_source.specs.Read.{◌>>=◌, some_if, text_under}
use Rattle.json_items.specs.Ancestors.{ancestor_form}
use Rattle.json_items.specs.Spawns.{spawn_named}

-- ---- the three groups of the resources of a part's root

pub record Groups : Type 0 where
  pub own : List MarkedResource
  pub rw : List MarkedResource
  pub ro : List MarkedResource

-- what stands behind the resources in front that pass a test
abbrev pub behind : (MarkedResource → Bool) → List MarkedResource → List MarkedResource
behind p raws = drop (prefix_len p raws) raws

abbrev pub is_own : MarkedResource → Bool
is_own r = shows_nothing r.shown

abbrev pub is_change : List ℕ → MarkedResource → Bool
is_change spawn r = shows_change spawn r.shown

abbrev pub is_read : List ℕ → MarkedResource → Bool
is_read spawn r = shows_read spawn r.shown

-- the root's own resources in front, then the copies to change, and all others are copies to read
abbrev pub groups_of : List ℕ → List MarkedResource → Option Groups
groups_of spawn pool =
    let copies = behind is_own pool in
    let last = behind (is_change spawn) copies in
    some_if (list_all (is_read spawn) last) >>=
    λ _. Some (record {
      own = take_while is_own pool;
      rw = take_while (is_change spawn) copies;
      ro = last;
    })

-- ---- rows and copies

-- rows without the copies that stood in the root's pool, and these copies
pub record RowsAndCopies : Type 0 where
  pub rows : List NodeRow
  pub rw : List Resource
  pub ro : List Resource

abbrev pub rows_and_copies_of : NodeRow → List RawRow → Groups → RowsAndCopies
rows_and_copies_of root raws g =
    record {
      rows = record root { resources = resources_of g.own } ∷ map (λ r. r.row) raws;
      rw = resources_of g.rw;
      ro = resources_of g.ro;
    }

-- the copies taken out of the root's pool. The resources of the other nodes show nothing
abbrev pub rows_and_copies : List ℕ → List RawRow → Option RowsAndCopies
rows_and_copies spawn [] = None
rows_and_copies spawn (root ∷ raws) = some_if (list_all (λ r. are_bare r.pool) raws) >>=
    λ _. groups_of spawn root.pool >>= λ g. Some (rows_and_copies_of root.row raws g)

-- ---- ancestors

-- those of the list under a name, which may not be absent
abbrev pub ancestors_under : List ℕ → Data → Option (List Ancestor)
ancestors_under name d = items_under name d >>= items_read ancestor_form

-- ---- parts

-- a part, with the number of its spawn, 0 where the text of the spawn's id names none
pub record RawPart : Type 0 where
  pub job_id : List ℕ
  pub spawn : ℕ
  pub ancestors : List Ancestor
  pub rows : List NodeRow
  pub rw : List Resource
  pub ro : List Resource

-- what may stand in a part's root
abbrev pub part_members : List (List ℕ)
part_members = codes "AncestorPool" ∷ codes "SpawnID" ∷ root_members

-- the part of these rows and copies
abbrev pub raw_part : List ℕ → ℕ → List Ancestor → RowsAndCopies → RawPart
raw_part job spawn ancestors t =
    record {
      job_id = job;
      spawn = spawn;
      ancestors = ancestors;
      rows = t.rows;
      rw = t.rw;
      ro = t.ro;
    }

unfoldable pub part_form : Data → Option RawPart
part_form d = do
  job ← text_under (codes "JobID") d
  spawn ← text_under (codes "SpawnID") d
  ancestors ← ancestors_under (codes "AncestorPool") d
  raws ← node_rows part_members 1 d
  t ← rows_and_copies spawn raws
  Some (raw_part job (spawn_named spawn) ancestors t)
