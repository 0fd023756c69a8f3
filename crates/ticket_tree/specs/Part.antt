-- A part: a node of a ticket with all below it, taken out as a ticket of its own, with copies of
-- the resources that it links from above.
use Rattle.std.specs.Prelude.{ℕ, ◌+◌, ◌&&◌, Bool, not, List, ◌++◌, length, map, nat_le, nat_lt}
use Rattle.std.specs.Prelude.{Option}
use Rattle.std.specs.List.{list_all, list_any}
use Rattle.std.specs.Str.{bytes_eq}
use Rattle.ticket_items.specs.Ids.{mem, are_distinct}
use Rattle.ticket_items.specs.Resource.{resource_ids}
use Rattle.ticket_items.specs.Act.{Act, act_of}
use Rattle.ticket_rows.specs.Edit.{act_rows}
use Rattle.ticket_rows.specs.PartEdit.{act_copies, part_refusal}
use Rattle.ticket_rows.specs.Ticket.{ids, max_depth}
use Rattle.ticket_items.specs.declared.ancestor.Ancestor.{Ancestor}
use Rattle.ticket_items.specs.declared.edit.Edit.{Edit}
use Rattle.ticket_items.specs.declared.node_row.NodeRow.{NodeRow}
use Rattle.ticket_items.specs.declared.refusal.Refusal.{Refusal}
use Rattle.ticket_items.specs.declared.resource.Resource.{Resource}

-- what was copied out of a ticket: for which job and spawn, from under which nodes, the rows in
-- preorder, and the resources that may be changed and those that may be read alone
pub record PartCopy : Type 0 where
  pub job_id : List ℕ
  pub spawn_id : ℕ
  pub ancestors : List Ancestor
  pub rows : List NodeRow
  pub rw : List Resource
  pub ro : List Resource

abbrev pub part_copy : List ℕ → ℕ → List Ancestor → List NodeRow → List Resource → List Resource
    → PartCopy
part_copy job_id spawn_id ancestors rows rw ro =
    record {
      job_id = job_id;
      spawn_id = spawn_id;
      ancestors = ancestors;
      rows = rows;
      rw = rw;
      ro = ro;
    }

-- ---- edits that aren't structural

-- why an edit is refused, if it is
abbrev pub refusal_of_part : Edit → PartCopy → Option Refusal
refusal_of_part e p = part_refusal e p.rows p.rw

-- the part after an act, and after an edit, at a time that isn't refused
abbrev pub act_part : Act → ℕ → PartCopy → PartCopy
act_part a at p = record p { rows = act_rows a at p.rows; rw = act_copies a p.rw }

abbrev pub edited_part : Edit → ℕ → PartCopy → PartCopy
edited_part e at p = act_part (act_of e) at p

-- ---- what makes a part sound

abbrev pub ancestor_ids : List Ancestor → List (List ℕ)
ancestor_ids ancestors = map (λ a. a.node_id) ancestors

-- the ids of a part: of its nodes, of the resources of their pools, and of the copies
abbrev pub part_ids : List NodeRow → List Resource → List Resource → List (List ℕ)
part_ids rows rw ro = ids rows ++ resource_ids rw ++ resource_ids ro

-- whether the part came from under some node
abbrev pub has_ancestors : List Ancestor → Bool
has_ancestors ancestors = nat_lt 0 (length ancestors)

-- whether no id stands in both lists
abbrev pub are_apart : List (List ℕ) → List (List ℕ) → Bool
are_apart xs ys = list_all (λ x. not (mem x ys)) xs

-- whether the ancestors' ids differ from each other and from all ids of the part
abbrev pub are_ancestors_new : List Ancestor → List (List ℕ) → Bool
are_ancestors_new ancestors others =
    are_distinct (ancestor_ids ancestors) && are_apart (ancestor_ids ancestors) others

-- whether no node would be deeper than 32 below this many ancestors
abbrev pub are_shallow_below : ℕ → List NodeRow → Bool
are_shallow_below above rows = list_all (λ r. nat_le (r.depth + above) max_depth) rows

-- whether some row links the resource
abbrev pub is_linked : List NodeRow → List ℕ → Bool
is_linked rows x = list_any (λ r. list_any (λ l. bytes_eq l.rref x) r.links) rows

-- whether each of the resources is linked by some row
abbrev pub are_linked : List NodeRow → List Resource → Bool
are_linked rows pool = list_all (λ x. is_linked rows x.id) pool

-- whether a part can have come from a ticket: it has ancestors, its nodes aren't too deep below
-- them, their ids are new, and each copy is linked
abbrev pub is_sound : PartCopy → Bool
is_sound p =
    has_ancestors p.ancestors && are_shallow_below (length p.ancestors) p.rows
    && are_ancestors_new p.ancestors (part_ids p.rows p.rw p.ro) && are_linked p.rows p.rw
    && are_linked p.rows p.ro
