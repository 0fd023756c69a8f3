-- What is printed of a node and of those below it, member by member.
use Rattle.std.specs.Prelude.{◌≡◌, ℕ, true, List, codes, drop}
use Rattle.std.specs.List.{list_all}
use Rattle.serde_json.specs.Data.{Members, no_members, member, string, array}
use Rattle.ticket_items.specs.Names.{is_name, is_text}
use Rattle.ticket_items.specs.declared.marks.Marks.{Marks}
use Rattle.ticket_items.specs.declared.node_row.NodeRow.{NodeRow}
use Rattle.json_items.specs.TicketForm.{row_has_names, row_has_texts}
use Rattle.json_items.specs.Listed.{data_items}
use Rattle.json_items.specs.Attributes.{attrs_data}
use Rattle.json_items.specs.Audits.{audit_data, audit_has_names, audit_has_texts}
use Rattle.json_items.specs.Links.{link_has_names}
use Rattle.json_items.specs.Resources.{resource_has_names, resource_has_texts}
use Rattle.json_text.specs.TicketText.{IsBehindDeeper}

-- ---- a node's members

-- those in front of its children
abbrev pub front_members : NodeRow → Members
front_members r =
    member (codes "Attr") (attrs_data r.attrs)
    (member (codes "AuditPool") (array (data_items audit_data r.audits))
    (member (codes "ID") (string r.id) no_members))

-- the names and texts there are valid
pub record IsFrontValid (r : NodeRow) : Type 0 where
  pub id : is_name r.id ≡ true
  pub attr_names : list_all (λ p. is_name p.0) r.attrs ≡ true
  pub attr_texts : list_all (λ p. is_text p.1) r.attrs ≡ true
  pub audit_names : list_all audit_has_names r.audits ≡ true
  pub audit_texts : list_all audit_has_texts r.audits ≡ true

-- those behind its children are
pub record IsLastValid (r : NodeRow) : Type 0 where
  pub job_part : is_name r.job_part ≡ true
  pub link_names : list_all link_has_names r.links ≡ true
  pub pool_names : list_all resource_has_names r.resources ≡ true
  pub pool_texts : list_all resource_has_texts r.resources ≡ true
  pub status : is_name r.status ≡ true
  pub kind : is_name r.kind ≡ true

-- ---- the nodes in front that stand deeper

-- the index is behind the rows from another on that stand deeper, and the names and texts of those
-- rows are valid: with them in front, all are valid just if those behind are
pub record IsWalked (marks : Marks) (depth : ℕ) (rows : List NodeRow) (from end : ℕ) : Type 0 where
  pub behind : IsBehindDeeper marks depth rows from end
  pub names : list_all row_has_names (drop from rows) ≡ list_all row_has_names (drop end rows)
  pub texts : list_all row_has_texts (drop from rows) ≡ list_all row_has_texts (drop end rows)
