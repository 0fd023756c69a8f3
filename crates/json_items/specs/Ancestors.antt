-- The form of the nodes that a part's root stood under (JDF 1.5, 4.4).
use Rattle.std.specs.Prelude.{ℕ, ◌&&◌, Bool, List, [], ◌∷◌, codes, Option, Some}
use Rattle.serde_json.specs.Data.{Data, no_members, member, string, object}
use Rattle.ticket_items.specs.Names.{is_name}
use Rattle.ticket_items.specs.declared.ancestor.Ancestor.{Ancestor}
use Rattle.json_source.specs.Read.{◌>>=◌, some_if, has_only, text_under}

-- what may stand in one
abbrev pub ancestor_members : List (List ℕ)
ancestor_members = codes "JobPartID" ∷ codes "NodeID" ∷ []

unfoldable pub ancestor_form : Data → Option Ancestor
ancestor_form d = do
  _ ← some_if (has_only ancestor_members d)
  job_part ← text_under (codes "JobPartID") d
  node_id ← text_under (codes "NodeID") d
  Some (record { node_id = node_id; job_part = job_part })

unfoldable pub ancestor_has_names : Ancestor → Bool
ancestor_has_names a = is_name a.node_id && is_name a.job_part

abbrev pub ancestor_data : Ancestor → Data
ancestor_data a =
    object (member (codes "JobPartID") (string a.job_part)
    (member (codes "NodeID") (string a.node_id) no_members))
