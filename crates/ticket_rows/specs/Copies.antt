-- The rows of a part, with the copies of the resources that it links from above.
use Rattle.std.specs.Prelude.{List, [], ◌∷◌, ◌++◌}
use Rattle.ticket_items.specs.declared.node_row.NodeRow.{NodeRow}
use Rattle.ticket_items.specs.declared.resource.Resource.{Resource}

-- the rows, with copies behind the root's own resources: first those to change, then those to read
abbrev pub with_copies : List NodeRow → List Resource → List Resource → List NodeRow
with_copies [] rw ro = []
with_copies (r ∷ rows) rw ro = record r { resources = r.resources ++ rw ++ ro } ∷ rows
