-- Resources with their homes: the node in whose pool a resource stands.
use Rattle.std.specs.Prelude.{ℕ, Bool, List, map, Option, is_some}
use Rattle.std.specs.List.{find, flat_map}
use Rattle.std.specs.Option.{option_map}
use Rattle.std.specs.Str.{bytes_eq}
use Rattle.ticket_items.specs.declared.node_row.NodeRow.{NodeRow}
use Rattle.ticket_items.specs.declared.resource.Resource.{Resource}

-- the resources of a node's pool, each with the node's id
abbrev pub pool_with_home : NodeRow → List (Resource × List ℕ)
pool_with_home r = map (λ x. (x, r.id)) r.resources

-- the resources of a ticket with their homes, in ticket order
abbrev pub homes : List NodeRow → List (Resource × List ℕ)
homes rows = flat_map pool_with_home rows

-- the resource of an id, with its home
abbrev pub entry_of : List NodeRow → List ℕ → Option (Resource × List ℕ)
entry_of rows x = find (λ e. bytes_eq e.0.id x) (homes rows)

abbrev pub resource_of : List NodeRow → List ℕ → Option Resource
resource_of rows x = option_map (λ e. e.0) (entry_of rows x)

abbrev pub home_of : List NodeRow → List ℕ → Option (List ℕ)
home_of rows x = option_map (λ e. e.1) (entry_of rows x)

abbrev pub has_resource : List NodeRow → List ℕ → Bool
has_resource rows x = is_some (entry_of rows x)
