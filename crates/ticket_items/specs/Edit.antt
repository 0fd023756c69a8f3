-- What an edit is about.
use Rattle.std.specs.Prelude.{ℕ, Bool, List, Option}
use Rattle.ticket_items.specs.Act.{act_of, act_target, is_act_of_node, is_act_structural}
use Rattle.ticket_items.specs.Act.{does_act_grow, act_added_id}
use Rattle.ticket_items.specs.declared.edit.Edit.{Edit}

-- the id that an edit changes, under `node` or `resource`
abbrev pub target : Edit → List ℕ
target e = act_target (act_of e)

-- whether the target is read as a node's id, and not as a resource's
abbrev pub is_of_node : Edit → Bool
is_of_node e = is_act_of_node (act_of e)

-- whether it adds to the tree: a node, a resource or a link
abbrev pub is_structural : Edit → Bool
is_structural e = is_act_structural (act_of e)

-- whether it puts anything more into the ticket, which another Status doesn't
abbrev pub grows : Edit → Bool
grows e = does_act_grow (act_of e)

-- the id that it puts into the ticket
abbrev pub added_id : Edit → Option (List ℕ)
added_id e = act_added_id (act_of e)
