-- What an edit is refused for, over look-ups: one table, however a ticket is written down.
use Rattle.std.specs.Prelude.{ℕ, Bool, not, List, [], ◌∷◌, Option, None}
use Rattle.ticket_rows.specs.Ticket.{is_reserved, unless, first_of}
use Rattle.ticket_items.specs.Act.{Act, NodeChange, ResourceChange, NodeAddition, act_of}
use Rattle.ticket_items.specs.Act.{act_target}
use Rattle.ticket_items.specs.Act.{Change, NewStatus, Addition, NewNode, NewResource, NewLink}
use Rattle.ticket_items.specs.declared.edit.Edit.{Edit}
use Rattle.ticket_items.specs.declared.refusal.Refusal.{Refusal}
use Rattle.ticket_items.specs.declared.refusal.Refusal.TheVariants.{UnknownNode, UnknownResource}
use Rattle.ticket_items.specs.declared.refusal.Refusal.TheVariants.{ReservedStatus, DuplicateId}
use Rattle.ticket_items.specs.declared.refusal.Refusal.TheVariants.{TooDeep, UnresolvedLink}

-- what a ticket is asked before an edit: whether a node has an id, whether a resource has it,
-- whether either has, whether a child of a node stands no deeper than 32, and whether a resource's
-- home is a node or above it
pub record Lookups : Type 0 where
  pub has_node : List ℕ → Bool
  pub has_resource : List ℕ → Bool
  pub has_id : List ℕ → Bool
  pub has_room : List ℕ → Bool
  pub reaches : List ℕ → List ℕ → Bool

abbrev pub no_node : List ℕ → Lookups → Option Refusal
no_node node at = unless (at.has_node node) UnknownNode

abbrev pub no_resource : List ℕ → Lookups → Option Refusal
no_resource resource at = unless (at.has_resource resource) UnknownResource

-- the first of what an act names that isn't there
abbrev pub act_unknown : Act → Lookups → Option Refusal
act_unknown (ResourceChange resource change) at = no_resource resource at
act_unknown (NodeAddition node (NewLink link)) at =
    first_of (no_node node at ∷ no_resource link.rref at ∷ [])
act_unknown a at = no_node (act_target a) at

-- why a Status of a node is refused, if it is, and why a change of one
abbrev pub status_refusal : List ℕ → Option Refusal
status_refusal status = unless (not (is_reserved status)) ReservedStatus

abbrev pub change_refusal : Change → Option Refusal
change_refusal (NewStatus status) = status_refusal status
change_refusal change = None

-- why an addition to a node is refused, if it is
abbrev pub addition_refusal : List ℕ → Addition → Lookups → Option Refusal
addition_refusal node (NewNode new) at =
    first_of
    (status_refusal new.status ∷ unless (not (at.has_id new.id)) DuplicateId
    ∷ unless (at.has_room node) TooDeep ∷ [])
addition_refusal node (NewResource resource) at = unless (not (at.has_id resource.id)) DuplicateId
addition_refusal node (NewLink link) at = unless (at.reaches node link.rref) UnresolvedLink

-- the first of all other reasons
abbrev pub act_later : Act → Lookups → Option Refusal
act_later (NodeChange node change) at = change_refusal change
act_later (ResourceChange resource change) at = None
act_later (NodeAddition node addition) at = addition_refusal node addition at

-- why an act is refused, if it is: what isn't there comes first
abbrev pub act_refusal : Act → Lookups → Option Refusal
act_refusal a at = first_of (act_unknown a at ∷ act_later a at ∷ [])

-- and so of an edit
abbrev pub unknown_refusal : Edit → Lookups → Option Refusal
unknown_refusal e at = act_unknown (act_of e) at

abbrev pub later_refusal : Edit → Lookups → Option Refusal
later_refusal e at = act_later (act_of e) at

abbrev pub edit_refusal : Edit → Lookups → Option Refusal
edit_refusal e at = act_refusal (act_of e) at
