-- What an edit is refused for, from what was found among the rows.
use Rattle.std.proofs.Common.{◌≡◌, ℕ, not, Bool, true, false, List, [], ◌∷◌, Option, Some, None}
use Rattle.std.proofs.Common.{is_some, refl, sym, ap, ◌∙◌, nat_lt, get_or, slice_get, Result, Ok}
use Rattle.std.proofs.Common.{Err, IfErr, IfNone, IsOk, cond}
use Rattle.std.proofs.lemmas.Bool.{true≢false, not-true}
use Rattle.std.proofs.lemmas.Option.{slice_get-get_or}
use Rattle.std.specs.List.{position}
use Rattle.std.specs.Option.{option_map, option_map_or, option_and_then}
use Rattle.std.specs.Str.{bytes_eq}
use Rattle.ticket_rows.proofs.AtHome.{holds, in_pool, entry-found, home-found, home_row}
use Rattle.ticket_rows.proofs.AtHome.{find-passes, none-found}
use Rattle.ticket_items.proofs.Places.{is_some-find, found_at_position, none_at_position}
use Rattle.ticket_items.proofs.FirstFault.{none_first, unless_holds}
use Rattle.ticket_items.proofs.Places.{below_length, same_found}
use Rattle.ticket_rows.proofs.Below.{mem-node_ids}
use Rattle.ticket_rows.specs.Edit.{node_refusal, resource_refusal, lookups, has_room, reaches}
use Rattle.ticket_rows.specs.EditRefusal.{Lookups, act_refusal, act_unknown, act_later}
use Rattle.ticket_rows.specs.Homes.{has_resource}
use Rattle.ticket_items.specs.Ids.{mem}
use Rattle.ticket_rows.specs.Place.{is_below, node_places}
use Rattle.ticket_rows.specs.Ticket.{has_node, ids, node_ids, is_reserved, row_of, unless, first_of}
use Rattle.ticket_items.specs.Act.{Act, NodeChange, ResourceChange, NodeAddition, NewStatus}
use Rattle.ticket_items.specs.Act.{NewNode, NewResource, NewLink, BareNode, act_target}
use Rattle.ticket_items.specs.Act.{is_act_of_node}
use Rattle.ticket_items.specs.declared.link.Link.{Link}
use Rattle.ticket_items.specs.declared.node_row.NodeRow.{NodeRow}
use Rattle.ticket_items.specs.declared.resource.Resource.{Resource}
use Rattle.ticket_items.specs.declared.refusal.Refusal.{Refusal}
use Rattle.ticket_items.specs.declared.refusal.Refusal.TheVariants.{Memory, UnknownNode}
use Rattle.ticket_items.specs.declared.refusal.Refusal.TheVariants.{UnknownResource, ReservedStatus}
use Rattle.ticket_items.specs.declared.refusal.Refusal.TheVariants.{DuplicateId, TooDeep}
use Rattle.ticket_items.specs.declared.refusal.Refusal.TheVariants.{UnresolvedLink}

-- ---- nodes

pub node_there : (rows : List NodeRow) (x : List ℕ) (k : ℕ)
    → position (λ r. bytes_eq r.id x) rows ≡ Some k → node_refusal x rows ≡ None
node_there rows x k found = ap (λ o. unless (is_some o) UnknownNode) (found_at_position (λ r. bytes_eq r.id x) rows k found).1

pub node_missing : (rows : List NodeRow) (x : List ℕ) → position (λ r. bytes_eq r.id x) rows ≡ None
    → node_refusal x rows ≡ Some UnknownNode
node_missing rows x none = ap (λ o. unless (is_some o) UnknownNode) (none_at_position (λ r. bytes_eq r.id x) rows none)

-- the row at the place that was found
pub row_there : (rows : List NodeRow) (x : List ℕ) (k : ℕ) (r : NodeRow)
    → position (λ s. bytes_eq s.id x) rows ≡ Some k → r ≡ get_or rows k r → row_of rows x ≡ Some r
row_there rows x k r found is =
    let at = found_at_position (λ s. bytes_eq s.id x) rows k found in
    at.1 ∙ ap Some (same_found at.0 r (slice_get rows k) at.2 (slice_get-get_or rows k r (below_length (λ s. bytes_eq s.id x) rows k found) ∙ ap Some (sym is)))

-- ---- resources

some_mapped : {X Y : Type 0} (f : X → Y) (o : Option X) → is_some (option_map f o) ≡ is_some o
some_mapped f None = refl
some_mapped f (Some x) = refl

pub resource_there : (rows : List NodeRow) (x : List ℕ) (k : ℕ) → position (holds x) rows ≡ Some k
    → resource_refusal x rows ≡ None
resource_there rows x k found =
    let at = found_at_position (holds x) rows k found in
    let r : NodeRow = at.0 in
    ap (λ b. unless b UnknownResource)
    (ap is_some (entry-found rows x ∙ ap (option_and_then (λ s. option_map (λ y. (y, s.id)) (in_pool x s.resources))) at.1)
    ∙ some_mapped (λ y. (y, r.id)) (in_pool x r.resources) ∙ is_some-find (λ y. bytes_eq y.id x) r.resources ∙ find-passes (holds x) rows r at.1)

pub resource_missing : (rows : List NodeRow) (x : List ℕ) → position (holds x) rows ≡ None
    → resource_refusal x rows ≡ Some UnknownResource
resource_missing rows x none = ap (λ o. unless (is_some o) UnknownResource) (none-found rows x none)

-- ---- several reasons

fourth : (a b c d : Bool) → first_of (unless a UnknownNode ∷ unless b ReservedStatus ∷ []) ≡ None
    → c ≡ true
    → first_of
    (unless a UnknownNode
    ∷ first_of (unless b ReservedStatus ∷ unless c DuplicateId ∷ unless d TooDeep ∷ []) ∷ [])
    ≡ unless d TooDeep
fourth true true true true none e = refl
fourth true true true false none e = refl
fourth true true false d none e = cc
fourth true false c d none e = cc
fourth false b c d none e = cc

pub child_reason : (rows : List NodeRow) (node : List ℕ) (child : BareNode) (k : ℕ) (r : NodeRow)
    → act_refusal (NodeChange node (NewStatus child.status)) (lookups rows) ≡ None
    → mem child.id (ids rows) ≡ false → position (λ s. bytes_eq s.id node) rows ≡ Some k
    → r ≡ get_or rows k r
    → act_refusal (NodeAddition node (NewNode child)) (lookups rows)
    ≡ unless (nat_lt r.depth 32) TooDeep
child_reason rows node child k r before new found is =
    fourth _ _ (not (mem child.id (ids rows))) (has_room rows node) before (ap not new)
    ∙ ap (λ o. unless (option_map_or (λ s. nat_lt s.depth 32) o false) TooDeep) (row_there rows node k r found is)

third : (a b c : Bool) → unless a UnknownNode ≡ None → unless b UnknownResource ≡ None
    → first_of
    (first_of (unless a UnknownNode ∷ unless b UnknownResource ∷ []) ∷ unless c UnresolvedLink ∷ [])
    ≡ unless c UnresolvedLink
third true true true na nb = refl
third true true false na nb = refl
third true false c na nb = cc
third false b c na nb = cc

pub link_reason : (rows : List NodeRow) (node : List ℕ) (link : Link) (k : ℕ) (r : NodeRow)
    (b : Bool)
    → node_refusal node rows ≡ None → resource_refusal link.rref rows ≡ None
    → position (holds link.rref) rows ≡ Some k → r ≡ get_or rows k r
    → b ≡ is_below (node_places rows) node r.id
    → act_refusal (NodeAddition node (NewLink link)) (lookups rows) ≡ unless b UnresolvedLink
link_reason rows node link k r b known there found is below =
    third _ _ (reaches rows node link.rref) known there
    ∙ ap (λ o. unless (option_map_or (is_below (node_places rows) node) o false) UnresolvedLink) (home-found rows link.rref r (home_row rows link.rref k r found is))
    ∙ ap (λ c. unless c UnresolvedLink) (sym below)

-- ---- what is known where an act isn't refused

pub named_known : (a : Act) (at : Lookups) → act_unknown a at ≡ None
    → cond (is_act_of_node a) (at.has_node (act_target a)) (at.has_resource (act_target a)) ≡ true
named_known (ResourceChange x change) at none = unless_holds (at.has_resource x) UnknownResource none
named_known (NodeAddition n (NewLink link)) at none = unless_holds (at.has_node n) UnknownNode (none_first _ _ none).0
named_known a at none = unless_holds (at.has_node (act_target a)) UnknownNode none

pub target_known : (a : Act) (at : Lookups) → act_refusal a at ≡ None
    → cond (is_act_of_node a) (at.has_node (act_target a)) (at.has_resource (act_target a)) ≡ true
target_known a at free = named_known a at (none_first _ _ free).0

pub later_free : (a : Act) (at : Lookups) → act_refusal a at ≡ None → act_later a at ≡ None
later_free a at free = (none_first _ _ (none_first (act_unknown a at) (act_later a at ∷ []) free).1).0

free_of : (b : Bool) (e : Refusal) → unless (not b) e ≡ None → b ≡ false
free_of b e free = not-true b (unless_holds (not b) e free)

pub link_reached : (n : List ℕ) (link : Link) (at : Lookups)
    → act_refusal (NodeAddition n (NewLink link)) at ≡ None → at.reaches n link.rref ≡ true
link_reached n link at free = unless_holds _ _ (later_free (NodeAddition n (NewLink link)) at free)

pub resource_new : (n : List ℕ) (x : Resource) (at : Lookups)
    → act_refusal (NodeAddition n (NewResource x)) at ≡ None → at.has_id x.id ≡ false
resource_new n x at free = free_of _ _ (later_free (NodeAddition n (NewResource x)) at free)

pub child_new : (n : List ℕ) (child : BareNode) (at : Lookups)
    → act_refusal (NodeAddition n (NewNode child)) at ≡ None
    → (at.has_node n ≡ true) × (is_reserved child.status ≡ false) × (at.has_id child.id ≡ false)
    × (at.has_room n ≡ true)
child_new n child at free =
    let status = none_first _ _ (later_free (NodeAddition n (NewNode child)) at free) in
    let id = none_first _ _ status.1 in
    let room = none_first _ _ id.1 in
    (target_known (NodeAddition n (NewNode child)) at free, free_of _ _ status.0, free_of _ _ id.0, unless_holds _ _ room.0)

-- a node's id is among the ids of nodes
pub node_among : (rows : List NodeRow) (x : List ℕ) → has_node rows x ≡ true
    → mem x (node_ids rows) ≡ true
node_among rows x known = mem-node_ids rows x ∙ known

-- what takes no memory is never refused as out of memory
pub ok_needs_none : {X : Type 0} (o : Option Refusal) (result : Result X Refusal)
    → IfNone o (IsOk result) → IfNone o (IfErr result (λ e. e ≡ Memory))
ok_needs_none None (Ok x) h = tt
ok_needs_none None (Err e) h = absurd (true≢false (sym h))
ok_needs_none (Some r) result h = tt
