-- That memory runs out is no refusal of an edit.
use Rattle.std.proofs.Common.{◌≡◌, ◌≢◌, ◌∙◌, Bool, true, false, List, [], ◌∷◌, Option, Some, None, refl, sym, ap}
use Rattle.std.proofs.lemmas.Bool.{true≢false}
use Rattle.std.specs.Prelude.{IfSome, not}
use Rattle.ticket_items.specs.Act.{Act, NodeChange, ResourceChange, NodeAddition, NewStatus, NewNode, NewResource, NewLink}
use Rattle.ticket_items.specs.declared.refusal.Refusal.{Refusal}
use Rattle.ticket_items.specs.declared.refusal.Refusal.TheVariants.{Memory}
use Rattle.ticket_items.specs.declared.refusal.Refusal.TheVariants as refusals
use Rattle.ticket_rows.specs.EditRefusal.{Lookups, act_later, act_unknown, no_node, no_resource}
use Rattle.ticket_rows.specs.Ticket.{first_of, is_reserved, unless}

-- it isn't want of memory
abbrev pub IsOther : Option Refusal → Type 0
IsOther o = IfSome o (λ e. e ≢ Memory)

abbrev is_memory : Refusal → Bool
is_memory Memory = true
is_memory _ = false

pub other : (e : Refusal) → is_memory e ≡ false → e ≢ Memory
other e isnt is = true≢false (sym (ap is_memory is) ∙ isnt)

pub test : (b : Bool) (e : Refusal) → e ≢ Memory → IsOther (unless b e)
test true e isnt = tt
test false e isnt = isnt

pub either : (o : Option Refusal) (rest : List (Option Refusal)) → IsOther o → IsOther (first_of rest) → IsOther (first_of (o ∷ rest))
either None rest first later = later
either (Some e) rest first later = first

pub none : IsOther None
none = tt

-- ---- edits

pub unknown : (a : Act) (at' : Lookups) → IsOther (act_unknown a at')
unknown (ResourceChange x change) at' = test _ _ (other refusals.UnknownResource refl)
unknown (NodeAddition n (NewLink link)) at' =
    either (no_node n at') (no_resource link.rref at' ∷ []) (test _ _ (other refusals.UnknownNode refl))
    (either (no_resource link.rref at') [] (test _ _ (other refusals.UnknownResource refl)) none)
unknown a at' = test _ _ (other refusals.UnknownNode refl)

added : (a b c : Bool) → IsOther (first_of (unless a refusals.ReservedStatus ∷ unless b refusals.DuplicateId ∷ unless c refusals.TooDeep ∷ []))
added false b c = other refusals.ReservedStatus refl
added true false c = other refusals.DuplicateId refl
added true true false = other refusals.TooDeep refl
added true true true = tt

pub later : (a : Act) (at' : Lookups) → IsOther (act_later a at')
later (NodeChange n (NewStatus status)) at' = test _ _ (other refusals.ReservedStatus refl)
later (NodeAddition n (NewNode new)) at' = added (not (is_reserved new.status)) (not (at'.has_id new.id)) (at'.has_room n)
later (NodeAddition n (NewResource x)) at' = test _ _ (other refusals.DuplicateId refl)
later (NodeAddition n (NewLink link)) at' = test _ _ (other refusals.UnresolvedLink refl)
later a at' = tt

-- three in turn
pub three : (a b c : Option Refusal) → IsOther a → IsOther b → IsOther c → IsOther (first_of (a ∷ b ∷ c ∷ []))
three a b c p q r = either a (b ∷ c ∷ []) p (either b (c ∷ []) q (either c [] r none))
