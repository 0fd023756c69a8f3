-- In what order an edit is refused.
use Rattle.std.proofs.Common.{◌≡◌, ◌⊎◌, inl, inr, Bool, true, false, [], ◌∷◌, Option, Some, None, refl}
use Rattle.std.specs.Option.{option_or}
use Rattle.ticket_items.specs.Act.{Act, ResourceChange, NodeAddition, NewLink, act_target}
use Rattle.ticket_items.specs.declared.refusal.Refusal.{Refusal}
use Rattle.ticket_items.specs.declared.refusal.Refusal.TheVariants.{UnknownNode, UnknownResource}
use Rattle.ticket_rows.specs.EditRefusal.{Lookups, act_unknown}
use Rattle.ticket_rows.specs.Ticket.{first_of, unless}

-- no refusal, or that a node or a resource isn't there
abbrev pub IsUnknown : Option Refusal → Type 0
IsUnknown o = (o ≡ None) ⊎ ((o ≡ Some UnknownNode) ⊎ (o ≡ Some UnknownResource))

no_node_is : (b : Bool) → IsUnknown (unless b UnknownNode)
no_node_is true = inl refl
no_node_is false = inr (inl refl)

no_resource_is : (b : Bool) → IsUnknown (unless b UnknownResource)
no_resource_is true = inl refl
no_resource_is false = inr (inr refl)

neither_is : (a b : Bool) → IsUnknown (first_of (unless a UnknownNode ∷ unless b UnknownResource ∷ []))
neither_is true true = inl refl
neither_is true false = inr (inr refl)
neither_is false b = inr (inl refl)

pub unknown_is : (a : Act) (at : Lookups) → IsUnknown (act_unknown a at)
unknown_is (ResourceChange x change) at = no_resource_is (at.has_resource x)
unknown_is (NodeAddition n (NewLink link)) at = neither_is (at.has_node n) (at.has_resource link.rref)
unknown_is a at = no_node_is (at.has_node (act_target a))

-- where the second of two is refused, what comes between them is before it
pub later_first : (u h l : Option Refusal) (r : Refusal) → IsUnknown u → first_of (u ∷ l ∷ []) ≡ Some r → (r ≡ UnknownNode → ⊥) → (r ≡ UnknownResource → ⊥) → option_or h (Some r) ≡ first_of (u ∷ h ∷ l ∷ [])
later_first None None None r kind e node resource = cc
later_first None None (Some q) r kind e node resource = cc
later_first None (Some q) l r kind e node resource = refl
later_first (Some q) h l r kind e node resource =
    elim kind [
      | inl none ↦ cc
      | inr some ↦
          elim some [
            | inl is ↦ let same : r ≡ UnknownNode = cc in absurd (node same)
            | inr is ↦ let same : r ≡ UnknownResource = cc in absurd (resource same)
          ]
    ]
