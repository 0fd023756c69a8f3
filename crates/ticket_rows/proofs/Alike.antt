-- Where look-ups answer alike, an act is refused alike.
use Rattle.std.proofs.Common.{◌≡◌, ◌∙◌, ℕ, not, List, [], ◌∷◌, refl, ap}
use Rattle.ticket_rows.specs.EditRefusal.{Lookups, act_unknown, act_later, act_refusal}
use Rattle.ticket_rows.specs.EditRefusal.{status_refusal}
use Rattle.ticket_rows.specs.Ticket.{unless, first_of}
use Rattle.ticket_items.specs.Act.{Act, ResourceChange, NodeAddition, act_target}
use Rattle.ticket_items.specs.Act.{NewNode, NewResource, NewLink}
use Rattle.ticket_items.specs.declared.refusal.Refusal.TheVariants.{UnknownNode, UnknownResource}
use Rattle.ticket_items.specs.declared.refusal.Refusal.TheVariants.{DuplicateId}
use Rattle.ticket_items.specs.declared.refusal.Refusal.TheVariants.{TooDeep, UnresolvedLink}

-- they say the same of each id
pub record AreAlike (a b : Lookups) : Type 0 where
  pub nodes : (x : List ℕ) → a.has_node x ≡ b.has_node x
  pub resources : (x : List ℕ) → a.has_resource x ≡ b.has_resource x
  pub ids : (x : List ℕ) → a.has_id x ≡ b.has_id x
  pub rooms : (x : List ℕ) → a.has_room x ≡ b.has_room x
  pub homes : (x y : List ℕ) → a.reaches x y ≡ b.reaches x y

pub unknown_alike : (act : Act) (a b : Lookups) → AreAlike a b → act_unknown act a ≡ act_unknown act b
unknown_alike (ResourceChange x change) a b alike = ap (λ k. unless k UnknownResource) (alike.resources x)
unknown_alike (NodeAddition n (NewLink link)) a b alike =
    ap (λ k. first_of (unless k UnknownNode ∷ unless (a.has_resource link.rref) UnknownResource ∷ [])) (alike.nodes n)
    ∙ ap (λ k. first_of (unless (b.has_node n) UnknownNode ∷ unless k UnknownResource ∷ [])) (alike.resources link.rref)
unknown_alike act a b alike = ap (λ k. unless k UnknownNode) (alike.nodes (act_target act))

pub later_alike : (act : Act) (a b : Lookups) → AreAlike a b → act_later act a ≡ act_later act b
later_alike (NodeAddition n (NewNode new)) a b alike =
    ap (λ k. first_of (status_refusal new.status ∷ unless (not k) DuplicateId ∷ unless (a.has_room n) TooDeep ∷ [])) (alike.ids new.id)
    ∙ ap (λ k. first_of (status_refusal new.status ∷ unless (not (b.has_id new.id)) DuplicateId ∷ unless k TooDeep ∷ [])) (alike.rooms n)
later_alike (NodeAddition n (NewResource x)) a b alike = ap (λ k. unless (not k) DuplicateId) (alike.ids x.id)
later_alike (NodeAddition n (NewLink link)) a b alike = ap (λ k. unless k UnresolvedLink) (alike.homes n link.rref)
later_alike act a b alike = refl

pub refusal_alike : (act : Act) (a b : Lookups) → AreAlike a b → act_refusal act a ≡ act_refusal act b
refusal_alike act a b alike = ap (λ o. first_of (o ∷ act_later act a ∷ [])) (unknown_alike act a b alike) ∙ ap (λ o. first_of (act_unknown act b ∷ o ∷ [])) (later_alike act a b alike)
