-- Validity as the absence of a fault.
use Rattle.std.proofs.Common.{◌≡◌, Bool, true, false, List, [], ◌∷◌, Option, None, refl}
use Rattle.ticket_items.specs.Ids.{are_distinct}
use Rattle.ticket_tree.specs.Laws.{NoFaultIsValid}
use Rattle.ticket_rows.specs.Outline.{is_outline}
use Rattle.ticket_rows.specs.Ticket.{IsValid, fault_of, ids, depths, are_unreserved, are_shallow}
use Rattle.ticket_rows.specs.Ticket.{are_resolved, unless, first_of}
use Rattle.ticket_items.specs.declared.node_row.NodeRow.{NodeRow}
use Rattle.ticket_items.specs.declared.refusal.Refusal.{Refusal}
use Rattle.ticket_items.specs.declared.refusal.Refusal.TheVariants.{NotATree, ReservedStatus}
use Rattle.ticket_items.specs.declared.refusal.Refusal.TheVariants.{DuplicateId, TooDeep}
use Rattle.ticket_items.specs.declared.refusal.Refusal.TheVariants.{UnresolvedLink}

-- none of five tests fails
abbrev FiveTests : Bool → Bool → Bool → Bool → Bool → Option Refusal
FiveTests a b c d e = first_of (unless a NotATree ∷ unless b ReservedStatus ∷ unless c DuplicateId ∷ unless d TooDeep ∷ unless e UnresolvedLink ∷ [])

five_hold : (a b c d e : Bool) → FiveTests a b c d e ≡ None
    → (a ≡ true) × (b ≡ true) × (c ≡ true) × (d ≡ true) × (e ≡ true)
five_hold true true true true true h = (refl, refl, refl, refl, refl)
five_hold true true true true false h = cc
five_hold true true true false e h = cc
five_hold true true false d e h = cc
five_hold true false c d e h = cc
five_hold false b c d e h = cc

five_pass : (a b c d e : Bool) → a ≡ true → b ≡ true → c ≡ true → d ≡ true → e ≡ true
    → FiveTests a b c d e ≡ None
five_pass true true true true true ha hb hc hd he = refl
five_pass true true true true false ha hb hc hd he = cc
five_pass true true true false e ha hb hc hd he = cc
five_pass true true false d e ha hb hc hd he = cc
five_pass true false c d e ha hb hc hd he = cc
five_pass false b c d e ha hb hc hd he = cc

valid_from : (rows : List NodeRow) → fault_of rows ≡ None → IsValid rows
valid_from rows h =
    let all = five_hold (is_outline (depths rows)) (are_unreserved rows) (are_distinct (ids rows)) (are_shallow rows) (are_resolved rows) h in
    record { tree = all.0; unreserved = all.1; distinct = all.2; shallow = all.3; resolved = all.4 }

pub no_fault_is_valid : NoFaultIsValid
no_fault_is_valid rows = (valid_from rows, λ valid. five_pass _ _ _ _ _ valid.tree valid.unreserved valid.distinct valid.shallow valid.resolved)
