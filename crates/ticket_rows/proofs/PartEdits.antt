-- Edits of the rows of a part and of the copies that may be changed.
use Rattle.std.proofs.Common.{◌≡◌, ◌∙◌, ℕ, ◌||◌, Bool, true, false, List, [], ◌∷◌, Option, None, Result, Ok, Err, OnOk, sym, ap}
use Rattle.std.specs.List.{list_any}
use Rattle.std.specs.Str.{bytes_eq}
use Rattle.ticket_items.proofs.Apart.{or_none, or_true}
use Rattle.ticket_items.proofs.AtKey.{any_key, at_key-none}
use Rattle.ticket_items.specs.Ids.{mem}
use Rattle.ticket_items.specs.Resource.{resource_ids, with_item}
use Rattle.ticket_items.specs.declared.node_row.NodeRow.{NodeRow}
use Rattle.ticket_items.specs.declared.refusal.Refusal.{Refusal}
use Rattle.ticket_items.specs.declared.refusal.Refusal.TheVariants.{UnknownResource}
use Rattle.ticket_items.specs.declared.resource.Resource.{Resource}
use Rattle.ticket_rows.proofs.Changes.{with_resource-none}
use Rattle.ticket_rows.specs.Edit.{with_resource}
use Rattle.ticket_rows.specs.PartEdit.{AreApart}
use Rattle.ticket_rows.specs.Ticket.{unless, first_of}

-- whether the copies that were seen have an id
pub held : (copies seen : List Resource) (x : List ℕ) (b : Bool) → seen ≡ copies → b ≡ list_any (λ y. bytes_eq y.id x) seen → mem x (resource_ids copies) ≡ b
held copies seen x b same is = sym (any_key (λ y. y.id) x copies) ∙ ap (list_any (λ y. bytes_eq y.id x)) (sym same) ∙ sym is

-- a copy is changed, and no row
pub rows_stay : (rows : List NodeRow) (copies : List Resource) (x : List ℕ) (f : Resource → Resource) → AreApart rows copies → mem x (resource_ids copies) ≡ true → rows ≡ with_resource x f rows
rows_stay rows copies x f apart there = sym (with_resource-none x f rows (apart.apart x there))

-- a resource of the rows is changed, and no copy
pub copies_stay : (copies : List Resource) (x : List ℕ) (f : Resource → Resource) → mem x (resource_ids copies) ≡ false → copies ≡ with_item x f copies
copies_stay copies x f out = sym (at_key-none (λ y. y.id) x f copies out)

-- why an edit of a resource of a part is refused, from what of it is there
abbrev pub resource_refusal_in : Bool → Bool → Option Refusal
resource_refusal_in rows copies = first_of (unless (rows || copies) UnknownResource ∷ None ∷ [])

pub copy_known : (rows copies : Bool) → copies ≡ true → resource_refusal_in rows copies ≡ None
copy_known rows copies there = ap (λ b. resource_refusal_in rows b) there ∙ ap (λ b. first_of (unless b UnknownResource ∷ None ∷ [])) (or_true rows)

pub as_in_rows : (rows copies : Bool) → copies ≡ false → resource_refusal_in rows copies ≡ first_of (unless rows UnknownResource ∷ None ∷ [])
as_in_rows rows copies out = ap (λ b. resource_refusal_in rows b) out ∙ ap (λ b. first_of (unless b UnknownResource ∷ None ∷ [])) (or_none rows)

pub on_ok : {A E : Type 0} (r : Result A E) (P : Type 0) → P → OnOk r P
on_ok (Ok a) P p = p
on_ok (Err e) P p = tt
