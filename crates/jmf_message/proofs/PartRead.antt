-- What is known of a part that data is read as.
use Rattle.std.proofs.Common.{◌≡◌, Bool, true, false, [], ◌∷◌, Option, Some, None, Ok, Err, refl}
use Rattle.std.specs.Option.{option_map_or}
use Rattle.serde_json.specs.Data.{Data}
use Rattle.json_items.specs.Validation.{checked_value}
use Rattle.json_items.specs.PartDraft.{RawPart, part_form}
use Rattle.json_items.specs.PartForm.{built_fault, has_names, has_texts, part_fault, part_of_raw, part_read}
use Rattle.ticket_items.specs.declared.refusal.Refusal.{Refusal}
use Rattle.ticket_items.specs.declared.refusal.Refusal.TheVariants.{NotProfile, BadId, BadText}
use Rattle.ticket_rows.specs.Ticket.{unless, first_of}
use Rattle.ticket_tree.specs.Part.{PartCopy}

-- nothing is wrong
pub record HasNoFault (a b : Bool) (o : Option Refusal) : Type 0 where
  pub names : a ≡ true
  pub texts : b ≡ true
  pub built : o ≡ None

no_fault : (a b : Bool) (o : Option Refusal) → first_of (unless a BadId ∷ unless b BadText ∷ o ∷ []) ≡ None → HasNoFault a b o
no_fault true true None h = record { names = refl; texts = refl; built = refl }
no_fault true true (Some e) h = cc
no_fault true false o h = cc
no_fault false b o h = cc

pub no_fault-back : (a b : Bool) (o : Option Refusal) → HasNoFault a b o → first_of (unless a BadId ∷ unless b BadText ∷ o ∷ []) ≡ None
no_fault-back true true None h = refl
no_fault-back true true (Some e) h = cc h.built
no_fault-back true false o h = cc h.texts
no_fault-back false b o h = cc h.names

-- the draft of which the part is made
pub record IsReadOf (d : Data) (p : PartCopy) : Type 0 where
  pub raw : RawPart
  pub drafted : part_form d ≡ Some raw
  pub faultless : HasNoFault (has_names raw) (has_texts raw) (built_fault raw)
  pub same : part_of_raw raw ≡ p

sound_at : (raw : RawPart) (p : PartCopy) (f : Option Refusal) → part_fault raw ≡ f → checked_value f (part_of_raw raw) ≡ Ok p → (part_fault raw ≡ None) × (part_of_raw raw ≡ p)
sound_at raw p None e h = (e, cc)
sound_at raw p (Some r) e h = cc

read_at : (d : Data) (p : PartCopy) (o : Option RawPart) → part_form d ≡ o → option_map_or (λ raw. checked_value (part_fault raw) (part_of_raw raw)) o (Err NotProfile) ≡ Ok p → IsReadOf d p
read_at d p None e h = cc
read_at d p (Some raw) e h =
    let parts = sound_at raw p (part_fault raw) refl h in
    record { raw = raw; drafted = e; faultless = no_fault _ _ _ parts.0; same = parts.1 }

pub read_of : (d : Data) (p : PartCopy) → part_read d ≡ Ok p → IsReadOf d p
read_of d p h = read_at d p (part_form d) refl h
