-- A written ticket is read as what it was, and a written edit nests little.
use Rattle.std.proofs.Common.{◌≡◌, ◌≤◌, Bool, true, false, List, [], ◌∷◌, Option, Some, None, Ok, Err, refl, ap, ◌∙◌, arith}
use Rattle.std.proofs.lemmas.Bool.{or_from}
use Rattle.std.specs.Option.{option_map_or}
use Rattle.serde_json.specs.Data.{depth}
use Rattle.serde_json.specs.Written.{has_float}
use Rattle.ticket_rows.specs.Ticket.{Job, IsValid, fault_of, unless, first_of}
use Rattle.ticket_items.specs.declared.edit.Edit.{Edit}
use Rattle.ticket_items.specs.declared.node_row.NodeRow.{NodeRow}
use Rattle.ticket_items.specs.declared.edit.Edit.TheVariants.{SetStatus, SetAttr, SetResStatus, SetResAttr, Note, AddNode, AddResource, AddLink}
use Rattle.ticket_items.specs.declared.refusal.Refusal.{Refusal}
use Rattle.ticket_items.specs.declared.refusal.Refusal.TheVariants.{NotProfile, NotATree, ReservedStatus, DuplicateId, TooDeep, UnresolvedLink, BadId, BadText}
use Rattle.json_items.specs.TicketForm.{job_has_names, job_has_texts, ticket_fault, ticket_read}
use Rattle.json_items.specs.Validation.{checked_value}
use Rattle.json_text.specs.Written.{ticket_data, edit_data}
use Rattle.json_profile.proofs.Again.{ticket_form-ticket_data}
use Rattle.json_text.proofs.Plain.{attrs_plain}
use Rattle.json_profile.proofs.PoolShape.{attrs_flat}

five : (a b c d e : Bool) → a ≡ true → b ≡ true → c ≡ true → d ≡ true → e ≡ true
    → first_of (unless a NotATree ∷ unless b ReservedStatus ∷ unless c DuplicateId ∷ unless d TooDeep ∷ unless e UnresolvedLink ∷ []) ≡ None
five true true true true true p q r s t = refl
five false b c d e p q r s t = cc
five true false c d e p q r s t = cc
five true true false d e p q r s t = cc
five true true true false e p q r s t = cc
five true true true true false p q r s t = cc

-- valid rows have no fault
pub no_fault : (rows : List NodeRow) → IsValid rows → fault_of rows ≡ None
no_fault rows valid =
    five _ _ _ _ _ valid.tree valid.unreserved valid.distinct valid.shallow valid.resolved

no_built_fault : (bare : Bool) (o : Option Refusal) → bare ≡ true → o ≡ None → first_of (unless bare ReservedStatus ∷ o ∷ []) ≡ None
no_built_fault true None p q = refl
no_built_fault true (Some e) p q = cc
no_built_fault false o p q = cc

pub three : (a b : Bool) (o : Option Refusal) → a ≡ true → b ≡ true → o ≡ None → first_of (unless a BadId ∷ unless b BadText ∷ o ∷ []) ≡ None
three true true None p q r = refl
three true true (Some e) p q r = cc
three false b o p q r = cc
three true false o p q r = cc

pub ticket_again : (t : Job) → IsValid t.rows → job_has_names t ≡ true → job_has_texts t ≡ true → ticket_read (ticket_data t) ≡ Ok t
ticket_again t valid names texts =
    ap (λ o. option_map_or (λ raw. checked_value (ticket_fault raw) raw.job) o (Err NotProfile)) (ticket_form-ticket_data t.job_id t.rows valid)
    ∙ ap (λ f. checked_value f t) (three _ _ _ names texts (no_built_fault true (fault_of t.rows) refl (no_fault t.rows valid)))

pub edit_plain : (e : Edit) → has_float (edit_data e) ≡ false
edit_plain (SetStatus node status) = refl
edit_plain (SetAttr node name value) = refl
edit_plain (SetResStatus resource status) = refl
edit_plain (SetResAttr resource name value) = refl
edit_plain (Note node text) = refl
edit_plain (AddNode node id kind job_part status) = refl
edit_plain (AddResource node resource) = or_from _ _ (attrs_plain resource.attrs) refl
edit_plain (AddLink node link) = refl

pub edit_nests : (e : Edit) → depth (edit_data e) ≤ 127
edit_nests (SetStatus node status) = omega arith
edit_nests (SetAttr node name value) = omega arith
edit_nests (SetResStatus resource status) = omega arith
edit_nests (SetResAttr resource name value) = omega arith
edit_nests (Note node text) = omega arith
edit_nests (AddNode node id kind job_part status) = omega arith
edit_nests (AddResource node resource) = omega (arith, attrs_flat resource.attrs)
edit_nests (AddLink node link) = omega arith
