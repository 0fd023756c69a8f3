-- The input of `edit`: a time, edits and a ticket.
use Rattle.std.specs.Prelude.{ℕ, ◌&&◌, Bool, List, [], ◌∷◌, codes, Option, Some, Result}
use Rattle.std.specs.List.{list_all}
use Rattle.std.specs.Option.{option_and_then}
use Rattle.serde_json.specs.Data.{Data}
use Rattle.serde_json.specs.Find.{get}
use Rattle.ticket_items.specs.declared.edit.Edit.{Edit}
use Rattle.ticket_items.specs.declared.refusal.Refusal.{Refusal}
use Rattle.json_profile.specs.ReadAs as bytes
use Rattle.json_items.specs.Edits.{edit_form, edit_has_names, edit_has_texts}
use Rattle.json_items.specs.Validation.{built_value, checked_draft, first_fault}
use Rattle.json_items.specs.Listed.{list_form}
use Rattle.json_items.specs.TicketForm.{has_names, has_texts, built_fault}
use Rattle.json_source.specs.Read.{◌>>=◌, some_if, has_only, number_under}
use Rattle.controller_form.specs.Openings.ShopForm.{ticket_under}
use Rattle.document_commands.specs.declared.edit_command.document.Document.{Document}
use Rattle.document_commands.specs.declared.edit_command.raw_document.RawDocument.{RawDocument}

abbrev pub document_members : List (List ℕ)
document_members = codes "At" ∷ codes "Edits" ∷ codes "Ticket" ∷ []

-- the drafts of what stands under `Edits`
abbrev pub edits_under : Data → Option (List Edit)
edits_under d = option_and_then (list_form edit_form) (get (codes "Edits") d)

-- what the data is by its members and their kinds
unfoldable pub document_form : Data → Option RawDocument
document_form d = do
  _ ← some_if (has_only document_members d)
  at ← number_under (codes "At") d
  edits ← edits_under d
  ticket ← ticket_under d
  Some (record { at = at; edits = edits; ticket = ticket })

-- whether all ids and names, and all texts, of the edits and the ticket are valid
abbrev pub document_has_names : RawDocument → Bool
document_has_names doc = list_all edit_has_names doc.edits && has_names doc.ticket

abbrev pub document_has_texts : RawDocument → Bool
document_has_texts doc = list_all edit_has_texts doc.edits && has_texts doc.ticket

-- what is wrong with the ticket of a document whose names and texts are valid
abbrev pub late_fault : RawDocument → Option Refusal
late_fault doc = built_fault doc.ticket

-- the document of a draft
abbrev pub document_of : RawDocument → Document
document_of doc = record { at = doc.at; edits = doc.edits; ticket = doc.ticket.job }

-- the document that JSON data is, or its first refusal: each fault of the edits or the ticket
-- before the next one of either
abbrev pub document_read : Data → Result Document Refusal
document_read d =
    built_value document_has_names document_has_texts late_fault document_of (document_form d)

-- the bytes are JSON that is read so
abbrev pub IsReadAs : List ℕ → Result Document Refusal → Type 0
IsReadAs input answer = bytes.IsReadAs document_read input answer

-- why an input is refused: no JSON, the first refusal of its data, or memory ran out
abbrev pub IsRefusalOf : List ℕ → Refusal → Type 0
IsRefusalOf input e = bytes.IsRefusalOf document_read input e

-- the bytes are JSON that is read so by its members and their kinds, its names and its texts
abbrev pub IsReadRaw : List ℕ → Result RawDocument Refusal → Type 0
IsReadRaw input answer =
    bytes.IsReadAs
    (λ d. checked_draft (first_fault document_has_names document_has_texts) (document_form d)) input
    answer
