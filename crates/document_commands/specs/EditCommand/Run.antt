-- What `edit` does with a document, and what it writes.
use Rattle.std.specs.Prelude.{◌≡◌, ℕ, Bool, List, [], ◌∷◌, ◌++◌, codes, Option, Some, None, is_some}
use Rattle.std.specs.Prelude.{Ok, ◌⊎◌}
use Rattle.std.specs.List.{flat_map, list_any}
use Rattle.serde_json.specs.Written.{compact_text}
use Rattle.ticket_rows.specs.Edit.{job_after_edit, refusal_of}
use Rattle.ticket_rows.specs.Ticket.{Job}
use Rattle.ticket_items.specs.declared.edit.Edit.{Edit}
use Rattle.ticket_items.specs.declared.refusal.Refusal.{Refusal}
use Rattle.ticket_items.specs.declared.refusal.Refusal.TheVariants.{Memory}
use Rattle.json_text.specs.Written.{ticket_data}
use Rattle.document_commands.specs.EditCommand.Document.{IsReadAs}
use Rattle.document_commands.specs.declared.edit_command.document.Document.{Document}
use Rattle.ticket_items.specs.Refusal.{refusal_line}
use Rattle.streams.specs.Ends.{done_status}

-- ---- one edit

-- an edit is refused as the ticket says, and done otherwise, unless memory ran out
abbrev pub IsOutcome : Edit → Job → Option Refusal → Type 0
IsOutcome e t outcome =
    (outcome ≡ refusal_of e t.rows) ⊎ ((outcome ≡ Some Memory) × (refusal_of e t.rows ≡ None))

-- the ticket after an edit: a refusal changes nothing
abbrev pub after : Option Refusal → Edit → ℕ → Job → Job
after None e at t = job_after_edit e at t
after (Some r) e at t = t

-- the edit's line
abbrev pub edit_line : Option Refusal → List ℕ
edit_line None = codes "Edited" ++ 10 ∷ []
edit_line (Some r) = refusal_line r

-- ---- edits in turn

-- the edits, one after another, have these outcomes and leave this ticket
abbrev pub Runs : Job → ℕ → List Edit → List (Option Refusal) → Job → Type 0
Runs t at [] [] end = t ≡ end
Runs t at [] (o ∷ outcomes) end = ⊥
Runs t at (e ∷ edits) [] end = ⊥
Runs t at (e ∷ edits) (o ∷ outcomes) end =
    IsOutcome e t o × Runs (after o e at t) at edits outcomes end

-- a line for each edit
abbrev pub lines : List (Option Refusal) → List ℕ
lines outcomes = flat_map edit_line outcomes

-- whether an edit was refused
abbrev pub has_refusal : List (Option Refusal) → Bool
has_refusal outcomes = list_any is_some outcomes

-- the edits leave this ticket, their lines were appended, and this tells whether one was refused
pub record IsRun (start : Job) (at : ℕ) (edits : List Edit) (old new : List ℕ) (end : Job)
    (refused : Bool) : Type 0 where
  pub outcomes : List (Option Refusal)
  pub runs : Runs start at edits outcomes end
  pub text : new ≡ old ++ lines outcomes
  pub status : refused ≡ has_refusal outcomes

-- ---- what is written

-- the edits of a document have outcomes that leave this ticket; these are their lines, and this
-- tells whether one was refused
abbrev pub IsEdited : Document → List ℕ → Job → Bool → Type 0
IsEdited document text end refused =
    IsRun document.ticket document.at document.edits [] text end refused

-- the ticket's text, and the end of its line
abbrev pub ticket_text : Job → List ℕ
ticket_text t = compact_text (ticket_data t) ++ 10 ∷ []

-- what is written for a document: each edit's line, and the text of the ticket that they leave
pub record IsRunOf (document : Document) (text : List ℕ) (refused : Bool) : Type 0 where
  pub outcomes : List (Option Refusal)
  pub end : Job
  pub runs : Runs document.ticket document.at document.edits outcomes end
  pub written : text ≡ lines outcomes ++ ticket_text end
  pub status : refused ≡ has_refusal outcomes

-- for this input, read as a document, this is written
abbrev pub IsOutput : List ℕ → List ℕ → Bool → Type 0
IsOutput input text refused =
    (document : Document) × IsReadAs input (Ok document) × IsRunOf document text refused

-- ---- where memory never runs out

-- the outcomes as the ticket says
abbrev pub outcomes_of : Job → ℕ → List Edit → List (Option Refusal)
outcomes_of t at [] = []
outcomes_of t at (e ∷ edits) =
    refusal_of e t.rows ∷ outcomes_of (after (refusal_of e t.rows) e at t) at edits

-- the ticket that the edits leave
abbrev pub end_of : Job → ℕ → List Edit → Job
end_of t at [] = t
end_of t at (e ∷ edits) = end_of (after (refusal_of e t.rows) e at t) at edits

-- the text that is written for a document
abbrev pub output_of : Document → List ℕ
output_of doc =
    lines (outcomes_of doc.ticket doc.at doc.edits)
    ++ ticket_text (end_of doc.ticket doc.at doc.edits)

-- the exit status for a document
abbrev pub status_of : Document → ℕ
status_of doc = done_status (has_refusal (outcomes_of doc.ticket doc.at doc.edits))

-- no edit was refused as out of memory
abbrev pub NoneOutOfMemory : List (Option Refusal) → Type 0
NoneOutOfMemory [] = Unit {0}
NoneOutOfMemory (o ∷ outcomes) = (o ≡ Some Memory → ⊥) × NoneOutOfMemory outcomes
