-- What the reader of each kind of document answers, without what it reads.
use Rattle.std.specs.Prelude.{ℕ, ⊤, List, Result, Ok, Err}
use Rattle.serde_json.specs.Data.{Data}
use Rattle.fault_finder.specs.declared.kind.Kind.{Kind}
use Rattle.fault_finder.specs.declared.kind.Kind.TheVariants as kinds
use Rattle.ticket_items.specs.declared.refusal.Refusal.{Refusal}
use Rattle.ticket_items.specs.declared.refusal.Refusal.TheVariants.{NotProfile}
use Rattle.json_items.specs.TicketForm.{ticket_read}
use Rattle.json_profile.specs.ReadAs.{IsReadAs, IsRefusalOf}
use Rattle.jmf_message.specs.Decoded.{message_read}
use Rattle.controller_form.specs.Openings.OpeningForm.{opening_read}
use Rattle.controller_form.specs.Orders.MasterForm.{master_order_read}
use Rattle.controller_form.specs.Orders.WorkerForm.{worker_order_read}
use Rattle.world_script.specs.Script.{script_read}
use Rattle.stored_state.specs.Opened.{any_state_read}
use Rattle.document_commands.specs.EditCommand.Document.{document_read}

-- an answer without what was read
abbrev pub bare_answer : {A : Type 0} → Result A Refusal → Result ⊤ Refusal
bare_answer (Ok x) = Ok tt
bare_answer (Err e) = Err e

-- the one, and the other where the one is of another form
abbrev pub or_else : Result ⊤ Refusal → Result ⊤ Refusal → Result ⊤ Refusal
or_else (Err NotProfile) other = other
or_else one other = one

-- what an order is read as: a master's, or else a worker's
abbrev pub order_read : Data → Result ⊤ Refusal
order_read d = or_else (bare_answer (master_order_read d)) (bare_answer (worker_order_read d))

-- what data of a kind is read as
abbrev pub answer_of_kind : Kind → Data → Result ⊤ Refusal
answer_of_kind kinds.Ticket d = bare_answer (ticket_read d)
answer_of_kind kinds.Edits d = bare_answer (document_read d)
answer_of_kind kinds.Order d = order_read d
answer_of_kind kinds.Message d = bare_answer (message_read d)
answer_of_kind kinds.Script d = bare_answer (script_read d)
answer_of_kind kinds.Opening d = bare_answer (opening_read d)
answer_of_kind kinds.State d = bare_answer (any_state_read d)

-- bytes are read, or refused so, as their data is, or as no JSON; or memory ran out
abbrev pub IsAnswer : (Data → Result ⊤ Refusal) → List ℕ → Result ⊤ Refusal → Type 0
IsAnswer reads bytes (Ok read) = IsReadAs reads bytes (Ok read)
IsAnswer reads bytes (Err e) = IsRefusalOf reads bytes e
