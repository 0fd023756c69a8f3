use Rattle.std.proofs.Common.{◌≡◌, ◌∙◌, ◌&&◌, ⊎_elim, inl, inr, ℕ, Bool, true, false, [], ◌∷◌, List, None, Option, Some, Result, Ok, Err, refl, ap, ap₂, subst, sym}
use Rattle.std.specs.Prelude.{codes}
use Rattle.std.specs.List.{list_all}
use Rattle.std.specs.Option.{option_and_then, option_map}
use Rattle.serde_json.specs.Data.{Data}
use Rattle.serde_json.specs.Find.{as_str, get}
use Rattle.ticket_items.specs.Names.{is_name}
use Rattle.ticket_items.specs.declared.refusal.Refusal.{Refusal}
use Rattle.ticket_items.specs.declared.refusal.Refusal.TheVariants.{BadState, ReservedStatus}
use Rattle.ticket_rows.specs.Ticket.{first_of, unless}
use Rattle.json_items.proofs.Tests.{all_true}
use Rattle.json_items.specs.Validation.{Answers, Finds, both_read, checked_fault, checked_value, first_fault, on_both}
use Rattle.json_items.specs.Listed.{list_form}
use Rattle.json_items.specs.Members.{three_form}
use Rattle.json_items.specs.TicketDraft.{RawTicket, ticket_form as form_of_ticket}
use Rattle.json_items.specs.TicketForm as ticket_form
use Rattle.json_source.specs.Read.{◌>>=◌, has_only, some_if}
use Rattle.master_core.specs.Master.{State, state}
use Rattle.master_core.specs.Stored.{is_master}
use Rattle.controller_form.specs.States.MasterForm.{StoredMaster, judged_master, master_built_fault, master_form, master_has_names, master_has_texts, master_in, master_members, master_state_read}
use Rattle.controller_form.specs.States.RecordForm.{record_form, record_has_names, record_has_texts}
use Rattle.controller_form.specs.States.StateFormat.{controller_under, format_of, read_in_format}
use Rattle.controller_form.specs.declared.states.format.Format.{Format}
use Rattle.controller_form.specs.declared.states.stored_record.StoredRecord.{StoredRecord}
use Rattle.controller_form.proofs.Refusing.{handed_on, none_behind, of_parts, parts_refused, parts_taken, unread}
use Rattle.controller_form.proofs.Together.{four_together}
use Rattle.controller_form.proofs.states.master_state.MasterStateForm.state_of.Goals as goal

abbrev Own : Type 0
Own = (List ℕ × List (List ℕ)) × RawTicket

abbrev Parts : Type 0
Parts = Own × List StoredRecord

abbrev make : Parts → StoredMaster
make p = record { name = p.0.0.0; workers = p.0.0.1; ticket = p.0.1; records = p.1 }

abbrev names : Own → Bool
names = on_both (on_both is_name (list_all is_name)) ticket_form.has_names

abbrev texts : Own → Bool
texts = on_both (on_both (λ _. true) (list_all (λ _. true))) ticket_form.has_texts

abbrev fault : Parts → Option Refusal
fault = first_fault (on_both names (list_all record_has_names)) (on_both texts (list_all record_has_texts))

abbrev three : Data → Option Own
three = three_form (codes "Name") as_str (codes "Workers") (list_form as_str) (codes "Ticket") form_of_ticket

abbrev records : Format → Data → Option (List StoredRecord)
records format d = option_and_then (list_form (record_form format)) (get (codes "Spawns") d)

abbrev parts : Format → Data → Option Parts
parts format d = both_read (three d) (records format d)

in_parts : (format : Format) (d : Data) → some_if (has_only master_members d) ≡ Some tt → master_form format d ≡ option_map make (parts format d)
unfolding master_form
in_parts format d only =
    ap (λ o. o >>= λ _. option_and_then as_str (get (codes "Name") d) >>= λ name. option_and_then (list_form as_str) (get (codes "Workers") d) >>= λ workers. option_and_then form_of_ticket (get (codes "Ticket") d) >>= λ ticket. records format d >>= λ rs. Some (make (((name, workers), ticket), rs))) only
    ∙ four_together (λ name workers ticket rs. make (((name, workers), ticket), rs)) _ _ _ (records format d)

same_fault : (p : Parts) → first_fault master_has_names master_has_texts (make p) ≡ fault p
same_fault p = ap (λ b. checked_fault (master_has_names (make p)) (b && ticket_form.has_texts p.0.1 && list_all record_has_texts p.1) None) (sym (all_true p.0.0.1))

-- what is read of the controller in its format
reads_on : (d controller : Data) (format : Format) → Ok format ≡ format_of d → controller_under (codes "Master") d ≡ Some controller → master_state_read d ≡ judged_master (master_form format controller)
reads_on d controller format is under =
    ap (λ f. read_in_format f (λ m. judged_master (option_and_then (master_form m) (controller_under (codes "Master") d)))) (sym is)
    ∙ ap (λ o. judged_master (option_and_then (master_form format) o)) under

no_members : (format : Format) (d : Data) → some_if (has_only master_members d) ≡ None → master_form format d ≡ None
unfolding master_form
no_members format d none =
    ap (λ o. o >>= λ _. option_and_then as_str (get (codes "Name") d) >>= λ name. option_and_then (list_form as_str) (get (codes "Workers") d) >>= λ workers. option_and_then form_of_ticket (get (codes "Ticket") d) >>= λ ticket. records format d >>= λ rs. Some (make (((name, workers), ticket), rs))) none

-- the parts are valid, and are asked to be a master's
taken : (format : Format) (d : Data) (found : Result Parts Refusal) (p : Parts) → some_if (has_only master_members d) ≡ Some tt → found ≡ Ok p → Finds fault found (parts format d)
    → judged_master (master_form format d) ≡ checked_value (master_built_fault (make p)) (master_in (make p))
taken format d found p only is finds =
    parts_taken fault make master_has_names master_has_texts master_built_fault master_in (parts format d) (master_form format d) found p (in_parts format d only) same_fault is finds

one_left : (b : Bool) → first_of (unless b BadState ∷ []) ≡ unless b BadState
one_left true = refl
one_left false = refl

-- what is wrong with it, by what is wrong with its parts
abbrev with_faults : StoredMaster → Bool → Option Refusal → Result State Refusal
with_faults m bare f = checked_value (first_of (unless bare ReservedStatus ∷ f ∷ unless (is_master (master_in m)) BadState ∷ [])) (master_in m)

pub returns-in_err-check_members : goal.returns-in_err-check_members
returns-in_err-check_members g c =
    let d = g.S.Source.content c.args.value.now in
    let v = g.S.Source.content c.in_ok-controller.controller.now in
    let format = c.in_ok-format.format in
    let reads = reads_on d v format c.in_ok-format.ensures c.in_ok-controller.ensures.read in
    handed_on c.from_residual-in_err-check_members.result c.in_err-check_members.field-0.0 (master_state_read d) c.from_residual-in_err-check_members.ensures.1
    (unread c.in_err-check_members.field-0.0 (some_if (has_only master_members v)) (master_state_read d) (λ none. reads ∙ ap judged_master (no_members format v none)) c.in_err-check_members.ensures.read)

pub returns-in_err-own : goal.returns-in_err-own
returns-in_err-own g c =
    let d = g.S.Source.content c.args.value.now in
    let v = g.S.Source.content c.in_ok-controller.controller.now in
    let format = c.in_ok-format.format in
    let reads = reads_on d v format c.in_ok-format.ensures c.in_ok-controller.ensures.read in
    handed_on c.from_residual-in_err-own.result c.in_err-own.field-0.0 (master_state_read d) c.from_residual-in_err-own.ensures.1
    (unread c.in_err-own.field-0.0 (three v) (master_state_read d) (λ none. reads ∙ ap judged_master (in_parts format v c.in_ok-check_members.ensures.read ∙ ap (λ o. option_map make (both_read o (records format v))) none)) c.in_err-own.ensures)

pub returns-in_err-records : goal.returns-in_err-records
returns-in_err-records g c =
    let d = g.S.Source.content c.args.value.now in
    let v = g.S.Source.content c.in_ok-controller.controller.now in
    let format = c.in_ok-format.format in
    let reads = reads_on d v format c.in_ok-format.ensures c.in_ok-controller.ensures.read in
    handed_on c.from_residual-in_err-records.result c.in_err-records.field-0.0 (master_state_read d) c.from_residual-in_err-records.ensures.1
    (unread c.in_err-records.field-0.0 (records format v) (master_state_read d) (λ none. reads ∙ ap judged_master (in_parts format v c.in_ok-check_members.ensures.read ∙ ap (option_map make) (none_behind (three v) (records format v) none))) c.in_err-records.ensures)

pub returns-in_err-name : goal.returns-in_err-name
returns-in_err-name g c =
    let d = g.S.Source.content c.args.value.now in
    let v = g.S.Source.content c.in_ok-controller.controller.now in
    let format = c.in_ok-format.format in
    let reads = reads_on d v format c.in_ok-format.ensures c.in_ok-controller.ensures.read in
    let finds = c.zip.ensures names texts (three v) (list_all record_has_names) (list_all record_has_texts) (records format v) c.in_ok-own.ensures c.in_ok-records.ensures in
    handed_on c.from_residual-in_err-name.result c.in_err-name.field-0.0 (master_state_read d) c.from_residual-in_err-name.ensures.1
    (inr (reads ∙ parts_refused fault make master_has_names master_has_texts master_built_fault master_in (parts format v) (master_form format v) c.zip.result c.in_err-name.field-0.0 (in_parts format v c.in_ok-check_members.ensures.read) same_fault c.in_err-name.was finds))

pub returns-in_err-spawns : goal.returns-in_err-spawns
returns-in_err-spawns g c =
    let d = g.S.Source.content c.args.value.now in
    let v = g.S.Source.content c.in_ok-controller.controller.now in
    let format = c.in_ok-format.format in
    let reads = reads_on d v format c.in_ok-format.ensures c.in_ok-controller.ensures.read in
    let finds = c.zip.ensures names texts (three v) (list_all record_has_names) (list_all record_has_texts) (records format v) c.in_ok-own.ensures c.in_ok-records.ensures in
    let p : Parts = (((c.in_ok-name.name, c.in_ok-name.workers), c.in_ok-name.ticket), c.in_ok-name.records) in
    handed_on c.from_residual-in_err-spawns.result c.in_err-spawns.field-0.0 (master_state_read d) c.from_residual-in_err-spawns.ensures.1
    (⊎_elim (λ memory. inl memory) (λ marked. inr (reads ∙ taken format v c.zip.result p c.in_ok-check_members.ensures.read c.in_ok-name.was finds ∙ ap (λ b. with_faults (make p) b (ticket_form.built_fault c.in_ok-name.ticket)) marked.1 ∙ ap Err (sym marked.0))) c.in_err-spawns.ensures.refused)

pub returns-in_err-ticket : goal.returns-in_err-ticket
returns-in_err-ticket g c =
    let d = g.S.Source.content c.args.value.now in
    let v = g.S.Source.content c.in_ok-controller.controller.now in
    let format = c.in_ok-format.format in
    let reads = reads_on d v format c.in_ok-format.ensures c.in_ok-controller.ensures.read in
    let finds = c.zip.ensures names texts (three v) (list_all record_has_names) (list_all record_has_texts) (records format v) c.in_ok-own.ensures c.in_ok-records.ensures in
    let p : Parts = (((c.in_ok-name.name, c.in_ok-name.workers), c.in_ok-name.ticket), c.in_ok-name.records) in
    handed_on c.from_residual-in_err-ticket.result c.in_err-ticket.field-0.0 (master_state_read d) c.from_residual-in_err-ticket.ensures.1
    (⊎_elim (λ memory. inl memory) (λ wrong. inr (reads ∙ taken format v c.zip.result p c.in_ok-check_members.ensures.read c.in_ok-name.was finds ∙ ap (λ b. with_faults (make p) b (ticket_form.built_fault c.in_ok-name.ticket)) c.in_ok-spawns.ensures.bare ∙ ap (with_faults (make p) true) wrong)) c.in_err-ticket.ensures.err)

pub returns : goal.returns
returns g c =
    let d = g.S.Source.content c.args.value.now in
    let v = g.S.Source.content c.in_ok-controller.controller.now in
    let format = c.in_ok-format.format in
    let reads = reads_on d v format c.in_ok-format.ensures c.in_ok-controller.ensures.read in
    let finds = c.zip.ensures names texts (three v) (list_all record_has_names) (list_all record_has_texts) (records format v) c.in_ok-own.ensures c.in_ok-records.ensures in
    let p : Parts = (((c.in_ok-name.name, c.in_ok-name.workers), c.in_ok-name.ticket), c.in_ok-name.records) in
    let m = state c.in_ok-name.name c.in_ok-name.workers c.in_ok-ticket.ticket c.in_ok-spawns.spawns.items in
    let same : master_in (make p) ≡ m = ap₂ (state c.in_ok-name.name c.in_ok-name.workers) (sym c.in_ok-ticket.ensures.ok) (sym c.in_ok-spawns.ensures.ok) in
    subst (Answers c.of_parts.result)
    (sym (reads ∙ taken format v c.zip.result p c.in_ok-check_members.ensures.read c.in_ok-name.was finds
    ∙ ap (λ b. with_faults (make p) b (ticket_form.built_fault c.in_ok-name.ticket)) c.in_ok-spawns.ensures.bare
    ∙ ap (with_faults (make p) true) c.in_ok-ticket.ensures.sound
    ∙ ap (λ f. checked_value f (master_in (make p))) (one_left (is_master (master_in (make p))))
    ∙ ap (λ k. checked_value (unless (is_master k) BadState) k) same))
    (of_parts c.of_parts.result m (is_master m) c.of_parts.ensures.ok c.of_parts.ensures.taken c.of_parts.ensures.refused c.of_parts.ensures.only)
