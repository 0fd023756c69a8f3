use Rattle.std.proofs.Common.{◌≡◌, ◌∙◌, ⊎_elim, inl, inr, ℕ, Bool, true, false, [], ◌∷◌, List, map, Option, Some, None, Result, Ok, refl, ap, subst, sym}
use Rattle.std.specs.Prelude.{codes}
use Rattle.std.specs.List.{list_all}
use Rattle.std.specs.Option.{option_and_then, option_map}
use Rattle.serde_json.specs.Data.{Data}
use Rattle.serde_json.specs.Find.{as_str, get}
use Rattle.ticket_items.specs.Names.{is_name}
use Rattle.ticket_items.specs.declared.refusal.Refusal.{Refusal}
use Rattle.ticket_items.specs.declared.refusal.Refusal.TheVariants.{BadState}
use Rattle.ticket_rows.specs.Ticket.{first_of, unless}
use Rattle.json_items.specs.Validation.{Answers, Finds, both_read, checked_value, first_fault, on_both}
use Rattle.json_items.specs.Listed.{list_form}
use Rattle.json_items.specs.Members.{two_form}
use Rattle.json_source.specs.Read.{◌>>=◌, has_only, some_if}
use Rattle.worker_core.specs.Stored.{is_worker}
use Rattle.worker_core.specs.Worker.{State, state}
use Rattle.controller_form.specs.States.EntryForm.{entry_form, entry_has_names, entry_has_texts, entry_in}
use Rattle.controller_form.specs.States.StateFormat.{controller_under, format_of, read_in_format}
use Rattle.controller_form.specs.States.WorkerForm.{StoredWorker, judged_worker, parts_fault, worker_built_fault, worker_form, worker_has_names, worker_has_texts, worker_in, worker_members, worker_state_read}
use Rattle.controller_form.specs.declared.states.format.Format.{Format}
use Rattle.controller_form.specs.declared.states.stored_entry.StoredEntry.{StoredEntry}
use Rattle.controller_form.proofs.Refusing.{handed_on, none_behind, of_parts, parts_refused, parts_taken, unread}
use Rattle.controller_form.proofs.Together.{three_together}
use Rattle.controller_form.proofs.states.worker_state.WorkerStateForm.state_of.Goals as goal

abbrev Parts : Type 0
Parts = (List ℕ × List ℕ) × List StoredEntry

abbrev make : Parts → StoredWorker
make p = record { name = p.0.0; master = p.0.1; entries = p.1 }

abbrev names : List ℕ × List ℕ → Bool
names = on_both is_name is_name

abbrev texts : List ℕ × List ℕ → Bool
texts = on_both (λ _. true) (λ _. true)

abbrev fault : Parts → Option Refusal
fault = first_fault (on_both names (list_all entry_has_names)) (on_both texts (list_all entry_has_texts))

abbrev two : Data → Option (List ℕ × List ℕ)
two = two_form (codes "Name") as_str (codes "Master") as_str

abbrev entries : Format → Data → Option (List StoredEntry)
entries format d = option_and_then (list_form (entry_form format)) (get (codes "Entries") d)

abbrev parts : Format → Data → Option Parts
parts format d = both_read (two d) (entries format d)

in_parts : (format : Format) (d : Data) → some_if (has_only worker_members d) ≡ Some tt → worker_form format d ≡ option_map make (parts format d)
unfolding worker_form
in_parts format d only =
    ap (λ o. o >>= λ _. option_and_then as_str (get (codes "Name") d) >>= λ name. option_and_then as_str (get (codes "Master") d) >>= λ master. entries format d >>= λ es. Some (make ((name, master), es))) only
    ∙ three_together (λ name master es. make ((name, master), es)) _ _ (entries format d)

same_fault : (p : Parts) → first_fault worker_has_names worker_has_texts (make p) ≡ fault p
same_fault p = refl

-- what is read of the controller in its format
reads_on : (d controller : Data) (format : Format) → Ok format ≡ format_of d → controller_under (codes "Worker") d ≡ Some controller → worker_state_read d ≡ judged_worker (worker_form format controller)
reads_on d controller format is under =
    ap (λ f. read_in_format f (λ w. judged_worker (option_and_then (worker_form w) (controller_under (codes "Worker") d)))) (sym is)
    ∙ ap (λ o. judged_worker (option_and_then (worker_form format) o)) under

no_members : (format : Format) (d : Data) → some_if (has_only worker_members d) ≡ None → worker_form format d ≡ None
unfolding worker_form
no_members format d none =
    ap (λ o. o >>= λ _. option_and_then as_str (get (codes "Name") d) >>= λ name. option_and_then as_str (get (codes "Master") d) >>= λ master. entries format d >>= λ es. Some (make ((name, master), es))) none

-- the parts are valid, and are asked to be a worker's
taken : (format : Format) (d : Data) (found : Result Parts Refusal) (p : Parts) → some_if (has_only worker_members d) ≡ Some tt → found ≡ Ok p → Finds fault found (parts format d)
    → judged_worker (worker_form format d) ≡ checked_value (worker_built_fault (make p)) (worker_in (make p))
taken format d found p only is finds =
    parts_taken fault make worker_has_names worker_has_texts worker_built_fault worker_in (parts format d) (worker_form format d) found p (in_parts format d only) same_fault is finds

one_left : (b : Bool) → first_of (unless b BadState ∷ []) ≡ unless b BadState
one_left true = refl
one_left false = refl

-- what is wrong with it, by what is wrong with its parts
abbrev with_fault : StoredWorker → Option Refusal → Result State Refusal
with_fault w f = checked_value (first_of (f ∷ unless (is_worker (worker_in w)) BadState ∷ [])) (worker_in w)

pub returns-in_err-check_members : goal.returns-in_err-check_members
returns-in_err-check_members g c =
    let d = g.S.Source.content c.args.value.now in
    let v = g.S.Source.content c.in_ok-controller.controller.now in
    let format = c.in_ok-format.format in
    let reads = reads_on d v format c.in_ok-format.ensures c.in_ok-controller.ensures.read in
    handed_on c.from_residual-in_err-check_members.result c.in_err-check_members.field-0.0 (worker_state_read d) c.from_residual-in_err-check_members.ensures.1
    (unread c.in_err-check_members.field-0.0 (some_if (has_only worker_members v)) (worker_state_read d) (λ none. reads ∙ ap judged_worker (no_members format v none)) c.in_err-check_members.ensures.read)

pub returns-in_err-names : goal.returns-in_err-names
returns-in_err-names g c =
    let d = g.S.Source.content c.args.value.now in
    let v = g.S.Source.content c.in_ok-controller.controller.now in
    let format = c.in_ok-format.format in
    let reads = reads_on d v format c.in_ok-format.ensures c.in_ok-controller.ensures.read in
    handed_on c.from_residual-in_err-names.result c.in_err-names.field-0.0 (worker_state_read d) c.from_residual-in_err-names.ensures.1
    (unread c.in_err-names.field-0.0 (two v) (worker_state_read d) (λ none. reads ∙ ap judged_worker (in_parts format v c.in_ok-check_members.ensures.read ∙ ap (λ o. option_map make (both_read o (entries format v))) none)) c.in_err-names.ensures)

pub returns-in_err-entries : goal.returns-in_err-entries
returns-in_err-entries g c =
    let d = g.S.Source.content c.args.value.now in
    let v = g.S.Source.content c.in_ok-controller.controller.now in
    let format = c.in_ok-format.format in
    let reads = reads_on d v format c.in_ok-format.ensures c.in_ok-controller.ensures.read in
    handed_on c.from_residual-in_err-entries.result c.in_err-entries.field-0.0 (worker_state_read d) c.from_residual-in_err-entries.ensures.1
    (unread c.in_err-entries.field-0.0 (entries format v) (worker_state_read d) (λ none. reads ∙ ap judged_worker (in_parts format v c.in_ok-check_members.ensures.read ∙ ap (option_map make) (none_behind (two v) (entries format v) none))) c.in_err-entries.ensures)

pub returns-in_err-name : goal.returns-in_err-name
returns-in_err-name g c =
    let d = g.S.Source.content c.args.value.now in
    let v = g.S.Source.content c.in_ok-controller.controller.now in
    let format = c.in_ok-format.format in
    let reads = reads_on d v format c.in_ok-format.ensures c.in_ok-controller.ensures.read in
    let finds = c.zip.ensures names texts (two v) (list_all entry_has_names) (list_all entry_has_texts) (entries format v) c.in_ok-names.ensures c.in_ok-entries.ensures in
    handed_on c.from_residual-in_err-name.result c.in_err-name.field-0.0 (worker_state_read d) c.from_residual-in_err-name.ensures.1
    (inr (reads ∙ parts_refused fault make worker_has_names worker_has_texts worker_built_fault worker_in (parts format v) (worker_form format v) c.zip.result c.in_err-name.field-0.0 (in_parts format v c.in_ok-check_members.ensures.read) same_fault c.in_err-name.was finds))

pub returns-in_err-entries-2 : goal.returns-in_err-entries-2
returns-in_err-entries-2 g c =
    let d = g.S.Source.content c.args.value.now in
    let v = g.S.Source.content c.in_ok-controller.controller.now in
    let format = c.in_ok-format.format in
    let reads = reads_on d v format c.in_ok-format.ensures c.in_ok-controller.ensures.read in
    let finds = c.zip.ensures names texts (two v) (list_all entry_has_names) (list_all entry_has_texts) (entries format v) c.in_ok-names.ensures c.in_ok-entries.ensures in
    let p : Parts = ((c.in_ok-name.name, c.in_ok-name.master), c.in_ok-name.entries) in
    handed_on c.from_residual-in_err-entries-2.result c.in_err-entries-2.field-0.0 (worker_state_read d) c.from_residual-in_err-entries-2.ensures.1
    (⊎_elim (λ memory. inl memory) (λ wrong. inr (reads ∙ taken format v c.zip.result p c.in_ok-check_members.ensures.read c.in_ok-name.was finds ∙ ap (with_fault (make p)) (ap parts_fault (sym c.into_vec.ensures) ∙ wrong))) c.in_err-entries-2.ensures.refused)

pub returns : goal.returns
returns g c =
    let d = g.S.Source.content c.args.value.now in
    let v = g.S.Source.content c.in_ok-controller.controller.now in
    let format = c.in_ok-format.format in
    let reads = reads_on d v format c.in_ok-format.ensures c.in_ok-controller.ensures.read in
    let finds = c.zip.ensures names texts (two v) (list_all entry_has_names) (list_all entry_has_texts) (entries format v) c.in_ok-names.ensures c.in_ok-entries.ensures in
    let p : Parts = ((c.in_ok-name.name, c.in_ok-name.master), c.in_ok-name.entries) in
    let w = state c.in_ok-name.name c.in_ok-name.master c.in_ok-entries-2.entries.items in
    let same : worker_in (make p) ≡ w = ap (state c.in_ok-name.name c.in_ok-name.master) (ap (map entry_in) (sym c.into_vec.ensures) ∙ sym c.in_ok-entries-2.ensures.ok) in
    subst (Answers c.of_parts.result)
    (sym (reads ∙ taken format v c.zip.result p c.in_ok-check_members.ensures.read c.in_ok-name.was finds
    ∙ ap (with_fault (make p)) (ap parts_fault (sym c.into_vec.ensures) ∙ c.in_ok-entries-2.ensures.sound)
    ∙ ap (λ f. checked_value f (worker_in (make p))) (one_left (is_worker (worker_in (make p))))
    ∙ ap (λ k. checked_value (unless (is_worker k) BadState) k) same))
    (of_parts c.of_parts.result w (is_worker w) c.of_parts.ensures.ok c.of_parts.ensures.taken c.of_parts.ensures.refused c.of_parts.ensures.only)
