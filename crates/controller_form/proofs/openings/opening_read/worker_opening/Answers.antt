use Rattle.std.proofs.Common.{◌≡◌, ◌∙◌, inr, ℕ, Bool, true, false, not, List, Option, Some, None, Result, Ok, Err, refl, sym, ap}
use Rattle.std.specs.Prelude.{codes}
use Rattle.std.specs.Option.{option_and_then, option_map, option_map_or}
use Rattle.std.specs.Str.{bytes_eq}
use Rattle.std.proofs.lemmas.Slice.Eq.{bytes_eq-Decides}
use Rattle.serde_json.specs.Data.{Data}
use Rattle.serde_json.specs.Find.{as_str, get}
use Rattle.ticket_items.specs.FirstFault.{unless}
use Rattle.ticket_items.specs.Names.{is_name}
use Rattle.ticket_items.specs.declared.refusal.Refusal.{Refusal}
use Rattle.ticket_items.specs.declared.refusal.Refusal.TheVariants.{NotProfile, SameName}
use Rattle.json_items.proofs.Faults.{two_together}
use Rattle.json_items.specs.Validation.{Finds, checked_value, first_fault, on_both}
use Rattle.json_items.specs.Members.{two_form}
use Rattle.json_source.specs.Read.{◌>>=◌, has_only, some_if}
use Rattle.controller_form.specs.Openings.OpeningForm.{RawWorker, worker_fault, worker_form, worker_has_names, worker_in, worker_late_fault, worker_members, worker_read}
use Rattle.controller_form.specs.declared.openings.opening.Opening.{Opening}
use Rattle.controller_form.specs.declared.openings.opening.Opening.TheVariants.{Worker}
use Rattle.controller_form.proofs.Refusing.{handed_on, parts_refused, parts_taken, unread}
use Rattle.controller_form.proofs.openings.opening_read.worker_opening.Goals as goal

abbrev make : List ℕ × List ℕ → RawWorker
make p = record { name = p.0; master = p.1 }

abbrev fault : List ℕ × List ℕ → Option Refusal
fault = first_fault (on_both is_name is_name) (on_both (λ _. true) (λ _. true))

abbrev two : Data → Option (List ℕ × List ℕ)
two = two_form (codes "Worker") as_str (codes "Master") as_str

in_parts : (d : Data) → some_if (has_only worker_members d) ≡ Some tt → worker_form d ≡ option_map make (two d)
unfolding worker_form
in_parts d only = two_together (λ name master. make (name, master)) (some_if (has_only worker_members d)) (option_and_then as_str (get (codes "Worker") d)) (option_and_then as_str (get (codes "Master") d)) only

same_fault : (p : List ℕ × List ℕ) → first_fault worker_has_names (λ _. true) (make p) ≡ fault p
same_fault p = refl

apart : (name master : List ℕ) (b : Bool) → bytes_eq name master ≡ b → (name ≡ master → ⊥) → b ≡ false
apart name master true is other = absurd (other ((bytes_eq-Decides name master).0 is))
apart name master false is other = refl

abbrev judged : Option RawWorker → Result Opening Refusal
judged draft = option_map_or (λ w. checked_value (worker_fault w) (worker_in w)) draft (Err NotProfile)

no_members : (d : Data) → some_if (has_only worker_members d) ≡ None → worker_form d ≡ None
unfolding worker_form
no_members d none = ap (λ o. o >>= λ _. option_and_then as_str (get (codes "Worker") d) >>= λ name. option_and_then as_str (get (codes "Master") d) >>= λ master. Some (make (name, master))) none

pub returns-in_err-check_members : goal.returns-in_err-check_members
returns-in_err-check_members g c =
    let d = g.S.Source.content c.args.value.now in
    handed_on c.from_residual.result c.in_err-check_members.field-0.0 (worker_read d) c.from_residual.ensures.1
    (unread c.in_err-check_members.field-0.0 (some_if (has_only worker_members d)) (worker_read d) (λ none. ap judged (no_members d none)) c.in_err-check_members.ensures.read)

pub returns-in_err-find_two : goal.returns-in_err-find_two
returns-in_err-find_two g c =
    let d = g.S.Source.content c.args.value.now in
    handed_on c.from_residual-in_err-find_two.result c.in_err-find_two.field-0.0 (worker_read d) c.from_residual-in_err-find_two.ensures.1
    (unread c.in_err-find_two.field-0.0 (two d) (worker_read d) (λ none. ap judged (in_parts d c.in_ok-check_members.ensures.read ∙ ap (option_map make) none)) c.in_err-find_two.ensures)

pub returns-in_err-name : goal.returns-in_err-name
returns-in_err-name g c =
    let d = g.S.Source.content c.args.value.now in
    handed_on c.from_residual-in_err-name.result c.in_err-name.field-0.0 (worker_read d) c.from_residual-in_err-name.ensures.1
    (inr (parts_refused fault make worker_has_names (λ _. true) worker_late_fault worker_in (two d) (worker_form d) c.in_ok-find_two.field-0 c.in_err-name.field-0.0 (in_parts d c.in_ok-check_members.ensures.read) same_fault c.in_err-name.was c.in_ok-find_two.ensures))

-- the names are valid, and are asked to be two
taken : (d : Data) (found : Result (List ℕ × List ℕ) Refusal) (name master : List ℕ) → some_if (has_only worker_members d) ≡ Some tt → found ≡ Ok (name, master) → Finds fault found (two d) → worker_read d ≡ checked_value (unless (not (bytes_eq name master)) SameName) (worker_in (make (name, master)))
taken d found name master only is finds =
    parts_taken fault make worker_has_names (λ _. true) worker_late_fault worker_in (two d) (worker_form d) found (name, master) (in_parts d only) same_fault is finds

pub returns-in_err-worker : goal.returns-in_err-worker
returns-in_err-worker g c =
    let d = g.S.Source.content c.args.value.now in
    let name = c.in_ok-name.name in
    let master = c.in_ok-name.master in
    let same = c.in_err-worker.ensures.only in
    let one = (bytes_eq-Decides name master).1 (c.in_err-worker.ensures.refused.0 (ap Err same)) in
    handed_on c.from_residual-in_err-worker.result c.in_err-worker.field-0.0 (worker_read d) c.from_residual-in_err-worker.ensures.1
    (inr (taken d c.in_ok-find_two.field-0 name master c.in_ok-check_members.ensures.read c.in_ok-name.was c.in_ok-find_two.ensures ∙ ap (λ b. checked_value (unless (not b) SameName) (worker_in (make (name, master)))) one ∙ ap Err (sym same)))

pub returns : goal.returns
returns g c =
    let d = g.S.Source.content c.args.value.now in
    let name = c.in_ok-name.name in
    let master = c.in_ok-name.master in
    let two = apart name master (bytes_eq name master) refl (λ same. cc (c.in_ok-worker.ensures.refused.1 same)) in
    taken d c.in_ok-find_two.field-0 name master c.in_ok-check_members.ensures.read c.in_ok-name.was c.in_ok-find_two.ensures
    ∙ ap (λ b. checked_value (unless (not b) SameName) (worker_in (make (name, master)))) two ∙ ap (λ w. Ok (Worker w)) (sym c.in_ok-worker.ensures.ok)
