-- Edits done in turn.
use Rattle.std.proofs.Common.{◌≡◌, ℕ, ◌+◌, ◌<◌, ◌≤◌, ◌||◌, Bool, true, false, List, [], ◌∷◌, ◌++◌}
use Rattle.std.proofs.Common.{length, get_or, drop, Option, Some, is_some, refl, sym, ap, ◌∙◌}
use Rattle.std.proofs.Common.{append_assoc, append-nil, subst, ⊎_elim}
use Rattle.std.proofs.lemmas.List.{drop_more, drop_all}
use Rattle.std.proofs.lemmas.List.Folds.{list_any-append}
use Rattle.ticket_rows.specs.Ticket.{Job}
use Rattle.ticket_items.specs.declared.edit.Edit.{Edit}
use Rattle.ticket_items.specs.declared.refusal.Refusal.{Refusal}
use Rattle.ticket_rows.specs.Edit.{refusal_of}
use Rattle.ticket_items.specs.declared.refusal.Refusal.TheVariants.{Memory}
use Rattle.document_commands.specs.declared.edit_command.document.Document.{Document}
use Rattle.document_commands.specs.EditCommand.Run.{Runs, IsRun, IsRunOf, IsOutcome, NoneOutOfMemory, after}
use Rattle.document_commands.specs.EditCommand.Run.{edit_line, lines, has_refusal, outcomes_of, end_of, output_of}
use Rattle.streams.specs.Ends.{done_status}
use Rattle.document_commands.specs.EditCommand.Run.{status_of, ticket_text}

-- the edits before a place have outcomes; whatever the others do, all do that behind these
pub record IsRunSoFar (start : Job) (at : ℕ) (edits : List Edit) (i : ℕ) (now : Job)
    (old new : List ℕ) (refused : Bool) : Type 0 where
  pub outcomes : List (Option Refusal)
  pub rest : (more : List (Option Refusal)) (end : Job) → Runs now at (drop i edits) more end → Runs start at edits (outcomes ++ more) end
  pub text : new ≡ old ++ lines outcomes
  pub status : refused ≡ has_refusal outcomes

lines-push : (outcomes : List (Option Refusal)) (o : Option Refusal)
    → lines (outcomes ++ o ∷ []) ≡ lines outcomes ++ edit_line o
lines-push [] o = append-nil (edit_line o)
lines-push (p ∷ outcomes) o = ap (λ xs. edit_line p ++ xs) (lines-push outcomes o) ∙ sym (append_assoc (edit_line p) (lines outcomes) (edit_line o))

or_none : (a : Bool) → (a || false) ≡ a
or_none true = refl
or_none false = refl

pub run_more : (start : Job) (at : ℕ) (edits : List Edit) (i : ℕ) (e : Edit)
    (o : Option Refusal) (before now : Job) (first old new : List ℕ) (refused later : Bool)
    → IsRunSoFar start at edits i before first old refused
    → i < length edits → e ≡ get_or edits i e → IsOutcome e before o
    → now ≡ after o e at before → new ≡ old ++ edit_line o → later ≡ (refused || is_some o)
    → IsRunSoFar start at edits (i + 1) now first new later
run_more start at edits i e o before now first old new refused later so_far within is outcome moved wrote told =
    let cut : drop i edits ≡ e ∷ drop (i + 1) edits = drop_more edits i e within ∙ ap (λ x. x ∷ drop (i + 1) edits) (sym is) in
    record {
      outcomes = so_far.outcomes ++ o ∷ [];
      rest = λ more end h.
          let step : Runs before at (e ∷ drop (i + 1) edits) (o ∷ more) end = (outcome, subst (λ t. Runs t at (drop (i + 1) edits) more end) moved h) in
          subst (λ os. Runs start at edits os end) (sym (append_assoc so_far.outcomes (o ∷ []) more)) (so_far.rest (o ∷ more) end (subst (λ es. Runs before at es (o ∷ more) end) (sym cut) step));
      text = wrote ∙ ap (λ xs. xs ++ edit_line o) so_far.text ∙ append_assoc first (lines so_far.outcomes) (edit_line o) ∙ ap (λ xs. first ++ xs) (sym (lines-push so_far.outcomes o));
      status = told ∙ ap (λ b. b || is_some o) so_far.status ∙ ap (λ b. has_refusal so_far.outcomes || b) (sym (or_none (is_some o))) ∙ sym (list_any-append is_some so_far.outcomes (o ∷ []));
    }

pub run_all : (start : Job) (at : ℕ) (edits : List Edit) (i : ℕ) (now : Job) (old new : List ℕ)
    (refused : Bool)
    → IsRunSoFar start at edits i now old new refused → length edits ≤ i
    → IsRun start at edits old new now refused
run_all start at edits i now old new refused so_far past =
    let none : drop i edits ≡ [] = drop_all i edits past in
    record {
      outcomes = so_far.outcomes;
      runs = subst (λ os. Runs start at edits os now) (append-nil so_far.outcomes) (so_far.rest [] now (subst (λ es. Runs now at es [] now) (sym none) refl));
      text = so_far.text;
      status = so_far.status;
    }

-- ---- where memory never runs out

as_refused : (e : Edit) (t : Job) (o : Option Refusal) → (o ≡ Some Memory → ⊥) → IsOutcome e t o
    → o ≡ refusal_of e t.rows
as_refused e t o free outcome = ⊎_elim (λ same. same) (λ memory. absurd (free memory.0)) outcome

one_outcome : (t : Job) (at : ℕ) (edits : List Edit) (outcomes : List (Option Refusal)) (end : Job)
    → Runs t at edits outcomes end → NoneOutOfMemory outcomes
    → (outcomes ≡ outcomes_of t at edits) × (end ≡ end_of t at edits)
one_outcome t at [] [] end runs free = (refl, sym runs)
one_outcome t at [] (o ∷ outcomes) end runs free = absurd runs
one_outcome t at (e ∷ edits) [] end runs free = absurd runs
one_outcome t at (e ∷ edits) (o ∷ outcomes) end runs free =
    let same : o ≡ refusal_of e t.rows = as_refused e t o free.0 runs.0 in
    let later = one_outcome (after o e at t) at edits outcomes end runs.1 free.1 in
    (ap (λ x. x ∷ outcomes) same ∙ ap (λ xs. refusal_of e t.rows ∷ xs) (later.0 ∙ ap (λ x. outcomes_of (after x e at t) at edits) same), later.1 ∙ ap (λ x. end_of (after x e at t) at edits) same)

pub one_output : (document : Document) (text : List ℕ) (refused : Bool)
    (run : IsRunOf document text refused)
    → NoneOutOfMemory run.outcomes
    → (text ≡ output_of document) × (done_status refused ≡ status_of document)
one_output document text refused run free =
    let same = one_outcome document.ticket document.at document.edits run.outcomes run.end run.runs free in (
      run.written ∙ ap (λ os. lines os ++ ticket_text run.end) same.0 ∙ ap (λ t. lines (outcomes_of document.ticket document.at document.edits) ++ ticket_text t) same.1,
      ap done_status (run.status ∙ ap has_refusal same.0),
    )
