-- What a reader answers, without what it reads.
use Rattle.std.proofs.Common.{ℕ, List, Result, Ok, ap, inl, inr, ⊎_elim}
use Rattle.serde_json.specs.Data.{Data}
use Rattle.ticket_items.specs.declared.refusal.Refusal.{Refusal}
use Rattle.json_profile.specs.ReadAs.{IsReadAs, IsRefusalOf}
use Rattle.document_commands.specs.CheckCommand.Readers.{bare_answer}

-- bytes that are read are read where what was read is let go
pub bare_read : {A : Type 0} (reads : Data → Result A Refusal) (bytes : List ℕ) (x : A) → IsReadAs reads bytes (Ok x) → IsReadAs (λ d. bare_answer (reads d)) bytes (Ok tt)
bare_read reads bytes x r = record { value = r.value; utf8 = r.utf8; json = r.json; form = ap bare_answer r.form }

-- and refused for the same
pub bare_refused : {A : Type 0} (reads : Data → Result A Refusal) (bytes : List ℕ) (e : Refusal) → IsRefusalOf reads bytes e → IsRefusalOf (λ d. bare_answer (reads d)) bytes e
bare_refused reads bytes e why =
    ⊎_elim (λ none. inl none)
    (⊎_elim (λ r. inr (inl (record { value = r.value; utf8 = r.utf8; json = r.json; form = ap bare_answer r.form }))) (λ memory. inr (inr memory))) why

pub ruleset bared = (bare_read, bare_refused)
