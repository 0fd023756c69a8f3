-- What is found of a ticket, by what is found of its job and its nodes.
use Rattle.std.proofs.Common.{◌≡◌, ◌∙◌, Bool, true, List, ℕ, map, codes, Some, None, Result, Err, refl, ap, subst}
use Rattle.std.specs.List.{list_all}
use Rattle.std.specs.Prelude.{IsOkAnd, MatchResult}
use Rattle.serde_json.specs.Data.{Data}
use Rattle.ticket_items.specs.Names.{is_name}
use Rattle.ticket_items.specs.declared.node_row.NodeRow.{NodeRow}
use Rattle.ticket_items.specs.declared.refusal.Refusal.{Refusal}
use Rattle.json_items.specs.Validation.{Finds, first_fault, on_both}
use Rattle.json_items.specs.TicketDraft.{RawRow, RawTicket, are_bare, node_rows, raw_ticket, root_members, ticket_form}
use Rattle.json_items.specs.TicketForm.{has_names, has_texts, row_has_names, row_has_texts}
use Rattle.json_source.specs.Read.{◌>>=◌, text_under}
use Rattle.json_reader.proofs.Findings.{found_made}

abbrev names : List ℕ × List NodeRow → Bool
names = on_both is_name (list_all row_has_names)

abbrev texts : List ℕ × List NodeRow → Bool
texts = on_both (λ _. true) (list_all row_has_texts)

abbrev pub made : Bool → List ℕ × List NodeRow → RawTicket
made bare p = record { job = record { job_id = p.0; rows = p.1 }; bare = bare }

pub ticket_found : (name : List ℕ) (raws : List RawRow) (bare : Bool) (post : List ℕ × List NodeRow → RawTicket → Type 0) (r : Result (List ℕ × List NodeRow) Refusal) (t : Result RawTicket Refusal) → bare ≡ list_all (λ r. are_bare r.pool) raws
    → ((p : List ℕ × List NodeRow) (x : RawTicket) → post p x → x ≡ made bare p) → MatchResult r (λ p. IsOkAnd t (post p)) (λ e. t ≡ Err e) → Finds (first_fault names texts) r (Some (name, map (λ r. r.row) raws))
    → Finds (first_fault has_names has_texts) t (Some (raw_ticket name raws))
ticket_found name raws bare post r t shows makes is h =
    subst (λ b. Finds (first_fault has_names has_texts) t (Some (made b (name, map (λ r. r.row) raws)))) shows
    (found_made (first_fault names texts) (first_fault has_names has_texts) (made bare) post r t (name, map (λ r. r.row) raws) (λ p. refl) makes is h)

-- ---- from JSON data

pub no_job : (d : Data) → text_under (codes "JobID") d ≡ None → ticket_form d ≡ None
unfolding ticket_form
no_job d none = ap (λ o. o >>= λ job. node_rows root_members 1 d >>= λ rows. Some (raw_ticket job rows)) none

pub no_rows : (d : Data) (job : List ℕ) → text_under (codes "JobID") d ≡ Some job → node_rows root_members 1 d ≡ None → ticket_form d ≡ None
unfolding ticket_form
no_rows d job named none =
    ap (λ o. o >>= λ x. node_rows root_members 1 d >>= λ rows. Some (raw_ticket x rows)) named ∙ ap (λ o. o >>= λ rows. Some (raw_ticket job rows)) none

pub ticket_read : (d : Data) (job : List ℕ) (raws : List RawRow) → text_under (codes "JobID") d ≡ Some job → node_rows root_members 1 d ≡ Some raws → ticket_form d ≡ Some (raw_ticket job raws)
unfolding ticket_form
ticket_read d job raws named read =
    ap (λ o. o >>= λ x. node_rows root_members 1 d >>= λ rows. Some (raw_ticket x rows)) named ∙ ap (λ o. o >>= λ rows. Some (raw_ticket job rows)) read
