-- An entry once its part has come back: what it was, but for the part of one that was done. And one that is to be given up.
use Rattle.std.proofs.Common.{◌≡◌, ℕ, List, Option, Some, None, Ok, refl, ap, sym, ◌∙◌, cond, Bool, true, false}
use Rattle.std.specs.Option.{option_map, option_map_or}
use Rattle.controller.specs.declared.queue_status.QueueStatus.TheVariants as queue
use Rattle.worker_core.proofs.AtNumber.{find-at_number, find-other, turned}
use Rattle.std.proofs.lemmas.Bool.{eqb-true, true≢false}
use Rattle.std.specs.Prelude.{◌==◌, ◌&&◌}
use Rattle.worker_core.specs.Messages.{aborted_entry}
use Rattle.worker_core.specs.Orders.{finished_entry}
use Rattle.worker_core.specs.Worker.{IsKeptEntry, closed_entry, closed_entry_in, entry_of, is_closed, is_closed_stage, is_declined, is_declined_stage, is_ended, is_ended_stage, is_open, is_open_stage, keeps_part, response_in, response_of_stage, with_entry}
use Rattle.world_items.specs.declared.end.End.TheVariants.{Aborted}
use Rattle.worker_core.specs.declared.entry.Entry.{Entry}
use Rattle.worker_core.specs.declared.stage.Stage.{Stage}
use Rattle.worker_core.specs.declared.stage.Stage.TheVariants.{Open, Done, Closed, Declined}

-- ---- one entry

number_in : (stage : Stage) (e : Entry) → (closed_entry_in stage e).spawn_id ≡ e.spawn_id
number_in Open e = refl
number_in (Done how) e = refl
number_in (Closed how) e = refl
number_in Declined e = refl

pub closed_number : (e : Entry) → (closed_entry e).spawn_id ≡ e.spawn_id
closed_number e = number_in e.phase e

open_in : (stage : Stage) (e : Entry) → e.phase ≡ stage → is_open (closed_entry_in stage e) ≡ is_open e
open_in Open e is = refl
open_in (Done how) e is = sym (ap is_open_stage is)
open_in (Closed how) e is = refl
open_in Declined e is = refl

pub closed_open : (e : Entry) → is_open (closed_entry e) ≡ is_open e
closed_open e = open_in e.phase e refl

told_of_in : (stage : Stage) (e : Entry) → e.phase ≡ stage → response_of_stage (closed_entry_in stage e).phase ≡ response_of_stage e.phase
told_of_in Open e is = refl
told_of_in (Done how) e is = sym (ap response_of_stage is)
told_of_in (Closed how) e is = refl
told_of_in Declined e is = refl

kept_in : (stage : Stage) (e : Entry) → IsKeptEntry e → IsKeptEntry (closed_entry_in stage e)
kept_in Open e kept = kept
kept_in (Done how) e kept = record { held = refl; part = tt }
kept_in (Closed how) e kept = kept
kept_in Declined e kept = kept

pub closed_kept : (e : Entry) → IsKeptEntry e → IsKeptEntry (closed_entry e)
closed_kept e kept = kept_in e.phase e kept

pub closed_told : (e : Entry) → response_of_stage (closed_entry e).phase ≡ response_of_stage e.phase
closed_told e = told_of_in e.phase e refl

ended_in : (stage : Stage) (e : Entry) → e.phase ≡ stage → is_ended (closed_entry_in stage e) ≡ is_ended e
ended_in Open e is = refl
ended_in (Done how) e is = sym (ap is_ended_stage is)
ended_in (Closed how) e is = refl
ended_in Declined e is = refl

pub closed_ended : (e : Entry) → is_ended (closed_entry e) ≡ is_ended e
closed_ended e = ended_in e.phase e refl

declined_in : (stage : Stage) (e : Entry) → is_declined_stage stage ≡ true → closed_entry_in stage e ≡ e
declined_in Open e is = refl
declined_in (Done how) e is = absurd (true≢false (sym is))
declined_in (Closed how) e is = refl
declined_in Declined e is = refl

-- one that was declined stays as it is
pub closed_declined : (e : Entry) → is_declined e ≡ true → closed_entry e ≡ e
closed_declined e is = declined_in e.phase e is

ended_stage : (stage : Stage) → is_open_stage stage ≡ false → is_declined_stage stage ≡ false → is_ended_stage stage ≡ true
ended_stage Open shut taken = absurd (true≢false shut)
ended_stage (Done how) shut taken = refl
ended_stage (Closed how) shut taken = refl
ended_stage Declined shut taken = absurd (true≢false taken)

-- the work has ended on one that is neither open nor declined
pub has_ended : (e : Entry) → is_open e ≡ false → is_declined e ≡ false → is_ended e ≡ true
has_ended e shut taken = ended_stage e.phase shut taken

shut_stage : (stage : Stage) → is_ended_stage stage ≡ true → (is_open_stage stage ≡ false) × (is_declined_stage stage ≡ false)
shut_stage Open ended = absurd (true≢false (sym ended))
shut_stage (Done how) ended = (refl, refl)
shut_stage (Closed how) ended = (refl, refl)
shut_stage Declined ended = absurd (true≢false (sym ended))

-- and one on which it has ended is neither
pub ended_shut : (e : Entry) → is_ended e ≡ true → (is_open e ≡ false) × (is_declined e ≡ false)
ended_shut e ended = shut_stage e.phase ended

kept_stage : (stage : Stage) → keeps_part stage ≡ true → is_closed_stage stage ≡ false
kept_stage Open keeps = refl
kept_stage (Done how) keeps = refl
kept_stage (Closed how) keeps = absurd (true≢false (sym keeps))
kept_stage Declined keeps = refl

-- one that keeps its part isn't closed
pub unclosed : (e : Entry) → keeps_part e.phase ≡ true → is_closed e ≡ false
unclosed e keeps = kept_stage e.phase keeps

done_stage : (stage : Stage) → is_open_stage stage ≡ false → is_closed_stage stage ≡ false → is_declined_stage stage ≡ false → keeps_part stage ≡ true
done_stage Open shut unclosed taken = refl
done_stage (Done how) shut unclosed taken = refl
done_stage (Closed how) shut unclosed taken = absurd (true≢false unclosed)
done_stage Declined shut unclosed taken = absurd (true≢false taken)

-- one that is done keeps it
pub keeps_done : (e : Entry) → is_open e ≡ false → is_closed e ≡ false → is_declined e ≡ false → keeps_part e.phase ≡ true
keeps_done e shut unclosed taken = done_stage e.phase shut unclosed taken

taken_stage : (stage : Stage) → is_open_stage stage ≡ true → is_declined_stage stage ≡ false
taken_stage Open open' = refl
taken_stage (Done how) open' = refl
taken_stage (Closed how) open' = refl
taken_stage Declined open' = absurd (true≢false (sym open'))

-- one that is open wasn't declined
pub open_taken : (e : Entry) → is_open e ≡ true → is_declined e ≡ false
open_taken e open' = taken_stage e.phase open'

-- ---- to be given up

number_if : (b : Bool) (at : ℕ) (e : Entry) → (cond b (finished_entry Aborted at e) e).spawn_id ≡ e.spawn_id
number_if true at e = refl
number_if false at e = refl

pub aborted_number : (at : ℕ) (e : Entry) → (aborted_entry at e).spawn_id ≡ e.spawn_id
aborted_number at e = number_if (is_open e) at e

declined_open : (stage : Stage) → is_declined_stage stage ≡ true → is_open_stage stage ≡ false
declined_open Open is = absurd (true≢false (sym is))
declined_open (Done how) is = refl
declined_open (Closed how) is = refl
declined_open Declined is = refl

pub declined_shut : (e : Entry) → is_declined e ≡ true → is_open e ≡ false
declined_shut e is = declined_open e.phase is

-- one that isn't open stays as it is
pub aborted_shut : (at : ℕ) (e : Entry) → is_open e ≡ false → aborted_entry at e ≡ e
aborted_shut at e shut = ap (λ b. cond b (finished_entry Aborted at e) e) shut

aborted_if : (b : Bool) (at : ℕ) (e : Entry) → is_open e ≡ b → is_open (cond b (finished_entry Aborted at e) e) ≡ false
aborted_if true at e open' = refl
aborted_if false at e open' = open'

-- none is open then
pub aborted_is_shut : (at : ℕ) (e : Entry) → is_open (aborted_entry at e) ≡ false
aborted_is_shut at e = aborted_if (is_open e) at e refl

-- ---- among entries

told_mapped : (found : Option Entry) → option_map_or (λ e. response_of_stage e.phase) (option_map closed_entry found) (Ok queue.Running) ≡ option_map_or (λ e. response_of_stage e.phase) found (Ok queue.Running)
told_mapped None = refl
told_mapped (Some e) = told_of_in e.phase e refl

-- what a command of it is told is what it was
pub told_closed : (s : ℕ) (entries : List Entry) → response_in (with_entry s closed_entry entries) s ≡ response_in entries s
told_closed s entries =
    ap (λ o. option_map_or (λ (e : Entry). response_of_stage e.phase) o (Ok queue.Running)) (find-at_number (λ (e : Entry). e.spawn_id) s closed_entry entries closed_number) ∙ told_mapped (entry_of entries s)

-- an entry is found as it was, or closed
pub found_closed : (ok same : Bool) (t : ℕ) (entries : List Entry) (s : ℕ) (e : Entry) → (t == s) ≡ same → entry_of entries s ≡ Some e → entry_of (cond ok (with_entry t closed_entry entries) entries) s ≡ Some (cond (same && ok) (closed_entry e) e)
found_closed false true t entries s e is here = here
found_closed false false t entries s e is here = here
found_closed true true t entries s e is here =
    let one : t ≡ s = eqb-true t s is in
    ap (entry_of (with_entry t closed_entry entries)) (sym one) ∙ find-at_number (λ (y : Entry). y.spawn_id) t closed_entry entries closed_number ∙ ap (option_map closed_entry) (ap (entry_of entries) one ∙ here)
found_closed true false t entries s e is here = find-other s t (λ (y : Entry). y.spawn_id) closed_entry entries (turned t s is) closed_number ∙ here

-- an entry is found as it was, or as it is once it is to be given up
pub found_aborted : (same : Bool) (t at : ℕ) (entries : List Entry) (s : ℕ) (e : Entry) → (t == s) ≡ same → entry_of entries s ≡ Some e → entry_of (with_entry t (aborted_entry at) entries) s ≡ Some (cond same (aborted_entry at e) e)
found_aborted true t at entries s e is here =
    let one : t ≡ s = eqb-true t s is in
    ap (entry_of (with_entry t (aborted_entry at) entries)) (sym one) ∙ find-at_number (λ (y : Entry). y.spawn_id) t (aborted_entry at) entries (aborted_number at) ∙ ap (option_map (aborted_entry at)) (ap (entry_of entries) one ∙ here)
found_aborted false t at entries s e is here = find-other s t (λ (y : Entry). y.spawn_id) (aborted_entry at) entries (turned t s is) (aborted_number at) ∙ here
