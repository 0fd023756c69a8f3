-- A worker of which all holds that always does passes the test of what is stored.
use Rattle.std.proofs.Common.{◌≡◌, ◌&&◌, ◌||◌, ℕ, Bool, true, false, not, List, [], ◌∷◌, ◌++◌, Option, Some, None, IfSome, is_some, take, drop, get_or, ◌+◌, ◌<◌, length, refl, sym, ap, eq-eqb, ◌∙◌, ◌==◌}
use Rattle.std.specs.Option.{option_map_or}
use Rattle.std.proofs.lemmas.Bool.{and_from, and_parts, and_right, eqb-true, not_from_false, true≢false}
use Rattle.std.proofs.lemmas.List.{drop_more, map-append, map_push, take-append-drop, take_more}
use Rattle.std.proofs.lemmas.List.Elements.{All-head, All-tail}
use Rattle.std.proofs.lemmas.List.Folds.{list_any-append}
use Rattle.std.specs.List.{All, list_all}
use Rattle.std.specs.Str.{bytes_eq}
use Rattle.ticket_items.proofs.Apart.{or_true}
use Rattle.ticket_tree.specs.Part.{PartCopy, is_sound}
use Rattle.worker_core.proofs.Kept.{number_of}
use Rattle.worker_core.specs.Numbers.{are_distinct_numbers, has_number}
use Rattle.worker_core.specs.Stored.{AKeptWorkerIsStored, is_entry, is_part_of}
use Rattle.worker_core.specs.Worker.{IsKeptEntry, IsKeptPart, has_ended_so, keeps_part, numbers}
use Rattle.worker_core.specs.declared.entry.Entry.{Entry}

-- ---- entries

part_passes : (e : Entry) (p : PartCopy) → IsKeptPart e p → is_part_of e p ≡ true
part_passes e p kept =
    and_from ((p.spawn_id == e.spawn_id) && is_sound p) (has_ended_so e.phase p) (and_from (p.spawn_id == e.spawn_id) (is_sound p) (eq-eqb p.spawn_id e.spawn_id kept.own) kept.sound) kept.ended

held_passes : (o : Option PartCopy) (e : Entry) → is_some o ≡ keeps_part e.phase → IfSome o (IsKeptPart e) → option_map_or (λ p. keeps_part e.phase && is_part_of e p) o (not (keeps_part e.phase)) ≡ true
held_passes None e held kept = sym (ap not held)
held_passes (Some p) e held kept = and_from (keeps_part e.phase) (is_part_of e p) (sym held) (part_passes e p kept)

entry_passes : (e : Entry) → IsKeptEntry e → is_entry e ≡ true
entry_passes e kept = held_passes e.part e kept.held kept.part

entries_pass : (entries : List Entry) → All IsKeptEntry entries → list_all is_entry entries ≡ true
entries_pass [] kept = refl
entries_pass (e ∷ entries) kept =
    and_from (is_entry e) (list_all is_entry entries) (entry_passes e (All-head IsKeptEntry e entries kept)) (entries_pass entries (All-tail IsKeptEntry e entries kept))

-- ---- one entry more

pub front_more : (entries : List Entry) (i : ℕ) (e : Entry) → i < length entries → e ≡ get_or entries i e → take (i + 1) entries ≡ take i entries ++ e ∷ []
front_more entries i e within is = take_more entries i e within ∙ ap (λ x. take i entries ++ x ∷ []) (sym is)

pub passes_more : (entries : List Entry) (e : Entry) → list_all is_entry entries ≡ true → is_entry e ≡ true → list_all is_entry (entries ++ e ∷ []) ≡ true
passes_more [] e all own = and_from (is_entry e) true own refl
passes_more (x ∷ entries) e all own =
    let parts = and_parts (is_entry x) (list_all is_entry entries) all in
    and_from (is_entry x) (list_all is_entry (entries ++ e ∷ [])) parts.0 (passes_more entries e parts.1 own)

-- ---- numbers

same_number : (n : ℕ) → (n == n) ≡ true
same_number n = eq-eqb n n refl

pub numbers_more : (entries : List Entry) (e : Entry) → numbers (entries ++ e ∷ []) ≡ numbers entries ++ e.spawn_id ∷ []
numbers_more entries e = map_push number_of entries e

twice_at : (b : Bool) (ns : List ℕ) (n m : ℕ) (ms : List ℕ) → (m == n) ≡ b → (has_number n ns ≡ true → are_distinct_numbers (ns ++ n ∷ ms) ≡ false) → (b || has_number n ns) ≡ true → are_distinct_numbers (m ∷ ns ++ n ∷ ms) ≡ false
twice_at true ns n m ms e later h =
    let there : has_number m (ns ++ n ∷ ms) ≡ true =
    list_any-append (λ k. k == m) ns (n ∷ ms) ∙ ap (λ k. has_number m ns || ((k == m) || has_number m ms)) (sym (eqb-true m n e)) ∙ ap (λ b. has_number m ns || (b || has_number m ms)) (same_number m) ∙ or_true (has_number m ns) in
    ap (λ b. not b && are_distinct_numbers (ns ++ n ∷ ms)) there
twice_at false ns n m ms e later h = and_right (not (has_number m (ns ++ n ∷ ms))) (are_distinct_numbers (ns ++ n ∷ ms)) (later h)

-- a number that stands before itself
pub distinct_twice : (ns : List ℕ) (n : ℕ) (ms : List ℕ) → has_number n ns ≡ true → are_distinct_numbers (ns ++ n ∷ ms) ≡ false
distinct_twice [] n ms h = absurd (true≢false (sym h))
distinct_twice (m ∷ ns) n ms h = twice_at (m == n) ns n m ms refl (distinct_twice ns n ms) h

-- entries of one spawn
pub entries_twice : (entries : List Entry) (i : ℕ) (e : Entry) → i < length entries → e ≡ get_or entries i e → has_number e.spawn_id (numbers (take i entries)) ≡ true → are_distinct_numbers (numbers entries) ≡ false
entries_twice entries i e within is there =
    let whole : entries ≡ take i entries ++ e ∷ drop (i + 1) entries = sym (take-append-drop i entries) ∙ ap (λ es. take i entries ++ es) (drop_more entries i e within ∙ ap (λ x. x ∷ drop (i + 1) entries) (sym is)) in
    ap (λ es. are_distinct_numbers (numbers es)) whole ∙ ap are_distinct_numbers (map-append number_of (take i entries) (e ∷ drop (i + 1) entries)) ∙ distinct_twice (numbers (take i entries)) e.spawn_id (numbers (drop (i + 1) entries)) there

-- ---- the whole

pub a_kept_worker_is_stored : AKeptWorkerIsStored
a_kept_worker_is_stored w kept =
    and_from (not (bytes_eq w.name w.master) && are_distinct_numbers (numbers w.entries)) (list_all is_entry w.entries)
    (and_from (not (bytes_eq w.name w.master)) (are_distinct_numbers (numbers w.entries)) (not_from_false (bytes_eq w.name w.master) kept.apart) kept.once)
    (entries_pass w.entries kept.each)
