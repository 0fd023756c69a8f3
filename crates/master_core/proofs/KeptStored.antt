-- A master of which all holds that always does passes the test of what is stored, and one that passes it is so.
use Rattle.std.proofs.Common.{◌≡◌, ℕ, zero, suc, ◌+◌, ◌==◌, ◌&&◌, Bool, true, List, [], ◌∷◌, Option, Some, None, IfSome, Result, Ok, Err, IfOk, is_some, slice_get, refl, sym, ap, arith, eq-eqb}
use Rattle.std.proofs.lemmas.Bool.{and_from, and_parts, eqb-true}
use Rattle.std.proofs.lemmas.List.Elements.{All-cons, All-head, All-tail}
use Rattle.std.specs.List.{All, list_all}
use Rattle.std.specs.Option.{option_map_or}
use Rattle.ticket_items.specs.Ids.{are_distinct, mem}
use Rattle.ticket_rows.specs.Place.{places}
use Rattle.ticket_rows.specs.Ticket.{IsValid}
use Rattle.spawn.proofs.HeldOnce.{standing_is_a_test}
use Rattle.spawn.specs.Holdings.{Holdings, IsTable}
use Rattle.spawn.specs.Stored.{are_apart, are_good, stands_in}
use Rattle.spawn.specs.declared.records.spawn_rec.SpawnRec.{SpawnRec}
use Rattle.master_core.specs.Master.{IsConsistent, IsInStep, IsNumbered, State}
use Rattle.master_core.specs.Stored.{AKeptMasterIsStored, are_numbered, are_recorded, are_sent, is_master}

-- ---- what holds of each

each_passes : (f : SpawnRec → Bool) (records : List SpawnRec) → All (λ r. f r ≡ true) records → list_all f records ≡ true
each_passes f [] all = refl
each_passes f (r ∷ records) all = and_from (f r) (list_all f records) (All-head (λ q. f q ≡ true) r records all) (each_passes f records (All-tail (λ q. f q ≡ true) r records all))

each_from : (f : SpawnRec → Bool) (records : List SpawnRec) → list_all f records ≡ true → All (λ r. f r ≡ true) records
each_from f [] passes = λ k d within. absurd (omega (arith, within))
each_from f (r ∷ records) passes =
    let parts = and_parts (f r) (list_all f records) passes in
    All-cons (λ q. f q ≡ true) r records parts.0 (each_from f records parts.1)

-- ---- numbers

same_some : (x y : SpawnRec) → Some x ≡ Some y → x ≡ y
same_some x y e = ap (λ o. option_map_or (λ z. z) o x) e

numbered_passes : (n : ℕ) (records : List SpawnRec) → ((k : ℕ) (r : SpawnRec) → slice_get records k ≡ Some r → r.id ≡ n + k) → are_numbered n records ≡ true
numbered_passes n [] numbered = refl
numbered_passes n (r ∷ records) numbered =
    let own : r.id ≡ n = omega (arith, numbered 0 r refl) in
    and_from (r.id == n) (are_numbered (suc n) records) (eq-eqb r.id n own) (numbered_passes (suc n) records (λ k q at. omega (arith, numbered (suc k) q at)))

numbered_from : (n : ℕ) (records : List SpawnRec) → are_numbered n records ≡ true → (k : ℕ) (r : SpawnRec) → slice_get records k ≡ Some r → r.id ≡ n + k
numbered_from n [] passes k r at = cc
numbered_from n (q ∷ records) passes zero r at =
    let own : q.id ≡ n = eqb-true q.id n (and_parts (q.id == n) (are_numbered (suc n) records) passes).0 in
    let same : q.id ≡ r.id = ap (λ (s : SpawnRec). s.id) (same_some q r at) in
    omega arith
numbered_from n (q ∷ records) passes (suc k) r at =
    let later : r.id ≡ suc n + k = numbered_from (suc n) records (and_parts (q.id == n) (are_numbered (suc n) records) passes).1 k r at in
    omega arith

is_numbered : (records : List SpawnRec) → are_numbered 1 records ≡ true → IsNumbered records
is_numbered records passes k r at = omega (arith, numbered_from 1 records passes k r at)

-- ---- the whole

pub kept_from : (w : State) → IsValid w.ticket.rows → is_master w ≡ true → IsConsistent w
kept_from w valid passes =
    let names = are_distinct (w.name ∷ w.workers) in
    let numbered = are_numbered 1 w.records in
    let sent = are_sent w.workers w.records in
    let recorded = are_recorded w.ticket w.records in
    let last = and_parts (names && numbered && sent) recorded passes in
    let third = and_parts (names && numbered) sent last.0 in
    let first = and_parts names numbered third.0 in
    let stand = list_all (stands_in w.ticket.rows) w.records in
    let good = are_good w.ticket.rows w.records in
    let apart = are_apart (places w.ticket.rows) w.records in
    let two = and_parts (stand && good) apart last.1 in
    let one = and_parts stand good two.0 in
    record {
      names = first.0;
      valid = valid;
      numbered = is_numbered w.records first.1;
      sent = each_from (λ r. mem r.worker w.workers) w.records third.1;
      recorded = each_from (stands_in w.ticket.rows) w.records one.0;
      apart = (standing_is_a_test w.ticket.rows w.records valid).0 (and_from good apart one.1 two.1);
    }

pub a_kept_master_is_stored : AKeptMasterIsStored
a_kept_master_is_stored w kept =
    let names = are_distinct (w.name ∷ w.workers) in
    let numbered = are_numbered 1 w.records in
    let sent = are_sent w.workers w.records in
    let recorded = are_recorded w.ticket w.records in
    let stand = list_all (stands_in w.ticket.rows) w.records in
    let good = are_good w.ticket.rows w.records in
    let apart = are_apart (places w.ticket.rows) w.records in
    let both = and_parts good apart ((standing_is_a_test w.ticket.rows w.records kept.valid).1 kept.apart) in
    let numbers : numbered ≡ true = numbered_passes 1 w.records (λ k r at. omega (arith, kept.numbered k r at)) in
    and_from (names && numbered && sent) recorded
    (and_from (names && numbered) sent (and_from names numbered kept.names numbers) (each_passes (λ r. mem r.worker w.workers) w.records kept.sent))
    (and_from (stand && good) apart (and_from stand good (each_passes (stands_in w.ticket.rows) w.records kept.recorded) both.0) both.1)

-- where the other tests pass, that of the records decides
pub kept_by : {E : Type 0} (result : Result (Option Holdings) E) (w : State)
    → IfOk result (λ found. IfSome found (λ _. IsValid w.ticket.rows))
    → IfOk result (λ found. IfSome found (λ h. IsTable w.ticket.rows w.records h))
    → are_distinct (w.name ∷ w.workers) ≡ true → are_numbered 1 w.records ≡ true
    → are_sent w.workers w.records ≡ true
    → IfOk result (λ found. is_some found ≡ are_recorded w.ticket w.records)
    → IfOk result (λ found. IfSome found (λ h. IsInStep w h))
kept_by (Err e) w valid table names numbered sent told = tt
kept_by (Ok None) w valid table names numbered sent told = tt
kept_by (Ok (Some h)) w valid table names numbered sent told =
    let one = are_distinct (w.name ∷ w.workers) in
    let two = are_numbered 1 w.records in
    let three = are_sent w.workers w.records in
    record {
      kept = kept_from w valid (and_from (one && two && three) (are_recorded w.ticket w.records) (and_from (one && two) three (and_from one two names numbered) sent) (sym told));
      table = table;
    }

-- what holds in any case holds of what was found
pub if_found : {E P : Type 0} (result : Result (Option Holdings) E) → P
    → IfOk result (λ found. IfSome found (λ _. P))
if_found (Err e) p = tt
if_found (Ok None) p = tt
if_found (Ok (Some h)) p = p
