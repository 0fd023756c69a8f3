-- The spawns of entries in an index: a new entry is found behind all others, and a change of an entry
-- where it stands keeps the index.
use Rattle.std.proofs.Common.{◌≡◌, ℕ, zero, suc, ◌==◌, ◌<◌, ◌||◌, Bool, true, false, cond, List, [], ◌∷◌, ◌++◌, Option, Some, None, is_some, length, take, arith, Result, Ok, Err, OnOk, OnErr, refl, sym, ap, ◌∙◌, set, get_or}
use Rattle.std.proofs.lemmas.Bool.{eqb-true}
use Rattle.std.proofs.lemmas.List.{length-take-le, map_push}
use Rattle.std.specs.BTreeMap.{BTreeMap, UpdatesBy, get}
use Rattle.std.specs.Cmp.{unsigned_tied}
use Rattle.std.specs.List.{position}
use Rattle.std.specs.Option.{option_map, option_or}
use Rattle.std.specs.Ordering.{is_eq, nat_cmp}
use Rattle.ticket_items.proofs.Places.{position-cons}
use Rattle.worker_core.proofs.AtNumber.{distinct-push}
use Rattle.worker_core.proofs.Kept.{no_number, number_of}
use Rattle.worker_core.specs.Numbers.{are_distinct_numbers, has_number}
use Rattle.worker_core.specs.SpawnIndex.{IsSpawnIndex}
use Rattle.worker_core.specs.Worker.{entry_of, is_of, numbers}
use Rattle.worker_core.specs.declared.entry.Entry.{Entry}

-- ---- a new entry

behind_at : (here : Bool) (s : ℕ) (e : Entry) (o : Option ℕ) (n : ℕ)
    → cond here (Some 0) (option_map suc (option_or o (cond (is_of s e) (Some n) None)))
    ≡ option_or (cond here (Some 0) (option_map suc o)) (cond (is_of s e) (Some (suc n)) None)
behind_at true s e o n = refl
behind_at false s e (Some k) n = refl
behind_at false s e None n = by (is_of s e)
  where
    by : (b : Bool) → option_map suc (cond b (Some n) None) ≡ cond b (Some (suc n)) None
    by true = refl
    by false = refl

-- an entry that is put last stands there, where no other is of its spawn
place_behind : (s : ℕ) (entries : List Entry) (e : Entry)
    → position (is_of s) (entries ++ e ∷ [])
    ≡ option_or (position (is_of s) entries) (cond (is_of s e) (Some (length entries)) None)
place_behind s [] e = position-cons (is_of s) e []
place_behind s (x ∷ entries) e =
    position-cons (is_of s) x (entries ++ e ∷ [])
    ∙ ap (λ o. cond (is_of s x) (Some 0) (option_map suc o)) (place_behind s entries e)
    ∙ behind_at (is_of s x) s e (position (is_of s) entries) (length entries)
    ∙ ap (λ o. option_or o (cond (is_of s e) (Some (suc (length entries))) None)) (sym (position-cons (is_of s) x entries))

is_eq-number : (n m : ℕ) → is_eq (nat_cmp n m) ≡ (n == m)
is_eq-number n m = unsigned_tied n m

placed_at : (b : Bool) (o : Option ℕ) (n : ℕ) → (b ≡ true → o ≡ None)
    → cond b (Some n) o ≡ option_or o (cond b (Some n) None)
placed_at true o n none = ap (λ p. option_or p (Some n)) (sym (none refl))
placed_at false None n none = refl
placed_at false (Some k) n none = refl

known_at : (here : Bool) (o : Option ℕ) (known : Bool) → is_some o ≡ known
    → is_some (cond here (Some 0) (option_map suc o)) ≡ (here || known)
known_at true o known e = refl
known_at false None known e = e
known_at false (Some k) known e = e

-- a spawn has a place just where its number is among those of the entries
pub known_number : (s : ℕ) (entries : List Entry)
    → is_some (position (is_of s) entries) ≡ has_number s (numbers entries)
known_number s [] = refl
known_number s (e ∷ entries) =
    ap is_some (position-cons (is_of s) e entries) ∙ known_at (is_of s e) (position (is_of s) entries) (has_number s (numbers entries)) (known_number s entries)

pub none_of : (o : Option ℕ) → is_some o ≡ false → o ≡ None
none_of None e = refl
none_of (Some k) e = cc

-- one of which there is no entry has none
pub no_place : (entries : List Entry) (s : ℕ) → entry_of entries s ≡ None
    → position (is_of s) entries ≡ None
no_place entries s none = none_of (position (is_of s) entries) (known_number s entries ∙ no_number entries s none)

same_none : (s : ℕ) (entries : List Entry) (e : Entry) → position (is_of e.spawn_id) entries ≡ None
    → is_of s e ≡ true → position (is_of s) entries ≡ None
same_none s entries e none own = ap (λ n. position (is_of n) entries) (sym (eqb-true e.spawn_id s own)) ∙ none

-- the index with one entry more
pub index_more : (spawns grown : BTreeMap ℕ ℕ) (entries more : List Entry) (e : Entry) (place : ℕ)
    → IsSpawnIndex spawns entries → position (is_of e.spawn_id) entries ≡ None
    → UpdatesBy nat_cmp (nat_cmp e.spawn_id) spawns grown (Some place) → place ≡ length entries
    → more ≡ entries ++ e ∷ [] → IsSpawnIndex grown more
index_more spawns grown entries more e place index none put last pushed =
    let numbers_more : numbers more ≡ numbers entries ++ e.spawn_id ∷ [] = ap numbers pushed ∙ map_push number_of entries e in
    let new : has_number e.spawn_id (numbers entries) ≡ false = sym (known_number e.spawn_id entries) ∙ ap is_some none in
    record {
      places = λ s. put.0 s ∙ ap (λ b. cond b (Some place) (get nat_cmp spawns s)) (is_eq-number e.spawn_id s)
          ∙ ap (λ k. cond (is_of s e) (Some k) (get nat_cmp spawns s)) last
          ∙ ap (cond (is_of s e) (Some (length entries))) (index.places s)
          ∙ placed_at (is_of s e) (position (is_of s) entries) (length entries) (same_none s entries e none)
          ∙ sym (ap (position (is_of s)) pushed ∙ place_behind s entries e);
      once = ap are_distinct_numbers numbers_more ∙ distinct-push e.spawn_id (numbers entries) index.once new;
    }

pub front_length : (entries : List Entry) (i : ℕ) → i < length entries → i ≡ length (take i entries)
front_length entries i within = sym (length-take-le i entries (omega arith))

-- ---- a change of an entry where it stands

numbers_kept : (entries : List Entry) (k : ℕ) (x y : Entry) → x ≡ get_or entries k x → y.spawn_id ≡ x.spawn_id → numbers (set entries k y) ≡ numbers entries
numbers_kept [] k x y is own = refl
numbers_kept (e ∷ entries) zero x y is own = ap (λ n. n ∷ numbers entries) (own ∙ ap number_of is)
numbers_kept (e ∷ entries) (suc k) x y is own = ap (λ ns. e.spawn_id ∷ ns) (numbers_kept entries k x y is own)

place_by_number : (s : ℕ) (entries : List Entry)
    → position (is_of s) entries ≡ position (λ n. n == s) (numbers entries)
place_by_number s [] = refl
place_by_number s (e ∷ entries) =
    position-cons (is_of s) e entries ∙ ap (λ o. cond (is_of s e) (Some 0) (option_map suc o)) (place_by_number s entries) ∙ sym (position-cons (λ n. n == s) e.spawn_id (numbers entries))

pub index_kept : (spawns : BTreeMap ℕ ℕ) (entries : List Entry) (k : ℕ) (x y : Entry) → IsSpawnIndex spawns entries → x ≡ get_or entries k x → y.spawn_id ≡ x.spawn_id → IsSpawnIndex spawns (set entries k y)
index_kept spawns entries k x y index is own =
    let same = numbers_kept entries k x y is own in
    record {
      places = λ s. index.places s ∙ place_by_number s entries ∙ ap (position (λ n. n == s)) (sym same) ∙ sym (place_by_number s (set entries k y));
      once = ap are_distinct_numbers same ∙ index.once;
    }

-- an entry that is changed, or stays where that fails, is of its spawn still
pub spawn_stays : {X E : Type 0} (result : Result X E) (f : Entry → Entry) (x y : Entry) → ((z : Entry) → (f z).spawn_id ≡ z.spawn_id) → OnOk result (y ≡ f x) → OnErr result (y ≡ x) → y.spawn_id ≡ x.spawn_id
spawn_stays (Ok r) f x y keeps done stays = ap number_of done ∙ keeps x
spawn_stays (Err e) f x y keeps done stays = ap number_of stays

-- ---- the place of an entry, among the entries as they were seen

pub place_inside : (s k : ℕ) (entries seen : List Entry) → entries ≡ seen → position (is_of s) seen ≡ Some k → position (is_of s) entries ≡ Some k
place_inside s k entries seen same found = ap (position (is_of s)) same ∙ found
