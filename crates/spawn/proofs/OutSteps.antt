-- The tables of what is out, one spawn or one id further.
use Rattle.std.proofs.Common.{◌≡◌, ◌∙◌, ℕ, ◌+◌, ◌<◌, ◌||◌, Bool, true, false, cond, List, [], ◌∷◌}
use Rattle.std.proofs.Common.{◌++◌, length, map, take, get_or, unwrap_or, Bor, Option, Some, is_eq}
use Rattle.std.proofs.Common.{nat_cmp, refl, sym, ap, append-nil}
use Rattle.std.proofs.lemmas.Bool.{true≢false}
use Rattle.std.proofs.lemmas.List.{map_push, take_more, map-append}
use Rattle.std.proofs.lemmas.List.Folds.{list_any-append}
use Rattle.std.proofs.lemmas.Map.Text.{is_eq-slice_cmp}
use Rattle.std.proofs.lemmas.Slice.Eq.{bytes_eq-Decides}
use Rattle.std.specs.BTreeMap.{Updates}
use Rattle.std.specs.BTreeSet as set
use Rattle.std.specs.Cmp.Lexicographic.{slice_cmp}
use Rattle.std.specs.Global.{Vec}
use Rattle.std.specs.List.{filter, list_any}
use Rattle.std.specs.Option.{option_map}
use Rattle.std.specs.Str.{bytes_eq}
use Rattle.ticket_items.proofs.Apart.{or_none, contains-inserted, texts_of, texts_more}
use Rattle.ticket_items.specs.Ids.{mem}
use Rattle.spawn.proofs.RowsBelow.{filter-append}
use Rattle.spawn.specs.IdSet.{IdSet, is_in}
use Rattle.spawn.specs.Marking.{records_out}
use Rattle.spawn.specs.OutTables.{Numbers, if_any, numbers_in, numbers_with}
use Rattle.spawn.specs.Records.{is_out}
use Rattle.spawn.specs.declared.records.spawn_rec.SpawnRec.{SpawnRec}

-- ---- one more

pub any_last : {X : Type 0} (p : X → Bool) (xs : List X) (x : X)
    → list_any p (xs ++ x ∷ []) ≡ (list_any p xs || p x)
any_last p xs x = list_any-append p xs (x ∷ []) ∙ ap (λ b. list_any p xs || b) (or_none (p x))

-- ---- one record more

out_at : (b : Bool) (recs : List SpawnRec) (r : SpawnRec) → is_out r ≡ b
    → records_out (recs ++ r ∷ []) ≡ records_out recs ++ cond b (r ∷ []) []
out_at b recs r e = filter-append is_out recs (r ∷ []) ∙ ap (λ c. records_out recs ++ cond c (r ∷ []) []) e

pub out_more : (recs : List SpawnRec) (i : ℕ) (d : SpawnRec) → i < length recs
    → is_out (get_or recs i d) ≡ true
    → records_out (take (i + 1) recs) ≡ records_out (take i recs) ++ get_or recs i d ∷ []
out_more recs i d within e = ap records_out (take_more recs i d within) ∙ out_at true (take i recs) (get_or recs i d) e

pub out_same : (recs : List SpawnRec) (i : ℕ) (d : SpawnRec) → i < length recs
    → is_out (get_or recs i d) ≡ false → records_out (take (i + 1) recs) ≡ records_out (take i recs)
out_same recs i d within e = ap records_out (take_more recs i d within) ∙ out_at false (take i recs) (get_or recs i d) e ∙ append-nil (records_out (take i recs))

-- ---- one spawn more

abbrev pub spawns_in : List (Bor SpawnRec) → List SpawnRec
spawns_in spawns = map (λ s. s.now) spawns

pub spawns_more : (spawns : List (Bor SpawnRec)) (i : ℕ) (d : Bor SpawnRec) → i < length spawns
    → spawns_in (take (i + 1) spawns) ≡ spawns_in (take i spawns) ++ (get_or spawns i d).now ∷ []
spawns_more spawns i d within = ap spawns_in (take_more spawns i d within) ∙ map_push (λ s. s.now) (take i spawns) (get_or spawns i d)

-- whether some spawn passes a test
pub any_more : (p : SpawnRec → Bool) (spawns : List (Bor SpawnRec)) (i : ℕ) (d : Bor SpawnRec)
    → i < length spawns
    → (list_any p (spawns_in (take i spawns)) || p (get_or spawns i d).now)
    ≡ list_any p (spawns_in (take (i + 1) spawns))
any_more p spawns i d within = sym (ap (list_any p) (spawns_more spawns i d within) ∙ any_last p (spawns_in (take i spawns)) (get_or spawns i d).now)

-- ---- numbers

any_pushed : (ns : List ℕ) (n : ℕ)
    → if_any (ns ++ n ∷ []) ≡ Some (unwrap_or (if_any ns) [] ++ n ∷ [])
any_pushed [] n = refl
any_pushed (m ∷ ns) n = refl

numbers_at : (b : Bool) (p : SpawnRec → Bool) (rs : List SpawnRec) (r : SpawnRec) → p r ≡ b
    → if_any (map (λ s. s.id) (filter p (rs ++ r ∷ [])))
    ≡ numbers_with b r.id (if_any (map (λ s. s.id) (filter p rs)))
numbers_at true p rs r e =
    ap (λ ss. if_any (map (λ s. s.id) ss)) (filter-append p rs (r ∷ []) ∙ ap (λ c. filter p rs ++ cond c (r ∷ []) []) e) ∙ ap if_any (map-append (λ s. s.id) (filter p rs) (r ∷ []))
    ∙ any_pushed (map (λ s. s.id) (filter p rs)) r.id
numbers_at false p rs r e =
    ap (λ ss. if_any (map (λ s. s.id) ss)) (filter-append p rs (r ∷ []) ∙ ap (λ c. filter p rs ++ cond c (r ∷ []) []) e ∙ append-nil (filter p rs))

-- the numbers of one spawn more
pub numbers_more : (p : SpawnRec → Bool) (spawns : List (Bor SpawnRec)) (i : ℕ) (d : Bor SpawnRec)
    → i < length spawns
    → numbers_with (p (get_or spawns i d).now) (get_or spawns i d).now.id
    (if_any (map (λ s. s.id) (filter p (spawns_in (take i spawns)))))
    ≡ if_any (map (λ s. s.id) (filter p (spawns_in (take (i + 1) spawns))))
numbers_more p spawns i d within =
    sym (ap (λ rs. if_any (map (λ s. s.id) (filter p rs))) (spawns_more spawns i d within) ∙ numbers_at (p (get_or spawns i d).now) p (spawns_in (take i spawns)) (get_or spawns i d).now refl)

-- ---- one number under an id

put_at : (b i : Bool) (n : ℕ) (known : Vec ℕ) (here there mid : Option (List ℕ)) → i ≡ b
    → known.items ≡ unwrap_or here [] ++ n ∷ [] → (b ≡ true → there ≡ here)
    → (b ≡ false → mid ≡ there)
    → cond i (Some known.items) mid ≡ numbers_with b n there
put_at true true n known here there mid e items same other = ap Some (items ∙ ap (λ o. unwrap_or o [] ++ n ∷ []) (sym (same refl)))
put_at false false n known here there mid e items same other = other refl
put_at true false n known here there mid e items same other = cc
put_at false true n known here there mid e items same other = cc

mapped_cond : (i : Bool) (known : Vec ℕ) (o : Option (Vec ℕ))
    → option_map (λ v. v.items) (cond i (Some known) o)
    ≡ cond i (Some known.items) (option_map (λ v. v.items) o)
mapped_cond true known o = refl
mapped_cond false known o = refl

abbrev pub borrowed : List ℕ → Bor (List ℕ)
borrowed x = record { ref_ptr = (0, 0); now = x }

pub put_number : (old mid new : Numbers) (id : Bor (List ℕ)) (n : ℕ) (known : Vec ℕ)
    → known.items ≡ unwrap_or (numbers_in old id.now) [] ++ n ∷ []
    → ((x : List ℕ) → bytes_eq id.now x ≡ false → numbers_in mid x ≡ numbers_in old x)
    → Updates (λ a b. slice_cmp nat_cmp a.now b.now) mid new id (Some known) → (x : List ℕ)
    → numbers_in new x ≡ numbers_with (bytes_eq id.now x) n (numbers_in old x)
put_number old mid new id n known items others updates x =
    let i = is_eq (slice_cmp nat_cmp id.now x) in
    ap (option_map (λ v. v.items)) (updates.0 (borrowed x)) ∙ mapped_cond i known _
    ∙ put_at (bytes_eq id.now x) i n known (numbers_in old id.now) (numbers_in old x) (numbers_in mid x) (is_eq-slice_cmp id.now x) items (λ same. ap (numbers_in old) (sym ((bytes_eq-Decides id.now x).0 same))) (others x)

-- ---- each id once

push_at : (here seen : Bool) (n : ℕ) (known : Option (List ℕ)) → (here ≡ true → seen ≡ false)
    → numbers_with here n (numbers_with seen n known) ≡ numbers_with (seen || here) n known
push_at true true n known apart = absurd (true≢false (apart refl))
push_at true false n known apart = refl
push_at false true n known apart = refl
push_at false false n known apart = refl

skip_at : (here seen : Bool) (n : ℕ) (known : Option (List ℕ)) → (here ≡ true → seen ≡ true)
    → numbers_with seen n known ≡ numbers_with (seen || here) n known
skip_at true true n known there = refl
skip_at true false n known there = absurd (true≢false (sym (there refl)))
skip_at false true n known there = refl
skip_at false false n known there = refl

mem_more : (ts : List (Bor (List ℕ))) (i : ℕ) (d : Bor (List ℕ)) (x : List ℕ) → i < length ts
    → mem x (texts_of (take (i + 1) ts))
    ≡ (mem x (texts_of (take i ts)) || bytes_eq (get_or ts i d).now x)
mem_more ts i d x within = ap (mem x) (texts_more ts i d within) ∙ any_last (λ y. bytes_eq y x) (texts_of (take i ts)) (get_or ts i d).now

-- an id that wasn't seen gets the number
pub number_pushed : (ts : List (Bor (List ℕ))) (i : ℕ) (d : Bor (List ℕ)) (n : ℕ)
    (first old new : Option (List ℕ)) (x : List ℕ)
    → i < length ts → mem (get_or ts i d).now (texts_of (take i ts)) ≡ false
    → old ≡ numbers_with (mem x (texts_of (take i ts))) n first
    → new ≡ numbers_with (bytes_eq (get_or ts i d).now x) n old
    → new ≡ numbers_with (mem x (texts_of (take (i + 1) ts))) n first
number_pushed ts i d n first old new x within unseen before step =
    let t = (get_or ts i d).now in
    step ∙ ap (numbers_with (bytes_eq t x) n) before
    ∙ push_at (bytes_eq t x) (mem x (texts_of (take i ts))) n first (λ same. ap (λ y. mem y (texts_of (take i ts))) (sym ((bytes_eq-Decides t x).0 same)) ∙ unseen)
    ∙ ap (λ b. numbers_with b n first) (sym (mem_more ts i d x within))

-- and one that was seen has it
pub number_kept : (ts : List (Bor (List ℕ))) (i : ℕ) (d : Bor (List ℕ)) (n : ℕ)
    (first old : Option (List ℕ)) (x : List ℕ)
    → i < length ts → mem (get_or ts i d).now (texts_of (take i ts)) ≡ true
    → old ≡ numbers_with (mem x (texts_of (take i ts))) n first
    → old ≡ numbers_with (mem x (texts_of (take (i + 1) ts))) n first
number_kept ts i d n first old x within seen before =
    let t = (get_or ts i d).now in
    before ∙ skip_at (bytes_eq t x) (mem x (texts_of (take i ts))) n first (λ same. ap (λ y. mem y (texts_of (take i ts))) (sym ((bytes_eq-Decides t x).0 same)) ∙ seen)
    ∙ ap (λ b. numbers_with b n first) (sym (mem_more ts i d x within))

-- what was seen, one id further
pub seen_more : (ts : List (Bor (List ℕ))) (i : ℕ) (d : Bor (List ℕ)) (old new : IdSet) (x : List ℕ)
    → i < length ts
    → set.Updates (λ a b. slice_cmp nat_cmp a.now b.now) old new (get_or ts i d) true
    → is_in old x ≡ mem x (texts_of (take i ts))
    → is_in new x ≡ mem x (texts_of (take (i + 1) ts))
seen_more ts i d old new x within updates before =
    contains-inserted old new (get_or ts i d) updates x ∙ ap (λ b. b || bytes_eq (get_or ts i d).now x) before ∙ sym (mem_more ts i d x within)
