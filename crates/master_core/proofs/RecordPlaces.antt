-- Where the record of a spawn stands, since spawns are numbered in the order of their records.
use Rattle.std.proofs.Common.{◌≡◌, ◌∙◌, ℕ, zero, suc, ◌+◌, ◌==◌, ◌<◌, Bor, true, false, cond, List, [], ◌∷◌, length, Option, Some, None, IfSome, is_some, get_or, ltb, slice_get, refl, sym, ap, arith, eq-eqb, subst}
use Rattle.std.proofs.lemmas.Bool.{ltb-false, ltb-true, ne_eqb}
use Rattle.std.proofs.lemmas.Option.{get_or_from_slice_get, slice_get_past, slice_get_read, slice_get_within}
use Rattle.std.specs.List.{find}
use Rattle.std.specs.Option.{option_copied, option_map_or}
use Rattle.spawn.specs.Records.{is_out}
use Rattle.spawn.specs.declared.records.spawn_rec.SpawnRec.{SpawnRec}
use Rattle.master_core.specs.Master.{IsNumbered, is_of, is_spawn_out, record_of}

-- numbered from the one behind n on
abbrev IsNumberedFrom : ℕ → List SpawnRec → Type 0
IsNumberedFrom n xs = (k : ℕ) (r : SpawnRec) → slice_get xs k ≡ Some r → r.id ≡ suc (n + k)

found_from : (n : ℕ) (xs : List SpawnRec) → IsNumberedFrom n xs → (k : ℕ) → slice_get xs k ≡ find (is_of (suc (n + k))) xs
found_from n [] numbered k = refl
found_from n (x ∷ xs) numbered zero =
    sym (ap (λ b. cond b (Some x) (find (is_of (suc (n + 0))) xs)) (eq-eqb x.id (suc (n + 0)) (numbered 0 x refl)))
found_from n (x ∷ xs) numbered (suc k) =
    let own : x.id ≡ suc (n + 0) = numbered 0 x refl in
    let other : (x.id == suc (n + suc k)) ≡ false = ne_eqb x.id (suc (n + suc k)) (λ same. omega (arith, own, same)) in
    let later : slice_get xs k ≡ find (is_of (suc (suc n + k))) xs = found_from (suc n) xs (λ j r at. omega (arith, numbered (suc j) r at)) k in
    let number : suc (suc n + k) ≡ suc (n + suc k) = omega arith in
    later
    ∙ ap (λ s. find (is_of s) xs) number
    ∙ sym (ap (λ b. cond b (Some x) (find (is_of (suc (n + suc k))) xs)) other)

-- the record of a spawn stands at the place before its number
pub record_there : (xs : List SpawnRec) (k s : ℕ) → IsNumbered xs → suc k ≡ s → slice_get xs k ≡ record_of xs s
record_there xs k s numbered is =
    let number : suc (0 + k) ≡ s = omega (arith, is) in
    found_from 0 xs (λ j r at. omega (arith, numbered j r at)) k ∙ ap (record_of xs) number

-- what is got at a place
pub got_there : (xs : List SpawnRec) (k : ℕ) (o : Option (Bor SpawnRec)) → is_some o ≡ ltb k (length xs) → IfSome o (λ x. x.now ≡ get_or xs k x.now) → option_copied o ≡ slice_get xs k
got_there xs k None none at = sym (slice_get_past xs k (ltb-false k (length xs) (sym none)))
got_there xs k (Some x) some at = sym (slice_get_read xs (length xs) k x.now refl (ltb-true k (length xs) (sym some)) at)

-- the record of a spawn that is out, where it stands
pub record IsOutAt (xs : List SpawnRec) (s k : ℕ) (r : SpawnRec) : Type 0 where
  pub there : slice_get xs k ≡ Some r
  pub found : record_of xs s ≡ Some r
  pub out : is_out r ≡ true
  pub within : k < length xs

record_out : (o : Option SpawnRec) → option_map_or is_out o false ≡ true → (r : SpawnRec) × (o ≡ Some r) × (is_out r ≡ true)
record_out None e = cc
record_out (Some r) e = (r, refl, e)

pub out_there : (xs : List SpawnRec) (s k : ℕ) → IsNumbered xs → suc k ≡ s → is_spawn_out xs s ≡ true → (r : SpawnRec) × IsOutAt xs s k r
out_there xs s k numbered is out =
    let own = record_out (record_of xs s) out in
    let at : slice_get xs k ≡ Some own.0 = record_there xs k s numbered is ∙ own.1 in
    (own.0, record { there = at; found = own.1; out = own.2; within = slice_get_within xs k own.0 at })

-- the same of what was read there
pub out_read : (xs : List SpawnRec) (s k : ℕ) (r : SpawnRec) → IsNumbered xs → suc k ≡ s → is_spawn_out xs s ≡ true → r ≡ get_or xs k r → IsOutAt xs s k r
out_read xs s k r numbered is out read =
    let own = out_there xs s k numbered is out in
    let same : own.0 ≡ r = sym (get_or_from_slice_get xs k own.0 r own.1.there) ∙ sym read in
    subst (IsOutAt xs s k) same own.1
