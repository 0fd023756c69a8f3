-- What a save that was cut off leaves: the old file or the new.
use Rattle.std.proofs.Common.{◌≡◌, ◌⊎◌, ◌<◌, ◌∙◌, ℕ, zero, suc, List, [], ◌∷◌, Option, Some, None, IfSome, IsNone, ap, arith, inl, inr, length, refl, slice_get, subst, sym, ⊎_elim}
use Rattle.std.specs.Prelude.{option_map, slice_index_or}
use Rattle.std.specs.Global.{Vec}
use Rattle.keepers.specs.InMemory.{InMemory, IsFrom, contents}
use Rattle.keepers.specs.Saved.{IsOldOrNew}

at_index : (xs : List (Option (Vec ℕ))) (k : ℕ) (d : Option (Vec ℕ)) → k < length xs → slice_get (contents xs) k ≡ Some (option_map (λ v. v.items) (slice_index_or xs k d))
at_index [] k d less = absurd (omega (arith, less))
at_index (x ∷ xs) zero d less = refl
at_index (x ∷ xs) (suc k) d less = at_index xs k d (omega (arith, less))

-- what stands at a place is among them
pub left_among : (xs : List (Option (Vec ℕ))) (k : ℕ) (r : Option (Vec ℕ)) → k < length xs → r ≡ slice_index_or xs k r → IfSome r (λ b. IsFrom (contents xs) 0 (Some b.items))
left_among xs k None less same = tt
left_among xs k (Some b) less same =
    (k, omega (arith), at_index xs k (Some b) less ∙ ap (λ o. Some (option_map (λ v. v.items) o)) (sym same))

one_left : (old x : List ℕ) (i : ℕ) → slice_get (Some old ∷ []) i ≡ Some (Some x) → x ≡ old
one_left old x zero at = cc
one_left old x (suc i) at = cc

some_same : {x y : List ℕ} → Some x ≡ Some y → x ≡ y
some_same same = cc

-- one of those that a crash might have left of a disk that began with a file
pub cut_so : (before after : InMemory) (held bytes new : List ℕ) (left : Option (Vec ℕ)) → before.left ≡ Some held ∷ [] → before.settled ≡ 0
    → ((c : Option (List ℕ)) → IsFrom after.left before.settled c → IsOldOrNew (IsFrom before.left before.settled) bytes c)
    → IfSome left (λ b. IsFrom after.left 0 (Some b.items)) → (IsNone left → new ≡ held) → IfSome left (λ b. new ≡ b.items) → (new ≡ held) ⊎ (new ≡ bytes)
cut_so before after held bytes new None began settled each among none some = inl (none refl)
cut_so before after held bytes new (Some b) began settled each among none some =
    let from = subst (λ n. IsFrom after.left n (Some b.items)) (sym settled) among in
    ⊎_elim (λ old. inl (some ∙ one_left held b.items old.0 (subst (λ l. slice_get l old.0 ≡ Some (Some b.items)) began old.2)))
    (λ is. inr (some ∙ some_same is)) (each (Some b.items) from)
