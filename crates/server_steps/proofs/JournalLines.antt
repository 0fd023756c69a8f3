-- Lines of steps, one after the other.
use Rattle.std.proofs.Common.{◌≡◌, ◌≢◌, ◌==◌, ◌∙◌, ◌++◌, ◌<◌, ◌+◌, ℕ, Bool, true, false, Bor, List, [], ◌∷◌, Option, Result, Ok, Err, Vec, IfOk, Global, MatchBool, MatchResult, ap, arith, get_or, inl, inr, length, map, refl, subst, sym, take, true≢false}
use Rattle.journal.specs.Journal.{IsAppended, IsMissed, Misses}
use Rattle.std.proofs.lemmas.Bool.Decides.{nat_tests}
use Rattle.std.proofs.lemmas.List.{flat_map_more, map_more, map_push, nil_from_length}
use Rattle.std.specs.List.{flat_map, zip}
use Rattle.rounds.specs.declared.receipt.Receipt.{Receipt}
use Rattle.stored_state.specs.declared.coming.Coming.{Coming}
use Rattle.server_steps.specs.Journaled.{AreJournaled, StepName, called_of_coming, line_for, lines_for, step_of_call}
use Rattle.server_steps.specs.declared.journaling.Call.{Call}

-- ---- what steps are made of

-- one more
pub one_call : {X : Type 0} (of : X → Coming) (xs : List X) (i : ℕ) (x : X) (calls after : List (Option Call)) (one : Option Call)
    → i < length xs → x ≡ get_or xs i x → map step_of_call calls ≡ map (λ y. called_of_coming (of y)) (take i xs) → step_of_call one ≡ called_of_coming (of x) → after ≡ calls ++ one ∷ []
    → map step_of_call after ≡ map (λ y. called_of_coming (of y)) (take (i + 1) xs)
one_call of xs i x calls after one within is so made pushed =
    ap (map step_of_call) pushed ∙ map_push step_of_call calls one ∙ ap (λ cs. cs ++ step_of_call one ∷ []) so
    ∙ ap (λ c. map (λ y. called_of_coming (of y)) (take i xs) ++ c ∷ []) (made ∙ ap (λ y. called_of_coming (of y)) is)
    ∙ sym (map_more (λ y. called_of_coming (of y)) xs i x within)

pub map_of_map : {X Y Z : Type 0} (f : Y → Z) (h : X → Y) (xs : List X) → map (λ x. f (h x)) xs ≡ map f (map h xs)
map_of_map f h [] = refl
map_of_map f h (x ∷ xs) = ap (λ zs. f (h x) ∷ zs) (map_of_map f h xs)

-- ---- lines

of_pairs : {A B : Type 0} (name : List ℕ) (at : ℕ) (f : A → Option StepName) (h : B → Option Receipt) (xs : List A) (ys : List B)
    → flat_map (λ (p : A × B). line_for name at (f p.0) (h p.1)) (zip xs ys) ≡ lines_for name at (map f xs) (map h ys)
of_pairs name at f h [] ys = refl
of_pairs name at f h (x ∷ xs) [] = refl
of_pairs name at f h (x ∷ xs) (y ∷ ys) =
    ap (λ lines. line_for name at (f x) (h y) ++ lines) (of_pairs name at f h xs ys)

pub flat_of_map : {X Y A : Type 0} (line : Y → List A) (f : X → Y) (xs : List X) → flat_map (λ x. line (f x)) xs ≡ flat_map line (map f xs)
flat_of_map line f [] = refl
flat_of_map line f (x ∷ xs) = ap (λ ys. line (f x) ++ ys) (flat_of_map line f xs)

-- one more
pub lines_more : {P : Type 0} (line : P → List ℕ) (before after : List ℕ) (pairs : List P) (p : P) → before ≡ flat_map line pairs → after ≡ before ++ line p
    → after ≡ flat_map line (pairs ++ p ∷ [])
lines_more line before after pairs p is pushed = pushed ∙ ap (λ lines. lines ++ line p) is ∙ flat_map_more line [] pairs p

-- all
pub all_lines : {A B : Type 0} (name : List ℕ) (at : ℕ) (f : A → Option StepName) (h : B → Option Receipt) (xs : List A) (ys : List B) (pairs : List (Bor A × Bor B)) (made : List ℕ)
    → made ≡ flat_map (λ (p : Bor A × Bor B). line_for name at (f p.0.now) (h p.1.now)) pairs → map (λ (p : Bor A × Bor B). (p.0.now, p.1.now)) pairs ≡ zip xs ys
    → made ≡ lines_for name at (map f xs) (map h ys)
all_lines {A = A} {B = B} name at f h xs ys pairs made is all =
    is ∙ flat_of_map (λ (p : A × B). line_for name at (f p.0) (h p.1)) (λ (p : Bor A × Bor B). (p.0.now, p.1.now)) pairs
    ∙ ap (flat_map (λ (p : A × B). line_for name at (f p.0) (h p.1))) all ∙ of_pairs name at f h xs ys

-- ---- in the journal

-- none are left as they are
pub none_journaled : {J : Type 0} (held : J → List ℕ) (is_missed : J → Bool) (lines : List ℕ) (j : J) → lines ≡ [] → AreJournaled held is_missed lines j j
none_journaled held is_missed lines j none = inl (none, record { holds = refl; missed = refl })

-- some are appended, or are missed
pub some_journaled : {J : Type 0} (held : J → List ℕ) (is_missed : J → Bool) (lines : List ℕ) (old new : J) (kept_them : Bool) → lines ≢ []
    → MatchBool kept_them (IsAppended held is_missed lines old new) (IsMissed held is_missed lines old new) → AreJournaled held is_missed lines old new
some_journaled held is_missed lines old new true some so = inr (inl (some, inl so))
some_journaled held is_missed lines old new false some so = inr (inl (some, inr so))

-- those that were made are; and where they weren't they are missed
pub made_journaled : {J E : Type 0} (held : J → List ℕ) (is_missed : J → Bool) (lines : List ℕ) (old new : J) (made : Result (Vec ℕ Global) E) → IfOk made (λ v. v.items ≡ lines)
    → MatchResult made (λ v. AreJournaled held is_missed v.items old new) (λ _. Misses held is_missed old new) → AreJournaled held is_missed lines old new
made_journaled held is_missed lines old new (Ok v) is so = subst (λ all. AreJournaled held is_missed all old new) is so
made_journaled held is_missed lines old new (Err e) is so = inr (inr so)

-- lines that are found empty are, and others aren't
pub no_bytes : (lines : List ℕ) (is_empty : Bool) → is_empty ≡ (length lines == 0) → is_empty ≡ true → lines ≡ []
no_bytes lines is_empty is so =
    let none : length lines ≡ 0 = grind (arith, nat_tests) in nil_from_length lines none

pub some_bytes : (lines : List ℕ) (is_empty : Bool) → is_empty ≡ (length lines == 0) → is_empty ≡ false → lines ≢ []
some_bytes lines is_empty is so none = true≢false (ap (λ bytes. length bytes == 0) (sym none) ∙ sym is ∙ so)
