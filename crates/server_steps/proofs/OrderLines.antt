-- Names and lines of orders, one after the other.
use Rattle.std.proofs.Common.{◌≡◌, ◌≢◌, ◌∙◌, ◌++◌, ◌<◌, ◌+◌, ℕ, Bor, List, [], ◌∷◌, Option, Result, Ok, Err, IfOk, ap, get_or, inl, inr, length, map, refl, subst, sym, take}
use Rattle.std.proofs.lemmas.List.{map_push, take_more}
use Rattle.std.specs.List.{AllZip, flat_map, zip}
use Rattle.std.specs.Prelude.{String}
use Rattle.std.specs.declared.alloc.Global.{Global}
use Rattle.world_items.specs.declared.reply.Reply.{Reply}
use Rattle.rounds.specs.Line.{coming_in, comings_of}
use Rattle.rounds.specs.declared.errand.Errand.{Errand}
use Rattle.stored_state.specs.declared.coming.Coming.{Coming}
use Rattle.server_steps.specs.OrderLines.{IsNameOf, kept_name, order_line, order_lines}
use Rattle.server_steps.proofs.JournalLines.{flat_of_map}

-- ---- names

more_names : (all : List Coming) (words : List (Option (List ℕ))) (x : Coming) (word : Option (List ℕ)) → AllZip IsNameOf all words → IsNameOf x word → AllZip IsNameOf (all ++ x ∷ []) (words ++ word ∷ [])
more_names [] [] x word are is = (is, tt)
more_names [] (w ∷ words) x word are is = absurd are
more_names (y ∷ all) [] x word are is = absurd are
more_names (y ∷ all) (w ∷ words) x word are is = (are.0, more_names all words x word are.1 is)

-- one more
pub next_name : {S : Type 0} (orders : List (Errand S)) (i : ℕ) (order : Errand S) (words after : List (Option (String Global))) (word : Option (String Global))
    → i < length orders → order ≡ get_or orders i order → AllZip IsNameOf (comings_of (take i orders)) (map kept_name words) → IsNameOf order.coming (kept_name word) → after ≡ words ++ word ∷ []
    → AllZip IsNameOf (comings_of (take (i + 1) orders)) (map kept_name after)
next_name orders i order words after word within is are named pushed =
    let one = more_names (comings_of (take i orders)) (map kept_name words) order.coming (kept_name word) are named in
    let more : comings_of (take (i + 1) orders) ≡ comings_of (take i orders) ++ order.coming ∷ [] =
    ap comings_of (take_more orders i order within) ∙ map_push coming_in (take i orders) (get_or orders i order) ∙ ap (λ e. comings_of (take i orders) ++ coming_in e ∷ []) (sym is) in
    let names : map kept_name after ≡ map kept_name words ++ kept_name word ∷ [] = ap (map kept_name) pushed ∙ map_push kept_name words word in
    subst (λ ws. AllZip IsNameOf (comings_of (take (i + 1) orders)) ws) (sym names) (subst (λ xs. AllZip IsNameOf xs (map kept_name words ++ kept_name word ∷ [])) (sym more) one)

-- ---- lines

of_pairs : {A B : Type 0} (name : List ℕ) (at : ℕ) (f : A → Option (List ℕ)) (h : B → Option Reply) (xs : List A) (ys : List B)
    → flat_map (λ (p : A × B). order_line name at (f p.0) (h p.1)) (zip xs ys) ≡ order_lines name at (map f xs) (map h ys)
of_pairs name at f h [] ys = refl
of_pairs name at f h (x ∷ xs) [] = refl
of_pairs name at f h (x ∷ xs) (y ∷ ys) =
    ap (λ lines. order_line name at (f x) (h y) ++ lines) (of_pairs name at f h xs ys)

-- all
pub all_lines : {A B : Type 0} (name : List ℕ) (at : ℕ) (f : A → Option (List ℕ)) (h : B → Option Reply) (xs : List A) (ys : List B) (pairs : List (Bor A × Bor B)) (made : List ℕ)
    → made ≡ flat_map (λ (p : Bor A × Bor B). order_line name at (f p.0.now) (h p.1.now)) pairs → map (λ (p : Bor A × Bor B). (p.0.now, p.1.now)) pairs ≡ zip xs ys
    → made ≡ order_lines name at (map f xs) (map h ys)
all_lines {A = A} {B = B} name at f h xs ys pairs made is all =
    is ∙ flat_of_map (λ (p : A × B). order_line name at (f p.0) (h p.1)) (λ (p : Bor A × Bor B). (p.0.now, p.1.now)) pairs
    ∙ ap (flat_map (λ (p : A × B). order_line name at (f p.0) (h p.1))) all ∙ of_pairs name at f h xs ys
