-- Lists that are printed an item at a time.
use Rattle.std.proofs.Common.{◌≡◌, ◌∙◌, ℕ, suc, ◌+◌, ◌<◌, ◌≤◌, List, [], ◌∷◌, ◌++◌, Some, Result, Ok, Err, OnOk, length, take, get_or, option_map, option_and_then, arith, refl, sym, ap, subst, append_assoc, append-nil}
use Rattle.std.proofs.lemmas.Grind.{flat_map-append}
use Rattle.std.proofs.lemmas.List.{take_more, take_all}
use Rattle.std.proofs.lemmas.List.Elements.{All-more}
use Rattle.std.specs.List.{All, flat_map}
use Rattle.json.specs.Token.{Token, begin_array, end_array}
use Rattle.json.specs.Tree.{items_tokens}
use Rattle.json.specs.Written.{Written, Writes}
use Rattle.serde_json.specs.Data.{Data, array, item}
use Rattle.serde_json.specs.Read.{of_items}
use Rattle.serde_json.specs.Written.{items_outline}
use Rattle.json_items.specs.Listed.{data_items}
use Rattle.json_text.specs.Printed.{data_tokens, IsPrinted, IsReadAgain, AreItemsPrinted}

-- of the items, this many are printed
abbrev pub IsSoFar : {A : Type 0} → (A → Data) → List A → ℕ → Written → Written → Type 0
IsSoFar written items i old new = AreItemsPrinted written (take i items) old new

pub none_printed : {A : Type 0} (written : A → Data) (items : List A) (old : Written) → IsSoFar written items 0 old old
none_printed written items old = record { appended = record { tokens = sym (append-nil old.tokens); before = refl }; again = λ k d h. absurd (omega arith) }

pub one_more : {A : Type 0} (written : A → Data) (items : List A) (i : ℕ) (x : A) (old mid new : Written) → i < length items → x ≡ get_or items i x → IsSoFar written items i old mid → IsPrinted (written x) mid new → IsSoFar written items (i + 1) old new
one_more {A} written items i x old mid new within is before printed =
    let one : A → List Token = λ y. data_tokens (written y) in
    let more : flat_map one (take (i + 1) items) ≡ flat_map one (take i items) ++ data_tokens (written x) =
    ap (flat_map one) (take_more items i x within) ∙ flat_map-append one (take i items) (get_or items i x ∷ []) ∙ ap (λ y. flat_map one (take i items) ++ (one y ++ [])) (sym is) ∙ ap (λ t. flat_map one (take i items) ++ t) (append-nil (one x)) in
    record {
      appended = record {
        tokens = printed.appended.tokens ∙ ap (λ t. t ++ data_tokens (written x)) before.appended.tokens ∙ append_assoc old.tokens (flat_map one (take i items)) (data_tokens (written x)) ∙ ap (λ t. old.tokens ++ t) (sym more);
        before = printed.appended.before ∙ before.appended.before;
      };
      again = All-more (λ y. IsReadAgain (written y)) items i x within before.again (subst (λ y. IsReadAgain (written y)) is printed.again);
    }

pub all_printed : {A : Type 0} (written : A → Data) (items : List A) (i : ℕ) (old new : Written) → length items ≤ i → IsSoFar written items i old new → AreItemsPrinted written items old new
all_printed written items i old new past so = subst (λ xs. AreItemsPrinted written xs old new) (take_all i items past) so

tokens_of_items : {A : Type 0} (written : A → Data) (items : List A) → flat_map (λ x. data_tokens (written x)) items ++ end_array ∷ [] ≡ items_tokens (items_outline (data_items written items))
tokens_of_items written [] = refl
tokens_of_items written (x ∷ items) = append_assoc (data_tokens (written x)) (flat_map (λ y. data_tokens (written y)) items) (end_array ∷ []) ∙ ap (λ t. data_tokens (written x) ++ t) (tokens_of_items written items)

items_again : {A : Type 0} (written : A → Data) (items : List A) → All (λ x. IsReadAgain (written x)) items → of_items (items_outline (data_items written items)) ≡ Some (data_items written items)
items_again written [] all = refl
items_again written (x ∷ items) all =
    ap (option_and_then (λ d. option_map (item d) (of_items (items_outline (data_items written items))))) (all 0 x (omega arith)) ∙ ap (option_map (item (written x))) (items_again written items (λ k d h. all (suc k) d (omega (arith, h))))

-- the items of a list and its end behind its beginning
pub list_printed : {A E : Type 0} (written : A → Data) (items : List A) (r : Result (Unit {0}) E) (old start mid new : Written) → start.tokens ≡ old.tokens ++ begin_array ∷ [] → start.before ≡ old.before → AreItemsPrinted written items start mid → Writes r mid new end_array → OnOk r (IsPrinted (array (data_items written items)) old new)
list_printed {A} written items (Ok u) old start mid new begins before printed ends =
    let all = flat_map (λ (x : A). data_tokens (written x)) items in
    record {
      appended = record {
        tokens = ends.ok ∙ ap (λ t. t ++ end_array ∷ []) (printed.appended.tokens ∙ ap (λ t. t ++ all) begins ∙ append_assoc old.tokens (begin_array ∷ []) all) ∙ append_assoc old.tokens (begin_array ∷ all) (end_array ∷ []) ∙ ap (λ t. old.tokens ++ begin_array ∷ t) (tokens_of_items written items);
        before = ends.room.0 ∙ printed.appended.before ∙ before;
      };
      again = ap (option_map array) (items_again written items printed.again);
    }
list_printed written items (Err e) old start mid new begins before printed ends = tt
