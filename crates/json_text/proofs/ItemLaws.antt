-- Items that are printed one after another.
use Rattle.std.proofs.Common.{◌≡◌, ◌∙◌, ℕ, ◌+◌, ◌<◌, ◌≤◌, List, [], ◌∷◌, ◌++◌, Result, OnOk, length, get_or, map, arith, sym, ap, subst}
use Rattle.std.proofs.lemmas.Grind.{flat_map-append}
use Rattle.std.proofs.lemmas.List.{get_or-map, length-map}
use Rattle.std.proofs.lemmas.List.Elements.{All-append}
use Rattle.std.specs.List.{flat_map}
use Rattle.json.specs.Token.{key, begin_array, end_array}
use Rattle.json.specs.Written.{Written, Writes}
use Rattle.serde_json.specs.Data.{Data, array}
use Rattle.ticket_items.specs.declared.resource.Resource.{Resource}
use Rattle.json_items.specs.Listed.{data_items}
use Rattle.json_items.specs.Resources.{all_showing, raw_data}
use Rattle.json_items.specs.declared.resources.shown_form.Showing.{Showing}
use Rattle.json_text.specs.Printed.{data_tokens, IsAppended, IsReadAgain, IsPrinted, AreItemsPrinted}
use Rattle.json_text.proofs.MemberLaws.{on_ok, appended_more}
use Rattle.json_text.proofs.PrintedLists.{IsSoFar, one_more, all_printed, list_printed}

-- one more, which is made of the next of a list
pub made_more : {A B : Type 0} (made : A → B) (written : B → Data) (xs : List A) (i : ℕ) (x : A) (old mid new : Written) → i < length xs → x ≡ get_or xs i x → IsSoFar written (map made xs) i old mid → IsPrinted (written (made x)) mid new
    → IsSoFar written (map made xs) (i + 1) old new
made_more made written xs i x old mid new within is before one =
    one_more written (map made xs) i (made x) old mid new (omega (arith, within, length-map xs made)) (ap made is ∙ sym (get_or-map made xs i x (made x) within)) before one

-- all, which are made of a list's items
pub made_all : {A B : Type 0} (made : A → B) (written : B → Data) (xs : List A) (i : ℕ) (old new : Written) → length xs ≤ i → IsSoFar written (map made xs) i old new → AreItemsPrinted written (map made xs) old new
made_all made written xs i old new past so = all_printed written (map made xs) i old new (omega (arith, past, length-map xs made)) so

-- some in front of others
pub items_joined : {A : Type 0} (written : A → Data) (xs ys : List A) (old mid new : Written) → AreItemsPrinted written xs old mid → AreItemsPrinted written ys mid new → AreItemsPrinted written (xs ++ ys) old new
items_joined {A} written xs ys old mid new first second =
    let tokens = λ (x : A). data_tokens (written x) in
    record {
      appended = subst (λ ts. IsAppended ts old new) (sym (flat_map-append tokens xs ys)) (appended_more (flat_map tokens xs) (flat_map tokens ys) old mid new first.appended second.appended);
      again = All-append (λ x. IsReadAgain (written x)) xs ys first.again second.again;
    }

-- a name and a list under it
pub under_name : {A E : Type 0} (name : List ℕ) (written : A → Data) (xs : List A) (r : Result (Unit {0}) E) (old named begun mid new : Written) → IsAppended (key name ∷ []) old named → begun.tokens ≡ named.tokens ++ begin_array ∷ [] → begun.before ≡ named.before
    → AreItemsPrinted written xs begun mid → Writes r mid new end_array → OnOk r (IsAppended (key name ∷ data_tokens (array (data_items written xs))) old new)
under_name name written xs r old named begun mid new first begins before printed ends =
    on_ok r (list_printed written xs r named begun mid new begins before printed ends) (λ list. appended_more (key name ∷ []) (data_tokens (array (data_items written xs))) old named new first list.appended)

-- resources that all show the same
pub showing_as : (s t : Showing) (xs ys : List Resource) (old new : Written) → s ≡ t → xs ≡ ys → AreItemsPrinted raw_data (all_showing s xs) old new → AreItemsPrinted raw_data (all_showing t ys) old new
showing_as s t xs ys old new shown same printed = subst (λ zs. AreItemsPrinted raw_data (all_showing t zs) old new) same (subst (λ u. AreItemsPrinted raw_data (all_showing u xs) old new) shown printed)
