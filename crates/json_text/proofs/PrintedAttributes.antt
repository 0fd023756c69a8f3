-- Attributes that are printed one after another.
use Rattle.std.proofs.Common.{◌≡◌, ◌∙◌, ℕ, true, List, [], ◌∷◌, ◌++◌, refl, sym, ap, subst, append_assoc, append-nil}
use Rattle.std.proofs.lemmas.Bool.{and_from}
use Rattle.std.proofs.lemmas.List.Folds.{list_all-append}
use Rattle.std.specs.List.{list_all}
use Rattle.json.specs.Token.{key}
use Rattle.json.specs.Written.{Written}
use Rattle.serde_json.specs.Data.{member, no_members, string}
use Rattle.ticket_items.specs.Attrs.{Pairs, IsInOrder}
use Rattle.ticket_items.specs.Names.{is_name, is_text}
use Rattle.json_items.specs.Attributes.{attr_members}
use Rattle.json_items.proofs.Attributes.{put-attr_members}
use Rattle.json_text.specs.Printed.{data_tokens, IsAppended}
use Rattle.json_text.proofs.PrintedObjects.{IsOpen, joined, one_member}
use Rattle.json_text.proofs.Tokens.{put_all}

joined_attr : (done : Pairs) (p : List ℕ × List ℕ) → joined (attr_members done) (member p.0 (string p.1) no_members) ≡ attr_members (done ++ p ∷ [])
joined_attr [] p = refl
joined_attr (q ∷ done) p = ap (member q.0 (string q.1)) (joined_attr done p)

put_rest : (done rest : Pairs) → IsInOrder (done ++ rest) → put_all (attr_members rest) (attr_members done) ≡ attr_members (done ++ rest)
put_rest done [] h = ap attr_members (sym (append-nil done))
put_rest done (p ∷ rest) h =
    ap (put_all (attr_members rest)) (put-attr_members done p rest h) ∙ put_rest (done ++ p ∷ []) rest (subst IsInOrder (sym (append_assoc done (p ∷ []) rest)) h) ∙ ap attr_members (append_assoc done (p ∷ []) rest)

-- they stand in the order of their names
pub attrs_ordered : (all : Pairs) → IsInOrder all → put_all (attr_members all) no_members ≡ attr_members all
attrs_ordered all h = put_rest [] all h

-- the pairs before `left` are printed, and their names and texts are valid
pub record IsPrintedSoFar (all left : Pairs) (old new : Written) : Type 0 where
  pub done : Pairs
  pub split : done ++ left ≡ all
  pub shown : IsOpen (attr_members done) old new
  pub names : list_all (λ p. is_name p.0) done ≡ true
  pub texts : list_all (λ p. is_text p.1) done ≡ true

pub attrs_none : (all left : Pairs) (old new : Written) → left ≡ all → IsOpen no_members old new → IsPrintedSoFar all left old new
attrs_none all left old new e is = record { done = []; split = e; shown = is; names = refl; texts = refl }

pub attrs_more : (all left rest : Pairs) (name text : List ℕ) (old mid new : Written) → IsPrintedSoFar all left old mid → left ≡ (name, text) ∷ rest → IsAppended (key name ∷ data_tokens (string text)) mid new → is_name name ≡ true → is_text text ≡ true → IsPrintedSoFar all rest old new
attrs_more all left rest name text old mid new before step appended valid_name valid_text =
    let p : List ℕ × List ℕ = (name, text) in
    record {
      done = before.done ++ p ∷ [];
      split = append_assoc before.done (p ∷ []) rest ∙ ap (λ xs. before.done ++ xs) (sym step) ∙ before.split;
      shown = subst (λ ms. IsOpen ms old new) (joined_attr before.done p) (one_member name (string text) new before.shown appended refl);
      names = list_all-append (λ q. is_name q.0) before.done (p ∷ []) ∙ and_from _ _ before.names (and_from _ _ valid_name refl);
      texts = list_all-append (λ q. is_text q.1) before.done (p ∷ []) ∙ and_from _ _ before.texts (and_from _ _ valid_text refl);
    }

-- nothing is left
pub record AreAllPrinted (all : Pairs) (old new : Written) : Type 0 where
  pub shown : IsOpen (attr_members all) old new
  pub names : list_all (λ p. is_name p.0) all ≡ true
  pub texts : list_all (λ p. is_text p.1) all ≡ true

pub attrs_all : (all left : Pairs) (old new : Written) → IsPrintedSoFar all left old new → left ≡ [] → AreAllPrinted all old new
attrs_all all left old new before none =
    let whole : before.done ≡ all = sym (append-nil before.done) ∙ ap (λ xs. before.done ++ xs) (sym none) ∙ before.split in
    record { shown = subst (λ ps. IsOpen (attr_members ps) old new) whole before.shown; names = ap (list_all (λ p. is_name p.0)) (sym whole) ∙ before.names; texts = ap (list_all (λ p. is_text p.1)) (sym whole) ∙ before.texts }
