-- Members of an object that are printed one after another.
use Rattle.std.proofs.Common.{◌∙◌, ℕ, List, ◌∷◌, ◌++◌, Result, Ok, Err, OnOk, refl, sym, ap, append_assoc, append-nil}
use Rattle.json.specs.Token.{Token, key}
use Rattle.json.specs.Written.{Written}
use Rattle.serde_json.specs.Data.{Data, Members, no_members, member}
use Rattle.json_text.specs.Printed.{data_tokens, member_tokens, AreMembersPrinted, IsAppended, IsReadAgain}
use Rattle.json_text.proofs.PrintedObjects.{joined, IsOpen, more_members}

-- ---- results

-- what follows from what holds after a success
pub on_ok : {T E : Type 0} {P Q : Type 0} (r : Result T E) → OnOk r P → (P → Q) → OnOk r Q
on_ok (Ok x) p f = f p
on_ok (Err e) p f = tt

pub on_both : {T E : Type 0} {P Q R : Type 0} (r : Result T E) → OnOk r P → OnOk r Q → (P → Q → R) → OnOk r R
on_both (Ok x) p q f = f p q
on_both (Err e) p q f = tt

-- ---- tokens one after another

pub appended_more : (xs ys : List Token) (old mid new : Written) → IsAppended xs old mid → IsAppended ys mid new → IsAppended (xs ++ ys) old new
appended_more xs ys old mid new first second = record {
  tokens = second.tokens ∙ ap (λ t. t ++ ys) first.tokens ∙ append_assoc old.tokens xs ys;
  before = second.before ∙ first.before;
}

-- ---- members one after another

pub members_none : (out : Written) → AreMembersPrinted no_members out out
members_none out = record { appended = record { tokens = sym (append-nil out.tokens); before = refl }; again = tt }

-- one in front of others
pub members_more : {ms : Members} {mid new : Written} (name : List ℕ) (d : Data) (old : Written) → IsAppended (key name ∷ data_tokens d) old mid → IsReadAgain d → AreMembersPrinted ms mid new → AreMembersPrinted (member name d ms) old new
members_more {ms} {mid} {new} name d old first again rest = record {
  appended = appended_more (key name ∷ data_tokens d) (member_tokens ms) old mid new first rest.appended;
  again = (again, rest.again);
}

-- ---- members in an object

-- members behind those that stand in an object
pub open_more : {ms more : Members} {old mid : Written} (new : Written) → IsOpen ms old mid → AreMembersPrinted more mid new → IsOpen (joined ms more) old new
open_more {ms} {more} new stands printed = more_members more new stands printed.appended printed.again
