-- Objects that are printed a member at a time.
use Rattle.std.proofs.Common.{◌≡◌, ◌∙◌, ℕ, List, [], ◌∷◌, ◌++◌, Result, Ok, Err, OnOk, refl, sym, ap, subst, append_assoc, append-nil}
use Rattle.json.specs.Token.{begin_object, end_object, key}
use Rattle.json.specs.Tree.{members_tokens}
use Rattle.json.specs.Written.{Written, Writes}
use Rattle.serde_json.specs.Data.{Data, object, Members, no_members, member}
use Rattle.serde_json.specs.Written.{members_outline}
use Rattle.json_text.specs.Printed.{data_tokens, member_tokens, IsAppended, IsPrinted, IsReadAgain, AreReadAgain}
use Rattle.json_text.proofs.Tokens.{put_all, object_again}

pub on_any : {A E : Type 0} {P : Type 0} (r : Result A E) → P → OnOk r P
on_any (Ok a) p = p
on_any (Err e) p = tt

-- members behind others
abbrev pub joined : Members → Members → Members
joined no_members more = more
joined (member k d ms) more = member k d (joined ms more)

-- the tokens of an object without its end stand behind the others
pub record IsOpen (ms : Members) (old new : Written) : Type 0 where
  pub tokens : new.tokens ≡ old.tokens ++ begin_object ∷ member_tokens ms
  pub before : new.before ≡ old.before
  pub again : AreReadAgain ms

pub opened : {E : Type 0} (r : Result (Unit {0}) E) (old new : Written) → Writes r old new begin_object → new.tokens ≡ old.tokens ++ begin_object ∷ [] → IsOpen no_members old new
opened r old new writes ok = record { tokens = ok; before = writes.room.0; again = tt }

pub tokens_joined : (ms more : Members) → member_tokens (joined ms more) ≡ member_tokens ms ++ member_tokens more
tokens_joined no_members more = refl
tokens_joined (member k d ms) more =
    ap (λ ts. key k ∷ (data_tokens d ++ ts)) (tokens_joined ms more) ∙ ap (λ ts. key k ∷ ts) (sym (append_assoc (data_tokens d) (member_tokens ms) (member_tokens more)))

pub again_joined : (ms more : Members) → AreReadAgain ms → AreReadAgain more → AreReadAgain (joined ms more)
again_joined no_members more all others = others
again_joined (member k d ms) more all others = (all.0, again_joined ms more all.1 others)

-- members behind those that stand
pub more_members : {ms : Members} {old mid : Written} (more : Members) (new : Written) → IsOpen ms old mid → IsAppended (member_tokens more) mid new → AreReadAgain more → IsOpen (joined ms more) old new
more_members {ms} {old} {mid} more new before appended again = record {
  tokens = appended.tokens ∙ ap (λ ts. ts ++ member_tokens more) before.tokens ∙ append_assoc old.tokens (begin_object ∷ member_tokens ms) (member_tokens more)
      ∙ ap (λ ts. old.tokens ++ begin_object ∷ ts) (sym (tokens_joined ms more));
  before = appended.before ∙ before.before;
  again = again_joined ms more before.again again;
}

-- one member behind those that stand
pub one_member : {ms : Members} {old mid : Written} (k : List ℕ) (d : Data) (new : Written) → IsOpen ms old mid → IsAppended (key k ∷ data_tokens d) mid new → IsReadAgain d → IsOpen (joined ms (member k d no_members)) old new
one_member {ms} {old} {mid} k d new before appended again =
    more_members (member k d no_members) new before (record { tokens = appended.tokens ∙ ap (λ ts. mid.tokens ++ key k ∷ ts) (sym (append-nil (data_tokens d))); before = appended.before }) (again, tt)

closed_tokens : (ms : Members) → member_tokens ms ++ end_object ∷ [] ≡ members_tokens (members_outline ms)
closed_tokens no_members = refl
closed_tokens (member k d ms) = ap (λ ts. key k ∷ ts) (append_assoc (data_tokens d) (member_tokens ms) (end_object ∷ []) ∙ ap (λ ts. data_tokens d ++ ts) (closed_tokens ms))

-- the end of an object whose members stand in order
pub closed : {E : Type 0} {ms : Members} {old mid : Written} (r : Result (Unit {0}) E) (new : Written) → IsOpen ms old mid → Writes r mid new end_object → put_all ms no_members ≡ ms → OnOk r (IsPrinted (object ms) old new)
closed {E} {ms} {old} {mid} (Ok u) new before writes order = record {
  appended = record {
    tokens = writes.ok ∙ ap (λ ts. ts ++ end_object ∷ []) before.tokens ∙ append_assoc old.tokens (begin_object ∷ member_tokens ms) (end_object ∷ []) ∙ ap (λ ts. old.tokens ++ begin_object ∷ ts) (closed_tokens ms);
    before = writes.room.0 ∙ before.before;
  };
  again = object_again ms before.again order;
}
closed {E} {ms} {old} {mid} (Err e) new before writes order = tt

-- the same, told of equal data
pub same_member : {ms : Members} {old mid : Written} (k : List ℕ) (d e : Data) (new : Written) → IsOpen ms old mid → IsAppended (key k ∷ data_tokens d) mid new → IsReadAgain d → d ≡ e → IsOpen (joined ms (member k e no_members)) old new
same_member {ms} {old} {mid} k d e new before appended again same = subst (λ x. IsOpen (joined ms (member k x no_members)) old new) same (one_member k d new before appended again)

-- data behind a name
pub keyed : {d : Data} (k : List ℕ) (old named new : Written) → named.tokens ≡ old.tokens ++ key k ∷ [] → named.before ≡ old.before → IsPrinted d named new → IsAppended (key k ∷ data_tokens d) old new
keyed {d} k old named new name before printed = record {
  tokens = printed.appended.tokens ∙ ap (λ ts. ts ++ data_tokens d) name ∙ append_assoc old.tokens (key k ∷ []) (data_tokens d);
  before = printed.appended.before ∙ before;
}
