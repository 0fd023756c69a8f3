-- A request that is carried is by a method that is taken, and has a body by POST alone.
use Rattle.std.proofs.Common.{◌≡◌, ◌∙◌, ℕ, Bool, true, false, if◌then◌else◌, List, [], ◌∷◌, length, map, Option, Some, None, Result, Ok, Err, is_ok, is_some, sym, ap, subst, refl, rules}
use Rattle.std.specs.Prelude.{◌==◌, ◌&&◌, not, codes}
use Rattle.streams.specs.declared.refused.Refused.{Refused}
use Rattle.streams.specs.declared.refused.Refused.TheVariants.{BadHead, NoLength, NotPost, TooLarge, Coding}
use Rattle.http_message.specs.Fields.{NamedValue, is_once}
use Rattle.httparse.specs.Spans.{name_and_value}
use Rattle.http_message.specs.Head.{Head, head_method, head_says, request_seen}
use Rattle.http_message.specs.Laws.{IsAsked, RequestsAreTaken}
use Rattle.http_message.specs.Methods.{if_taken, method_named, method_of, takes}
use Rattle.http_message.specs.Says.{body_length, is_bad, is_coded, length_by_method, length_in_fields, no_body, under}
use Rattle.http_message.specs.declared.kind.Kind.TheVariants as kinds
use Rattle.http_message.specs.declared.method.Method.{Method}
use Rattle.http_message.specs.declared.method.Method.TheVariants as asked
use Rattle.http_message.specs.declared.methods.Methods.{Methods}
use Rattle.http_message.specs.declared.start.Start.TheVariants as starts
use Rattle.http_message.proofs.Heads.{begins_once}

-- ---- a method that is none isn't carried

fails : (c : Bool) (a b : Result ℕ Refused) → is_ok a ≡ false → is_ok b ≡ false → is_ok (if c then a else b) ≡ false
fails true a b p q = p
fails false a b p q = q

none_fails : (most : ℕ) (wants : Bool) (fields : List NamedValue) → is_ok (body_length most (starts.Request None wants) fields) ≡ false
none_fails most wants fields =
    fails (is_bad (length_in_fields most (under (codes "content-length") fields))) (Err BadHead)
    (if wants && not (is_once (under (codes "host") fields)) then Err BadHead else Err NotPost) refl
    (fails (wants && not (is_once (under (codes "host") fields))) (Err BadHead) (Err NotPost) refl refl)

-- ---- one that is taken

some_is : (a b : Method) → Some a ≡ Some b → a ≡ b
some_is a b same = cc

none_is_not : (a : Method) → None ≡ Some a → ⊥
none_is_not a same = let no : false ≡ true = ap is_some same in absurd (search rules)

-- what is left of a method where it is taken
among : (methods : Methods) (named method : Method) (is_taken : Bool) → takes methods named ≡ is_taken
    → (if is_taken then Some named else None) ≡ Some method → takes methods method ≡ true
among methods named method true has same = subst (λ m. takes methods m ≡ true) (some_is named method same) has
among methods named method false has same = absurd (none_is_not method same)

is_among : (methods : Methods) (named : Option Method) (method : Method) → if_taken methods named ≡ Some method → takes methods method ≡ true
is_among methods None method is = absurd (none_is_not method is)
is_among methods (Some named) method is = among methods named method (takes methods named) refl is

-- ---- a body that isn't there

-- a length of 0, or none
abbrev none_or_zero : Result ℕ Refused → Bool
none_or_zero (Ok n) = n == 0
none_or_zero (Err e) = true

either : (c : Bool) (a b : Result ℕ Refused) → none_or_zero a ≡ true → none_or_zero b ≡ true → none_or_zero (if c then a else b) ≡ true
either true a b p q = p
either false a b p q = q

no_body_zero : (length : Result ℕ Refused) → none_or_zero (no_body length) ≡ true
no_body_zero (Ok n) = either (n == 0) (Ok 0) (Err TooLarge) refl refl
no_body_zero (Err NoLength) = refl
no_body_zero (Err e) = refl

-- by POST, or without a body
abbrev posts : Method → Bool
posts asked.Post = true
posts asked.Get = false
posts asked.Head = false

told_zero : (method : Method) (length : Result ℕ Refused) → posts method ≡ false → none_or_zero (length_by_method method length) ≡ true
told_zero asked.Post length is = absurd (search rules)
told_zero asked.Get length is = no_body_zero length
told_zero asked.Head length is = no_body_zero length

said_zero : (most : ℕ) (method : Method) (wants : Bool) (fields : List NamedValue) → posts method ≡ false
    → none_or_zero (body_length most (starts.Request (Some method) wants) fields) ≡ true
said_zero most method wants fields is =
    let length = length_in_fields most (under (codes "content-length") fields) in
    either (is_bad length) (Err BadHead) _ refl
    (either (wants && not (is_once (under (codes "host") fields))) (Err BadHead) _ refl
    (either (is_coded fields) (Err Coding) (length_by_method method length) refl (told_zero method length is)))

empty : (body : List ℕ) → (length body == 0) ≡ true → body ≡ []
empty [] is = refl
empty (c ∷ body) is = absurd (search rules)

-- ---- the law

posted_by : (most : ℕ) (by : Method) (wants : Bool) (fields : List NamedValue) (body : List ℕ)
    → body_length most (starts.Request (Some by) wants) fields ≡ Ok (length body) → (by ≡ asked.Post → ⊥) → body ≡ []
posted_by most asked.Post wants fields body says other = absurd (other refl)
posted_by most asked.Get wants fields body says other =
    empty body (sym (ap none_or_zero says) ∙ said_zero most asked.Get wants fields refl)
posted_by most asked.Head wants fields body says other =
    empty body (sym (ap none_or_zero says) ∙ said_zero most asked.Head wants fields refl)

asked_by : (most : ℕ) (methods : Methods) (name : List ℕ) (wants : Bool) (fields : List NamedValue) (method found : Option Method)
    (body : List ℕ) → method ≡ found → found ≡ method_of methods name
    → body_length most (starts.Request found wants) fields ≡ Ok (length body) → IsAsked methods body method
asked_by most methods name wants fields method None body is of says =
    let no : true ≡ false = sym (ap is_ok says) ∙ none_fails most wants fields in absurd (search rules)
asked_by most methods name wants fields method (Some by) body is of says = record {
  by = by;
  is = is;
  taken = is_among methods (method_named name) by (sym of);
  posted = λ other. posted_by most by wants fields body says other;
}

pub requests_are_taken : RequestsAreTaken
requests_are_taken most methods input status body method carries has =
    let same = begins_once (kinds.Request methods) input has.head carries.head has.begins carries.begins in
    let request = carries.begins.0 in
    let seen : carries.head ≡ request_seen methods request = carries.begins.4 in
    asked_by most methods request.method (request.minor == 1) (map name_and_value request.fields) method
    (method_of methods request.method) body (has.is ∙ ap head_method same ∙ ap head_method seen) refl
    (sym (ap (head_says most) seen) ∙ carries.says)
