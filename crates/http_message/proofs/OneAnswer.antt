-- An input has at most one answer.
use Rattle.std.proofs.Common.{true, false, ◌≡◌, ◌∙◌, ℕ, ◌+◌, List, ◌++◌, length, take, drop, Option, Result, Ok, Err, is_ok, arith, sym, ap, ⊎_elim, length-append}
use Rattle.std.proofs.Math.Seq.{take-append_seam}
use Rattle.streams.specs.declared.refused.Refused.{Refused}
use Rattle.http_message.specs.Head.{Head, BeginsWith, head_method, head_says}
use Rattle.http_message.specs.Laws.{InputsHaveOneAnswer}
use Rattle.http_message.specs.Message.{CarriesWithin, HasHead, HasMethod, HasTarget, IsCut, IsRefusedWithin}
use Rattle.http_message.specs.declared.kind.Kind.{Kind}
use Rattle.http_message.specs.declared.method.Method.{Method}
use Rattle.http_message.proofs.Heads.{begins_once}

ok_is : (m n : ℕ) (r : Result ℕ Refused) → r ≡ Ok m → r ≡ Ok n → m ≡ n
ok_is m n r p q = cc

err_is : (d e : Refused) (r : Result ℕ Refused) → r ≡ Err d → r ≡ Err e → d ≡ e
err_is d e r p q = cc

ok_not_err : {n : ℕ} {d : Refused} (r : Result ℕ Refused) → r ≡ Ok n → r ≡ Err d → ⊥
ok_not_err r p q = let no : true ≡ false = ap is_ok (sym p ∙ q) in cc

-- the fronts of one list, of one length
same_front : (a b p q : List ℕ) → length a ≡ length b → a ++ p ≡ b ++ q → a ≡ b
same_front a b p q long same =
    sym (take-append_seam a p) ∙ ap (λ xs. take (length a) xs) same ∙ ap (λ n. take n (b ++ q)) long ∙ take-append_seam b q

same_head : (most : ℕ) (kind : Kind) (input : List ℕ) (g h : Head) → BeginsWith kind input g → BeginsWith kind input h → head_says most g ≡ head_says most h
same_head most kind input g h x y = ap (head_says most) (begins_once kind input g h x y)

same_status : (most : ℕ) (kind : Kind) (input : List ℕ) (s t : ℕ) (a b : List ℕ) → CarriesWithin most kind input s a → CarriesWithin most kind input t b → s ≡ t
same_status most kind input s t a b x y =
    x.code ∙ ap (λ h. h.code) (begins_once kind input x.head y.head x.begins y.begins) ∙ sym y.code

same_body : (most : ℕ) (kind : Kind) (input : List ℕ) (s t : ℕ) (a b : List ℕ) → CarriesWithin most kind input s a → CarriesWithin most kind input t b → a ≡ b
same_body most kind input s t a b x y =
    let same = begins_once kind input x.head y.head x.begins y.begins in
    same_front a b x.rest y.rest (ok_is (length a) (length b) (head_says most x.head) x.says (ap (head_says most) same ∙ y.says))
    (sym x.behind ∙ ap (λ h. drop h.size input) same ∙ y.behind)

same_bytes : (kind : Kind) (input : List ℕ) (a b : List ℕ) → HasHead kind input a → HasHead kind input b → a ≡ b
same_bytes kind input a b x y =
    x.front ∙ ap (λ h. take h.size input) (begins_once kind input x.head y.head x.begins y.begins) ∙ sym y.front

same_method : (kind : Kind) (input : List ℕ) (a b : Option Method) → HasMethod kind input a → HasMethod kind input b → a ≡ b
same_method kind input a b x y =
    x.is ∙ ap head_method (begins_once kind input x.head y.head x.begins y.begins) ∙ sym y.is

same_target : (kind : Kind) (input : List ℕ) (a b : List ℕ) → HasTarget kind input a → HasTarget kind input b → a ≡ b
same_target kind input a b x y =
    x.is ∙ ap (λ h. h.target) (begins_once kind input x.head y.head x.begins y.begins) ∙ sym y.is

-- what a head says, whose body is there, is a length
says_length : (most : ℕ) (kind : Kind) (input : List ℕ) (s : ℕ) (a : List ℕ) (h : Head) → CarriesWithin most kind input s a → BeginsWith kind input h
    → head_says most h ≡ Ok (length a)
says_length most kind input s a h x begins = same_head most kind input h x.head begins x.begins ∙ x.says

not_cut : (most : ℕ) (kind : Kind) (input : List ℕ) (s : ℕ) (a : List ℕ) → CarriesWithin most kind input s a → IsCut most kind input → ⊥
not_cut most kind input s a x cut =
    let same = begins_once kind input cut.head x.head cut.begins x.begins in
    let wanted : cut.wanted ≡ length a = ok_is cut.wanted (length a) (head_says most cut.head) cut.says (ap (head_says most) same ∙ x.says) in
    let there : length (drop cut.head.size input) ≡ length a + length x.rest =
    ap (λ h. length (drop h.size input)) same ∙ ap length x.behind ∙ length-append a x.rest in
    absurd (omega (arith, wanted, there, cut.short))

carried_or_refused : (most : ℕ) (kind : Kind) (input : List ℕ) (s : ℕ) (a : List ℕ) (e : Refused) → CarriesWithin most kind input s a → IsRefusedWithin most kind input e → ⊥
carried_or_refused most kind input s a e x refused =
    ⊎_elim (λ none. none.1 x.head x.begins)
    (λ other. ⊎_elim
    (λ said. ok_not_err (head_says most said.0) (says_length most kind input s a said.0 x said.1) said.2)
    (λ cut. not_cut most kind input s a x cut.1) other)
    refused

same_refusal : (most : ℕ) (kind : Kind) (input : List ℕ) (d e : Refused) → IsRefusedWithin most kind input d → IsRefusedWithin most kind input e → d ≡ e
same_refusal most kind input d e x y =
    ⊎_elim
    (λ none. ⊎_elim (λ other. none.0 ∙ sym other.0)
    (λ more. ⊎_elim (λ said. absurd (none.1 said.0 said.1)) (λ cut. absurd (none.1 cut.1.head cut.1.begins)) more) y)
    (λ more. ⊎_elim
    (λ said. ⊎_elim (λ none. absurd (none.1 said.0 said.1))
    (λ others. ⊎_elim
    (λ other. err_is d e (head_says most said.0) said.2 (same_head most kind input said.0 other.0 said.1 other.1 ∙ other.2))
    (λ cut. absurd (ok_not_err (head_says most said.0) (same_head most kind input said.0 cut.1.head said.1 cut.1.begins ∙ cut.1.says) said.2)) others) y)
    (λ cut. ⊎_elim (λ none. absurd (none.1 cut.1.head cut.1.begins))
    (λ others. ⊎_elim
    (λ other. absurd (ok_not_err (head_says most other.0) (same_head most kind input other.0 cut.1.head other.1 cut.1.begins ∙ cut.1.says) other.2))
    (λ other. cut.0 ∙ sym other.0) others) y)
    more)
    x

pub one_answer : InputsHaveOneAnswer
one_answer most kind input =
    record {
      status = same_status most kind input;
      body = same_body most kind input;
      refusal = same_refusal most kind input;
      either = λ s a e x refused. carried_or_refused most kind input s a e x refused;
      head = same_bytes kind input;
      method = same_method kind input;
      target = same_target kind input;
    }
