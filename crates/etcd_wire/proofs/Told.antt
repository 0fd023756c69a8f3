-- What an answer tells.
use Rattle.std.proofs.Common.{◌≡◌, ◌⊎◌, ℕ, List, refl, sym, ◌∙◌, ap, subst}
use Rattle.std.specs.Prelude.{Option, Some, None, Result, Ok, Err}
use Rattle.std.specs.Str.{IsUtf8}
use Rattle.json.specs.Find.{at}
use Rattle.json.specs.Json.{Json, null, boolean, number, string, array, object, item, no_items, document}
use Rattle.cells.specs.declared.swapped.SwapResult.{SwapResult}
use Rattle.cells.specs.declared.swapped.SwapResult.TheVariants.{Made, Other, Unknown}
use Rattle.etcd_wire.specs.Answer.{Answers, DidNot, Succeeded, TellsSwap}
use Rattle.etcd_wire.specs.Request.{one}
use Rattle.etcd_wire.specs.declared.no_answer.NoAnswer.{NoAnswer}

pub one_json : (o : Option Json) (a b : Json) → o ≡ Some a → o ≡ Some b → a ≡ b
one_json o a b is_a is_b = cc (sym is_a ∙ is_b)

pub ok_same : {E : Type 0} (m n : ℕ) → ◌≡◌ {A = Result ℕ E} (Ok m) (Ok n) → m ≡ n
ok_same m n same = cc same

pub err_same : {A : Type 0} (e f : NoAnswer) → ◌≡◌ {A = Result A NoAnswer} (Err e) (Err f) → e ≡ f
err_same e f same = cc same

pub tells_swap : (status : ℕ) (body : List ℕ) (j : Json) (r : SwapResult) → status ≡ 200 → IsUtf8 body → document body ≡ Some j → ((revision : ℕ) → r ≡ Made revision → Answers j revision × Succeeded j) → (r ≡ Other → ((n : ℕ) × Answers j n) × DidNot j) → (r ≡ Unknown → (n : ℕ) → Answers j n → Succeeded j ⊎ DidNot j → ⊥) → TellsSwap status body r
tells_swap status body j (Made revision) ok utf8 reads made other unknown =
    let told = made revision refl in
    record { is_ok = ok; utf8 = utf8; json = j; reads = reads; revision = revision; answers = told.0; tells = (refl, told.1) }
tells_swap status body j Other ok utf8 reads made other unknown =
    let told = other refl in
    record { is_ok = ok; utf8 = utf8; json = j; reads = reads; revision = told.0.0; answers = told.0.1; tells = told.1 }
tells_swap status body j Unknown ok utf8 reads made other unknown = λ t.
    let same : t.json ≡ j = one_json (document body) t.json j t.reads reads in
    unknown refl t.revision (subst (λ (k : Json). Answers k t.revision) same t.answers) (subst (λ (k : Json). Succeeded k ⊎ DidNot k) same t.tells)

-- a list of one is one that has a first item and no second
pub one_of : (j x : Json) → at 0 j ≡ Some x → at 1 j ≡ None → j ≡ one x
one_of null x first second = absurd (cc first)
one_of (boolean b) x first second = absurd (cc first)
one_of (number s) x first second = absurd (cc first)
one_of (string s) x first second = absurd (cc first)
one_of (object ms) x first second = absurd (cc first)
one_of (array no_items) x first second = absurd (cc first)
one_of (array (item y no_items)) x first second = ap one (cc first)
one_of (array (item y (item z rest))) x first second = absurd (cc second)

pub none_of : (j x : Json) → at 0 j ≡ None → j ≡ one x → ⊥
none_of j x first is = absurd (cc (sym first ∙ ap (at 0) is))

pub more_of : (j x y : Json) → at 1 j ≡ Some y → j ≡ one x → ⊥
more_of j x y second is = absurd (cc (sym second ∙ ap (at 1) is))
