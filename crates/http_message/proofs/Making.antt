-- What was found of a head, and how far a message is.
use Rattle.std.proofs.Common.{◌≡◌, ◌∙◌, ℕ, ◌≤◌, ◌+◌, ◌-◌, true, List, ◌++◌, length, take, drop, append_assoc, slice_range, Ok, Err, arith, sym, subst, ap, refl, inl, inr, ⊎_elim}
use Rattle.std.proofs.lemmas.Bool.{cases_lt}
use Rattle.std.proofs.lemmas.List.{take-append-drop, take-append-le, drop-append-le}
use Rattle.httparse.proofs.RunLemmas.{length-slice_range}
use Rattle.streams.specs.declared.refused.Refused.{Refused}
use Rattle.streams.specs.declared.refused.Refused.TheVariants.{BadHead}
use Rattle.http_message.specs.Head.{Head, BeginsWith, HasNoHead, IfHead, IsToldOf, IsBounded, StartsWith, head_says}
use Rattle.http_message.specs.Incoming.{Always, IsFound, IsHeadOf, IsLost, IsWhole}
use Rattle.http_message.specs.Message.{is_refusal}
use Rattle.http_message.specs.declared.kind.Kind.{Kind}
use Rattle.http_message.specs.declared.look.Look.{Look}
use Rattle.http_message.specs.declared.look.Look.TheVariants as looks
use Rattle.http_message.specs.declared.head_says.HeadFacts.{HeadFacts}
use Rattle.http_message.proofs.Heads.{begins_more, head_alone}
use Rattle.http_message.proofs.Said.{is_of_http, said_of_http}

-- ---- what was found

pub found_by : (most : ℕ) (kind : Kind) (bytes : List ℕ) (look : Look)
    → IfHead look (λ told. (head : Head) × BeginsWith kind bytes head × IsToldOf most bytes head told)
    → IfHead look (IsBounded most (length bytes))
    → (look ≡ looks.Part → HasNoHead kind bytes)
    → (look ≡ looks.Never → Always bytes (HasNoHead kind))
    → (8192 ≤ length bytes → look ≡ looks.Part → ⊥)
    → IsFound most kind bytes look
found_by most kind bytes (looks.Head told) head bound part never full =
    record { head = head.0; begins = head.1; told_of = head.2; bounded = bound }
found_by most kind bytes looks.Part head bound part never full = record {
  none = λ h b. part refl h b;
  short = ⊎_elim (λ few. few) (λ many. absurd (full many refl)) (cases_lt (length bytes) 8192);
}
found_by most kind bytes looks.Never head bound part never full = λ more h b. never refl more h b

-- ---- where it stands

-- the body stands behind the head
body_behind : (new rest : List ℕ) (size n : ℕ) → size + n ≤ length new
    → drop size (new ++ rest) ≡ slice_range new size (size + n) ++ (drop ((size + n) - size) (drop size new) ++ rest)
body_behind new rest size n within =
    drop-append-le size new rest (omega (arith, within))
    ∙ ap (λ xs. xs ++ rest) (sym (take-append-drop ((size + n) - size) (drop size new)))
    ∙ append_assoc (slice_range new size (size + n)) (drop ((size + n) - size) (drop size new)) rest

body_length : (new : List ℕ) (size n : ℕ) → size + n ≤ length new → n ≡ length (slice_range new size (size + n))
body_length new size n within =
    sym (length-slice_range new size (size + n) (omega arith) within ∙ (let e : (size + n) - size ≡ n = omega arith in e))

of_http : (most : ℕ) (h : Head) (e : Refused) → head_says most h ≡ Err e → is_refusal e ≡ true
of_http most h e says = sym (ap is_of_http says) ∙ said_of_http most h.start h.fields

pub lost_by_head : (most : ℕ) (kind : Kind) (bytes : List ℕ) (told : HeadFacts) (e : Refused)
    → IsHeadOf most kind bytes told → told.says ≡ Err e → IsLost most kind bytes e
lost_by_head most kind bytes told e has says =
    let said = sym has.told_of.says ∙ says in
    record {
      refusal = of_http most has.head e said;
      always = λ more. inr (inl (has.head, begins_more kind bytes more has.head has.begins, said));
    }

pub whole_there : (most : ℕ) (kind : Kind) (bytes : List ℕ) (told : HeadFacts) (n : ℕ)
    → IsHeadOf most kind bytes told → told.says ≡ Ok n → told.size + n ≤ length bytes
    → IsWhole most kind bytes (record { status = told.code; method = told.method; target = told.target; start = told.size; end = told.size + n })
whole_there most kind bytes told n has says within =
    record {
      target = has.bounded.target;
      ordered = omega arith;
      within = within;
      says = record {
        carries = λ more. record {
          head = has.head;
          begins = begins_more kind bytes more has.head has.begins;
          says = sym has.told_of.says ∙ says ∙ ap Ok (body_length bytes told.size n within);
          code = has.told_of.code;
          rest = drop ((told.size + n) - told.size) (drop told.size bytes) ++ more;
          behind = ap (λ s. drop s (bytes ++ more)) (sym has.told_of.size) ∙ body_behind bytes more told.size n within;
        };
        asked = λ more. record {
          head = has.head;
          begins = begins_more kind bytes more has.head has.begins;
          is = has.told_of.method;
        };
        headed = λ more. record {
          head = has.head;
          begins = begins_more kind bytes more has.head has.begins;
          front = sym (take-append-le told.size bytes more has.bounded.size) ∙ ap (λ s. take s (bytes ++ more)) has.told_of.size;
          itself = subst (λ (s : ℕ). StartsWith kind (take s bytes) has.head) (sym has.told_of.size)
              (head_alone kind bytes has.head has.begins);
        };
        targeted = λ more. record {
          head = has.head;
          begins = begins_more kind bytes more has.head has.begins;
          is = has.told_of.target;
        };
      };
    }

pub lost_never : (most : ℕ) (kind : Kind) (bytes : List ℕ) → IsFound most kind bytes looks.Never → IsLost most kind bytes BadHead
lost_never most kind bytes never = record { refusal = refl; always = λ more. inl (refl, λ h b. never more h b) }
