-- Each head has a space and ends in a line feed, so that none ends in a piece without one, and none
-- is of empty lines alone.
use Rattle.std.proofs.Common.{◌≡◌, ◌∙◌, ℕ, ◌<◌, Bool, true, false, List, [], ◌∷◌, ◌++◌, length, drop, get_or, refl, sym, ap, subst, append_assoc, rules}
use Rattle.std.specs.Prelude.{◌==◌, ◌||◌, ◌&&◌, flat_map}
use Rattle.std.proofs.lemmas.List.{append-nil}
use Rattle.httparse.proofs.GrammarLemmas.{print_request-append, print_response-append}
use Rattle.httparse.specs.Grammar.{Field, LineEnd, crlf, lf, print_end, print_blank, print_version, print_field, print_section, print_reason, RequestHead, print_request, ResponseHead, print_response}
use Rattle.http_message.specs.Head.{Head, StartsWith, HasNoStart, HasNoHead}
use Rattle.http_message.specs.Incoming.{is_line_feed, ends_line, is_blank}
use Rattle.http_message.specs.declared.kind.Kind.{Kind}
use Rattle.http_message.specs.declared.kind.Kind.TheVariants as kinds
use Rattle.http_message.proofs.Heads.{few_taken}

-- the bytes end in a line feed
abbrev Ends : List ℕ → Type 0
Ends bytes = (front : List ℕ) × (bytes ≡ front ++ 10 ∷ [])

end_ends : (e : LineEnd) → Ends (print_end e)
end_ends crlf = (13 ∷ [], refl)
end_ends lf = ([], refl)

behind : (a b : List ℕ) → Ends b → Ends (a ++ b)
behind a b e = (a ++ e.0, ap (λ l. a ++ l) e.1 ∙ sym (append_assoc a e.0 (10 ∷ [])))

next : (c : ℕ) (b : List ℕ) → Ends b → Ends (c ∷ b)
next c b e = (c ∷ e.0, ap (λ l. c ∷ l) e.1)

-- they have a space
abbrev HasSpace : List ℕ → Type 0
HasSpace bytes = (front : List ℕ) × (rest : List ℕ) × (bytes ≡ front ++ 32 ∷ rest)

-- the bytes with nothing behind them
as_they_are : (bytes : List ℕ) → Ends (bytes ++ []) → Ends bytes
as_they_are bytes e = subst Ends (append-nil bytes) e

section_ends : (h : List Field) (last : LineEnd) → Ends (print_section h last ++ [])
section_ends fields last =
    subst Ends (sym (append-nil (print_section fields last))) (behind (flat_map print_field fields) (print_end last) (end_ends last))

behind_target : RequestHead → List ℕ
behind_target h = print_version h.minor ++ (print_end h.line_end ++ (print_section h.fields h.last ++ []))

request_ends : (h : RequestHead) → Ends (print_request h)
unfolding behind_target
request_ends h =
    as_they_are (print_request h) (subst Ends (sym (print_request-append h []))
    (behind (print_blank h.blank) (h.method ++ 32 ∷ (h.target ++ 32 ∷ behind_target h))
    (behind h.method (32 ∷ (h.target ++ 32 ∷ behind_target h)) (next 32 (h.target ++ 32 ∷ behind_target h)
    (behind h.target (32 ∷ behind_target h) (next 32 (behind_target h)
    (behind (print_version h.minor) (print_end h.line_end ++ (print_section h.fields h.last ++ []))
    (behind (print_end h.line_end) (print_section h.fields h.last ++ []) (section_ends h.fields h.last)))))))))

request_space : (h : RequestHead) → HasSpace (print_request h)
unfolding behind_target
request_space h = (
  print_blank h.blank ++ h.method,
  h.target ++ 32 ∷ behind_target h,
  sym (append-nil (print_request h)) ∙ print_request-append h []
      ∙ sym (append_assoc (print_blank h.blank) h.method (32 ∷ (h.target ++ 32 ∷ behind_target h))),
)

behind_code : ResponseHead → List ℕ
behind_code h = print_reason h.reason ++ (print_end h.line_end ++ (print_section h.fields h.last ++ []))

response_ends : (h : ResponseHead) → Ends (print_response h)
unfolding behind_code
response_ends h =
    as_they_are (print_response h) (subst Ends (sym (print_response-append h []))
    (behind (print_blank h.blank) (print_version h.minor ++ 32 ∷ (h.digits ++ behind_code h))
    (behind (print_version h.minor) (32 ∷ (h.digits ++ behind_code h)) (next 32 (h.digits ++ behind_code h)
    (behind h.digits (behind_code h)
    (behind (print_reason h.reason) (print_end h.line_end ++ (print_section h.fields h.last ++ []))
    (behind (print_end h.line_end) (print_section h.fields h.last ++ []) (section_ends h.fields h.last))))))))

response_space : (h : ResponseHead) → HasSpace (print_response h)
unfolding behind_code
response_space h = (
  print_blank h.blank ++ print_version h.minor,
  h.digits ++ behind_code h,
  sym (append-nil (print_response h)) ∙ print_response-append h []
      ∙ sym (append_assoc (print_blank h.blank) (print_version h.minor) (32 ∷ (h.digits ++ behind_code h))),
)

-- the text of a head at the front of bytes: it stands at the front of all bytes that begin with it
record TextOf (kind : Kind) (bytes : List ℕ) (head : Head) : Type 0 where
  text : List ℕ
  rest : List ℕ
  is : bytes ≡ text ++ rest
  ends : Ends text
  space : HasSpace text
  again : (other more : List ℕ) → other ≡ text ++ more → StartsWith kind other head

text_of : (kind : Kind) (bytes : List ℕ) (head : Head) → StartsWith kind bytes head → TextOf kind bytes head
text_of (kinds.Request methods) bytes head s = record {
  text = print_request s.0;
  rest = s.1;
  is = s.2.1;
  ends = request_ends s.0;
  space = request_space s.0;
  again = λ other more is. (s.0, more, (s.2.0, is), s.3, s.4);
}
text_of kinds.Response bytes head s = record {
  text = print_response s.0;
  rest = s.1;
  is = s.2.1;
  ends = response_ends s.0;
  space = response_space s.0;
  again = λ other more is. (s.0, more, (s.2.0, is), s.3, s.4);
}

-- ---- a piece without a line feed

same_first : (c d : ℕ) (a b : List ℕ) → c ∷ a ≡ d ∷ b → c ≡ d
same_first c d a b same = ap (λ l. get_or l 0 0) same

same_rest : (c d : ℕ) (a b : List ℕ) → c ∷ a ≡ d ∷ b → a ≡ b
same_rest c d a b same = ap (λ l. drop 1 l) same

ends_there : (front rest : List ℕ) → ends_line (front ++ 10 ∷ rest) ≡ true
ends_there [] rest = refl
ends_there (c ∷ front) rest = either (is_line_feed c) (ends_line (front ++ 10 ∷ rest)) (ends_there front rest)
  where
    either : (a b : Bool) → b ≡ true → (a || b) ≡ true
    either true b is = refl
    either false b is = is

-- a line feed of the whole stands before the piece
before_piece : (bytes piece front rest : List ℕ) → ends_line piece ≡ false → bytes ++ piece ≡ front ++ 10 ∷ rest
    → (more : List ℕ) × (bytes ≡ front ++ 10 ∷ more)
before_piece [] piece front rest none is =
    let both : true ≡ false = sym (ends_there front rest) ∙ sym (ap ends_line is) ∙ none in absurd (search rules)
before_piece (c ∷ bytes) piece [] rest none is = (bytes, ap (λ d. d ∷ bytes) (same_first c 10 (bytes ++ piece) rest is))
before_piece (c ∷ bytes) piece (d ∷ front) rest none is =
    let more = before_piece bytes piece front rest none (same_rest c d (bytes ++ piece) (front ++ 10 ∷ rest) is) in
    (more.0, ap (λ l. c ∷ l) more.1 ∙ ap (λ e. e ∷ (front ++ 10 ∷ more.0)) (same_first c d (bytes ++ piece) (front ++ 10 ∷ rest) is))

no_start_more : (kind : Kind) (bytes piece : List ℕ) → HasNoStart kind bytes → ends_line piece ≡ false
    → HasNoStart kind (bytes ++ piece)
no_start_more kind bytes piece none quiet head starts =
    let t = text_of kind (bytes ++ piece) head starts in
    let at : bytes ++ piece ≡ t.ends.0 ++ 10 ∷ t.rest =
    t.is ∙ ap (λ text. text ++ t.rest) t.ends.1 ∙ append_assoc t.ends.0 (10 ∷ []) t.rest in
    let found = before_piece bytes piece t.ends.0 t.rest quiet at in
    none head (t.again bytes found.0
    (found.1 ∙ sym (append_assoc t.ends.0 (10 ∷ []) found.0) ∙ ap (λ text. text ++ found.0) (sym t.ends.1)))

-- what holds of the start of few bytes holds of their head
no_head : (kind : Kind) (bytes : List ℕ) → length bytes < 8192 → HasNoStart kind bytes → HasNoHead kind bytes
no_head kind bytes short none head begins =
    none head (subst (λ (b : List ℕ). StartsWith kind b head) (few_taken 8192 bytes short) begins)

no_start : (kind : Kind) (bytes : List ℕ) → length bytes < 8192 → HasNoHead kind bytes → HasNoStart kind bytes
no_start kind bytes short none head starts =
    none head (subst (λ (b : List ℕ). StartsWith kind b head) (sym (few_taken 8192 bytes short)) starts)

-- no head ends in a piece without a line feed
pub no_head_more : (kind : Kind) (bytes piece : List ℕ) → length bytes < 8192 → length (bytes ++ piece) < 8192
    → HasNoHead kind bytes → ends_line piece ≡ false → HasNoHead kind (bytes ++ piece)
no_head_more kind bytes piece few short none quiet =
    no_head kind (bytes ++ piece) short (λ h s. no_start_more kind bytes piece (λ k t. no_start kind bytes few none k t) quiet h s)

-- ---- empty lines

not_blank : (front rest : List ℕ) → is_blank (front ++ 32 ∷ rest) ≡ false
not_blank [] rest = refl
not_blank (c ∷ front) rest = both ((c == 10) || (c == 13)) (is_blank (front ++ 32 ∷ rest)) (not_blank front rest)
  where
    both : (a b : Bool) → b ≡ false → (a && b) ≡ false
    both true b is = is
    both false b is = refl

-- no head is of empty lines alone
pub no_head_in_blank : (kind : Kind) (bytes : List ℕ) → length bytes < 8192 → is_blank bytes ≡ true
    → HasNoHead kind bytes
no_head_in_blank kind bytes short blank =
    no_head kind bytes short (λ head starts.
    let t = text_of kind bytes head starts in
    let at : bytes ≡ t.space.0 ++ 32 ∷ (t.space.1 ++ t.rest) =
    t.is ∙ ap (λ text. text ++ t.rest) t.space.2 ∙ append_assoc t.space.0 (32 ∷ t.space.1) t.rest in
    let both : true ≡ false = sym blank ∙ ap is_blank at ∙ not_blank t.space.0 (t.space.1 ++ t.rest) in
    absurd (search rules))
