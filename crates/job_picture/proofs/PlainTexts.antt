-- What a text is in XML is no markup and ends no attribute.
use Rattle.std.proofs.Common.{◌≡◌, ℕ, zero, suc, ◌<◌, ◌≤◌, ◌-◌, ◌==◌, ◌&&◌, ◌⊎◌, Bool, true, false, List, [], ◌∷◌, ◌++◌, append-nil, arith, chars, codes, get_or, inl, inr, length, nat_le, refl, subst, sym, take, if◌then◌else◌}
use Rattle.std.proofs.lemmas.Bool.{and_parts, cases_eq, cases_lt}
use Rattle.std.proofs.lemmas.Bool.Decides.{nat_tests}
use Rattle.std.proofs.lemmas.List.Elements.{All-append, All-from_get_or, All-nil}
use Rattle.std.proofs.lemmas.List.Sums.{AllPass-from_list_all}
use Rattle.std.proofs.lemmas.Str.{inside_one}
use Rattle.std.specs.Char.{encode_utf8}
use lib.Utf8.{encode}
use Rattle.std.specs.List.{All, list_all}
use Rattle.job_picture.specs.Laws.{EscapedIsPlain, ShortenedIsPlain}
use Rattle.job_picture.specs.Texts.{escaped_char, escaped_chars, is_plain, is_unfit, short_text}

abbrev IsPlain : List ℕ → Type 0
IsPlain text = All (λ b. is_plain b ≡ true) text

-- ---- a character below 128

abbrev plain_below : ℕ → Bool
plain_below zero = true
plain_below (suc n) = list_all is_plain (escaped_char n) && plain_below n

below : (n : ℕ) → plain_below n ≡ true → (c : ℕ) → c < n → list_all is_plain (escaped_char c) ≡ true
below zero e c h = absurd (omega arith)
below (suc n) e c h =
    let p = and_parts _ _ e in
    elim (cases_eq c n) [ inl same ↦ rw same p.0 | inr other ↦ below n p.1 c (omega arith) ]

all_below : plain_below 128 ≡ true
unfolding escaped_char encode
all_below = refl

-- ---- another

high_plain : (b : ℕ) → 128 ≤ b → is_plain b ≡ true
high_plain b h = grind (arith, nat_tests)

encoded_plain : (c : ℕ) → 128 ≤ c → IsPlain (encode_utf8 c)
encoded_plain c h = All-from_get_or (λ b. is_plain b ≡ true) (encode_utf8 c) 0
    (λ k within. elim (cases_lt (get_or (encode_utf8 c) k 0) 128) [
      | inl low ↦ absurd (omega (arith, inside_one c [] (encode_utf8 c) k (sym (append-nil _)) within low))
      | inr high ↦ high_plain _ high
    ])

not_low : (c k : ℕ) → 128 ≤ c → k < 128 → (c == k) ≡ false
not_low c k h low = grind (arith, nat_tests)

high_char : (c : ℕ) → 128 ≤ c → (escaped_char c ≡ encode_utf8 0xFFFD) ⊎ (escaped_char c ≡ encode_utf8 c)
unfolding escaped_char
high_char c h =
    rw (not_low c 38 h (omega arith), not_low c 60 h (omega arith), not_low c 62 h (omega arith), not_low c 34 h (omega arith), not_low c 39 h (omega arith))
    (pick (is_unfit c))
  where
    pick : (unfit : Bool) → ((if unfit then encode_utf8 0xFFFD else encode_utf8 c) ≡ encode_utf8 0xFFFD) ⊎ ((if unfit then encode_utf8 0xFFFD else encode_utf8 c) ≡ encode_utf8 c)
    pick true = inl refl
    pick false = inr refl

char_plain : (c : ℕ) → IsPlain (escaped_char c)
char_plain c = elim (cases_lt c 128) [
  | inl low ↦ AllPass-from_list_all is_plain (escaped_char c) (below 128 all_below c low)
  | inr high ↦ elim (high_char c high) [
    | inl is ↦ subst IsPlain (sym is) (encoded_plain 0xFFFD (omega arith))
    | inr is ↦ subst IsPlain (sym is) (encoded_plain c high)
  ]
]

-- ---- texts

chars_plain : (cs : List ℕ) → IsPlain (escaped_chars cs)
chars_plain [] = All-nil (λ b. is_plain b ≡ true)
chars_plain (c ∷ cs) = All-append (λ b. is_plain b ≡ true) (escaped_char c) (escaped_chars cs) (char_plain c) (chars_plain cs)

pub escaped_is_plain : EscapedIsPlain
escaped_is_plain text = chars_plain (chars text)

pub shortened_is_plain : ShortenedIsPlain
unfolding short_text
shortened_is_plain most text = pick (nat_le (length (chars text)) most)
  where
    pick : (fits : Bool) → IsPlain (if fits then escaped_chars (chars text) else escaped_chars (take (most - 1) (chars text)) ++ codes "&#8230;")
    pick true = chars_plain (chars text)
    pick false = All-append (λ b. is_plain b ≡ true) (escaped_chars (take (most - 1) (chars text))) (codes "&#8230;") (chars_plain (take (most - 1) (chars text))) (AllPass-from_list_all is_plain (codes "&#8230;") refl)
