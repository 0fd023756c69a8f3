-- A message in the making, and one more piece.
use Rattle.std.proofs.Common.{◌≡◌, ◌∙◌, ℕ, ◌<◌, ◌≤◌, ◌+◌, Bool, true, false, List, [], ◌∷◌, ◌++◌, length, arith, sym, subst, refl, cond, inl, inr, ⊎_elim, append_assoc, length-append, rules}
use Rattle.std.specs.Prelude.{◌⊎◌, ◌&&◌, ◌||◌, not, nat_le}
use Rattle.std.proofs.lemmas.Bool.{leb-false, lt-leb}
use Rattle.std.proofs.lemmas.List.Sums.{count_by-le-length, sum_by-append, sum_by-cons}
use Rattle.http_message.specs.Head.{BeginsWith}
use Rattle.http_message.specs.Incoming.{IsComing, IsFound, is_line_feed, is_blank, ends_line, last_look, line_feeds, wants_look}
use Rattle.http_message.specs.declared.kind.Kind.{Kind}
use Rattle.http_message.specs.declared.look.Look.{Look}
use Rattle.http_message.specs.declared.look.Look.TheVariants as looks
use Rattle.http_message.proofs.Heads.{begins_more, within_front}
use Rattle.http_message.proofs.LineEnds.{no_head_more, no_head_in_blank}

-- ---- line feeds

-- 1 for a line feed
abbrev feed : ℕ → ℕ
feed c = cond (is_line_feed c) 1 0

feeds-append : (a b : List ℕ) → line_feeds (a ++ b) ≡ line_feeds a + line_feeds b
feeds-append a b = sum_by-append feed a b

-- where a line ends there is a line feed
feeds-some : (piece : List ℕ) → ends_line piece ≡ true → 0 < line_feeds piece
feeds-some [] ends = absurd (search rules)
feeds-some (c ∷ piece) ends =
    let sum : line_feeds (c ∷ piece) ≡ feed c + line_feeds piece = sum_by-cons feed c piece in
    omega (arith, sum, one (is_line_feed c) ends (feeds-some piece))
  where
    one : (t : Bool) → (t || ends_line piece) ≡ true → (ends_line piece ≡ true → 0 < line_feeds piece)
        → 0 < cond t 1 0 + line_feeds piece
    one true ends rest = omega arith
    one false ends rest = omega (arith, rest ends)

feeds-le : (bytes : List ℕ) → line_feeds bytes ≤ length bytes
feeds-le bytes = count_by-le-length is_line_feed bytes

-- ---- what a look is wanted for

or_false : (a b : Bool) → (a || b) ≡ false → (a ≡ false) × (b ≡ false)
or_false true b is = absurd (search rules)
or_false false b is = (refl, is)

not_ended : (ends blank : Bool) → (ends && not blank) ≡ false → (ends ≡ false) ⊎ (blank ≡ true)
not_ended true true is = inr refl
not_ended true false is = absurd (search rules)
not_ended false blank is = inl refl

first_of_both : (a b : Bool) → (a && b) ≡ true → a ≡ true
first_of_both true b is = refl
first_of_both false b is = absurd (search rules)

either_true : (a b : Bool) → (a || b) ≡ true → b ≡ false → a ≡ true
either_true true b is none = refl
either_true false b is none = sym none ∙ is

-- ---- what was found stays where nothing is looked for

kept : (most : ℕ) (kind : Kind) (bytes piece : List ℕ) (look : Look) → IsFound most kind bytes look
    → wants_look look (bytes ++ piece) piece ≡ false → IsFound most kind (bytes ++ piece) look
kept most kind bytes piece (looks.Head told) found none = record {
  head = found.head;
  begins = begins_more kind bytes piece found.head found.begins;
  told_of = record {
    size = found.told_of.size;
    code = found.told_of.code;
    method = found.told_of.method;
    target = within_front bytes piece told.target found.bounded.target ∙ found.told_of.target;
    says = found.told_of.says;
    expects = found.told_of.expects;
  };
  bounded = record {
    size = omega (arith, found.bounded.size, length-append bytes piece);
    target = (found.bounded.target.0, omega (arith, found.bounded.target.1, length-append bytes piece));
    body = found.bounded.body;
  };
}
kept most kind bytes piece looks.Part found none =
    let parts = or_false (ends_line piece && not (is_blank (bytes ++ piece))) (nat_le 8192 (length (bytes ++ piece))) none in
    let short : length (bytes ++ piece) < 8192 = leb-false 8192 (length (bytes ++ piece)) parts.1 in
    record {
      none = ⊎_elim
          (λ quiet. λ h b. no_head_more kind bytes piece found.short short (λ k t. found.none k t) quiet h b)
          (λ blank. λ h b. no_head_in_blank kind (bytes ++ piece) short blank h b)
          (not_ended (ends_line piece) (is_blank (bytes ++ piece)) parts.0);
      short = short;
    }
kept most kind bytes piece looks.Never found none =
    λ more h b. found (piece ++ more) h (subst (λ (all : List ℕ). BeginsWith kind all h) (append_assoc bytes piece more) b)

coming_on : (most : ℕ) (kind : Kind) (bytes piece : List ℕ) (look : Look) (count : ℕ) → IsComing most kind bytes look count
    → wants_look look (bytes ++ piece) piece ≡ false → IsComing most kind (bytes ++ piece) look count
coming_on most kind bytes piece look count coming none = record {
  found = kept most kind bytes piece look coming.found none;
  bound = omega (arith, coming.bound, feeds-append bytes piece);
}

-- ---- one look more

-- before a look, none found a head
no_last_look : (look : Look) (all piece : List ℕ) → wants_look look all piece ≡ true → last_look look ≡ 0
no_last_look (looks.Head told) all piece wants = absurd (search rules)
no_last_look looks.Part all piece wants = refl
no_last_look looks.Never all piece wants = absurd (search rules)

more_feeds : (look : Look) (bytes piece : List ℕ) → wants_look look (bytes ++ piece) piece ≡ true
    → length (bytes ++ piece) < 8192 → 0 < line_feeds piece
more_feeds (looks.Head told) bytes piece wants short = absurd (search rules)
more_feeds looks.Part bytes piece wants short =
    feeds-some piece (first_of_both (ends_line piece) (not (is_blank (bytes ++ piece)))
    (either_true (ends_line piece && not (is_blank (bytes ++ piece))) (nat_le 8192 (length (bytes ++ piece))) wants
    (lt-leb 8192 (length (bytes ++ piece)) short)))
more_feeds looks.Never bytes piece wants short = absurd (search rules)

bound_then : (most : ℕ) (kind : Kind) (bytes piece : List ℕ) (look found : Look) (count : ℕ) → IsComing most kind bytes look count
    → wants_look look (bytes ++ piece) piece ≡ true → IsFound most kind (bytes ++ piece) found
    → count + 1 ≤ line_feeds (bytes ++ piece) + last_look found
bound_then most kind bytes piece look (looks.Head told) count coming wants is =
    omega (arith, coming.bound, feeds-append bytes piece, no_last_look look (bytes ++ piece) piece wants)
bound_then most kind bytes piece look looks.Part count coming wants is =
    omega (
      arith,
      coming.bound,
      feeds-append bytes piece,
      no_last_look look (bytes ++ piece) piece wants,
      more_feeds look bytes piece wants is.short,
    )
bound_then most kind bytes piece look looks.Never count coming wants is =
    omega (arith, coming.bound, feeds-append bytes piece, no_last_look look (bytes ++ piece) piece wants)

coming_then : (most : ℕ) (kind : Kind) (bytes piece : List ℕ) (look found : Look) (count : ℕ) → IsComing most kind bytes look count
    → wants_look look (bytes ++ piece) piece ≡ true → IsFound most kind (bytes ++ piece) found
    → IsComing most kind (bytes ++ piece) found (count + 1)
coming_then most kind bytes piece look found count coming wants is = record {
  found = is;
  bound = bound_then most kind bytes piece look found count coming wants is;
}

-- the looks are fewer than the bytes and one
few_looks : (most : ℕ) (kind : Kind) (bytes piece : List ℕ) (look : Look) (count : ℕ) → IsComing most kind bytes look count
    → wants_look look (bytes ++ piece) piece ≡ true → count ≤ length bytes
few_looks most kind bytes piece look count coming wants =
    omega (arith, coming.bound, feeds-le bytes, no_last_look look (bytes ++ piece) piece wants)

-- nothing came yet
pub nothing_came : (most : ℕ) (kind : Kind) (bytes : List ℕ) → bytes ≡ [] → IsComing most kind bytes looks.Part 0
nothing_came most kind bytes none = subst (λ bs. IsComing most kind bs looks.Part 0) (sym none) (record {
  found = record { none = λ h b. no_head_in_blank kind [] (omega arith) refl h b; short = omega arith };
  bound = omega arith;
})

-- ---- the same, of the bytes as they are after the push

pub pushed_then : (most : ℕ) (kind : Kind) (bytes piece new seen : List ℕ) (look found : Look) (count : ℕ)
    → new ≡ bytes ++ piece → seen ≡ new → IsComing most kind bytes look count
    → wants_look look seen piece ≡ true → IsFound most kind seen found → IsComing most kind new found (count + 1)
pushed_then most kind bytes piece new seen look found count grown same coming wants is =
    subst (λ all. IsComing most kind all found (count + 1)) (sym grown)
    (coming_then most kind bytes piece look found count coming
    (subst (λ all. wants_look look all piece ≡ true) (same ∙ grown) wants)
    (subst (λ all. IsFound most kind all found) (same ∙ grown) is))

pub pushed_on : (most : ℕ) (kind : Kind) (bytes piece new seen : List ℕ) (look : Look) (count : ℕ)
    → new ≡ bytes ++ piece → seen ≡ new → IsComing most kind bytes look count
    → wants_look look seen piece ≡ false → IsComing most kind new look count
pushed_on most kind bytes piece new seen look count grown same coming none =
    subst (λ all. IsComing most kind all look count) (sym grown)
    (coming_on most kind bytes piece look count coming (subst (λ all. wants_look look all piece ≡ false) (same ∙ grown) none))

pub looks_fit : (most : ℕ) (kind : Kind) (bytes piece new seen : List ℕ) (look : Look) (count : ℕ)
    → new ≡ bytes ++ piece → seen ≡ new → IsComing most kind bytes look count
    → wants_look look seen piece ≡ true → count ≤ length bytes
looks_fit most kind bytes piece new seen look count grown same coming wants =
    few_looks most kind bytes piece look count coming (subst (λ all. wants_look look all piece ≡ true) (same ∙ grown) wants)
