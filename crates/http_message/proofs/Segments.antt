-- The last segment of a path begins behind a slash, or with the path.
use Rattle.std.proofs.Common.{◌≡◌, ◌<◌, ℕ, zero, suc, Bool, true, false, List, [], ◌∷◌, length, drop, get_or, refl, rules, arith}
use Rattle.std.specs.Prelude.{◌==◌, ◌&&◌, not}
use Rattle.http_message.specs.Target.{has_no_slash, segment_of}

-- a path without a slash is one segment
pub whole : (path : List ℕ) → has_no_slash path ≡ true → path ≡ segment_of path
whole [] none = refl
whole (c ∷ rest) none = rw none refl

-- a byte of a path is a slash, so the path has one
has_slash : (path : List ℕ) → (n : ℕ) → n < length path → (get_or path n 0 == 47) ≡ true → has_no_slash path ≡ false
has_slash [] n bound is = absurd (search rules)
has_slash (c ∷ rest) zero bound is = rw is refl
has_slash (c ∷ rest) (suc n) bound is = second_false (not (c == 47)) (has_no_slash rest) (has_slash rest n (omega arith) is)
  where
    second_false : (a b : Bool) → b ≡ false → a && b ≡ false
    second_false true b is = is
    second_false false b is = refl

-- behind a slash stands the segment, if it has none
pub behind : (path : List ℕ) → (n : ℕ) → n < length path → (get_or path n 0 == 47) ≡ true → has_no_slash (drop (suc n) path) ≡ true → drop (suc n) path ≡ segment_of path
behind [] n bound is none = absurd (search rules)
behind (c ∷ rest) zero bound is none = rw (has_slash (c ∷ rest) zero bound is) (whole rest none)
behind (c ∷ rest) (suc n) bound is none = rw (has_slash (c ∷ rest) (suc n) bound is) (behind rest n (omega arith) is none)
