-- The URL of a name.
use Rattle.std.proofs.Common.{◌≡◌, ◌∙◌, ℕ, ◌+◌, ◌-◌, ◌<◌, ◌≤◌, List, [], ◌++◌, length, take, true, false, Option, Some, None, is_some, refl, ap, sym, inl, inr, ⊎_elim, arith}
use Rattle.std.proofs.lemmas.Bool.{false≢true}
use Rattle.std.proofs.lemmas.Bool.{cases_lt}
use Rattle.std.proofs.lemmas.List.{append-nil, length-append, length-take-le}
use Rattle.std.specs.Borrow.{Bor}
use Rattle.std.specs.Option.{option_copied}
use Rattle.url.specs.Parts.{Parts}
use Rattle.peers_file.specs.Pattern.{Fits, front_pattern, star}
use Rattle.peers_file.specs.Table.{Rows, IsUnderFront, IsUrlOf, url_under}

-- a value is there, if what is lent is
pub copied_some : {X : Type 0} (o : Option (Bor X)) → is_some (option_copied o) ≡ is_some o
copied_some None = refl
copied_some (Some x) = refl

-- no longer front has a URL, where all but so many bytes were tried
abbrev pub NoneAbove : List ℕ → Rows → ℕ → Type 0
NoneAbove name rows shorter =
    (m : ℕ) → length name < m + shorter → m ≤ length name → url_under (front_pattern m name) rows ≡ None

pub none_tried : (name : List ℕ) (rows : Rows) → NoneAbove name rows 0
none_tried name rows m above within = absurd (omega arith)

no_value : (found : Option Parts) → is_some found ≡ false → found ≡ None
no_value None none = refl
no_value (Some url) none = absurd (false≢true (sym none))

pub one_tried : (name : List ℕ) (rows : Rows) (shorter : ℕ) (found : Option Parts) → shorter < length name + 1 → NoneAbove name rows shorter
    → found ≡ url_under (front_pattern (length name - shorter) name) rows → is_some found ≡ false → NoneAbove name rows (shorter + 1)
one_tried name rows shorter found within before is none m above low =
    ⊎_elim
    (λ more. before m more low)
    (λ less. let here : m ≡ length name - shorter = omega arith in
    ap (λ n. url_under (front_pattern n name) rows) here ∙ sym is ∙ no_value found none)
    (cases_lt (length name) (m + shorter))

pub front_found : (name : List ℕ) (rows : Rows) (shorter : ℕ) (found : Option Parts) → shorter < length name + 1 → NoneAbove name rows shorter
    → found ≡ url_under (front_pattern (length name - shorter) name) rows → is_some found ≡ true → IsUnderFront name rows found
front_found name rows shorter None within above is some = absurd (false≢true some)
front_found name rows shorter (Some url) within above is some = (
  length name - shorter,
  omega arith,
  sym is,
  λ m more low. above m (omega arith) low,
)

pub no_front : (name : List ℕ) (rows : Rows) (shorter : ℕ) → length name + 1 ≤ shorter → NoneAbove name rows shorter → IsUnderFront name rows None
no_front name rows shorter all above n low = above n (omega arith) low

-- ---- the name itself, and else a front of it

pub name_found : (name : List ℕ) (rows : Rows) (found : Option Parts) → found ≡ url_under (name ++ []) rows → is_some found ≡ true → IsUrlOf name rows found
name_found name rows None is some = absurd (false≢true some)
name_found name rows (Some url) is some = (
  name,
  inl refl,
  ap (λ n. url_under n rows) (sym (append-nil name)) ∙ sym is,
  λ other fits more. absurd (more.0 refl),
)

front_length : (n : ℕ) (name : List ℕ) → n ≤ length name → length (front_pattern n name) ≡ n + 1
front_length n name low = length-append (take n name) star ∙ (let same = length-take-le n name low in omega arith)

fits_none : (name other : List ℕ) (rows : Rows) → url_under name rows ≡ None → Fits name other
    → ((m : ℕ) → m ≤ length name → other ≡ front_pattern m name → url_under (front_pattern m name) rows ≡ None) → url_under other rows ≡ None
fits_none name other rows none fits fronts =
    ⊎_elim
    (λ is. ap (λ p. url_under p rows) is ∙ none)
    (λ front. ap (λ p. url_under p rows) front.2 ∙ fronts front.0 front.1 front.2)
    fits

pub front_of_name : (name : List ℕ) (rows : Rows) (whole found : Option Parts) → whole ≡ url_under (name ++ []) rows → is_some whole ≡ false
    → IsUnderFront name rows found → IsUrlOf name rows found
front_of_name name rows whole None is none under =
    let no_name : url_under name rows ≡ None = ap (λ n. url_under n rows) (sym (append-nil name)) ∙ sym is ∙ no_value whole none in
    λ pattern fits. fits_none name pattern rows no_name fits (λ m low same. under m low)
front_of_name name rows whole (Some url) is none under =
    let no_name : url_under name rows ≡ None = ap (λ n. url_under n rows) (sym (append-nil name)) ∙ sym is ∙ no_value whole none in (
      front_pattern under.0 name,
      inr (under.0, under.1, refl),
      under.2,
      λ other fits more. ⊎_elim
          (λ is_name. ap (λ p. url_under p rows) is_name ∙ no_name)
          (λ longer. fits_none name other rows no_name fits
          (λ m low same. under.3 m (omega (arith, ap length same, front_length m name low, front_length under.0 name under.1, longer)) low))
          more.1,
    )
