-- Patterns as the code tests them.
use Rattle.std.proofs.Common.{◌≡◌, ◌≢◌, ◌∙◌, ℕ, ◌-◌, Bool, true, false, List, ◌++◌, length, take, drop, refl, ap, sym, if◌then◌else◌, arith, length-append, rules}
use Rattle.std.specs.Prelude.{◌||◌, ◌==◌, bytes_eq}
use Rattle.std.proofs.lemmas.List.{take-append-drop}
use Rattle.std.proofs.Math.Seq.{take-append_seam, drop-append_seam}
use Rattle.std.proofs.lemmas.Slice.Eq.{bytes_eq-Decides}
use Rattle.ticket_items.specs.Names.{is_name}
use Rattle.peers_file.specs.Pattern.{front_of, is_open, is_pattern, star}

is_star : (bytes : List ℕ) → bytes_eq bytes star ≡ true → bytes ≡ star
is_star bytes is = search (rules, bytes_eq-Decides)

-- where a `*` ends it
pub open_at : (text front : List ℕ) → text ≡ front ++ star → (is_open text ≡ true) × (front_of text ≡ front)
open_at text front is =
    let long : length text - 1 ≡ length front = omega (arith, ap length is, length-append front star) in (
      ap (λ n. bytes_eq (drop n text) star) long ∙ ap (λ t. bytes_eq (drop (length front) t) star) is
          ∙ ap (λ d. bytes_eq d star) (drop-append_seam front star),
      ap (λ n. take n text) long ∙ ap (λ t. take (length front) t) is ∙ take-append_seam front star,
    )

not_open : (b : Bool) (text : List ℕ) → is_open text ≡ b → ((front : List ℕ) → text ≢ front ++ star) → b ≡ false
not_open false text is none = refl
not_open true text is none =
    let rest : drop (length text - 1) text ≡ star = is_star (drop (length text - 1) text) is in
    absurd (none (front_of text) (sym (take-append-drop (length text - 1) text) ∙ ap (λ d. take (length text - 1) text ++ d) rest))

pub pattern_closed : (text : List ℕ) → ((front : List ℕ) → text ≢ front ++ star) → is_pattern text ≡ is_name text
pattern_closed text none =
    ap (λ b. if b then (length (front_of text) == 0 || is_name (front_of text)) else is_name text) (not_open (is_open text) text refl none)

pub pattern_open : (text front : List ℕ) → text ≡ front ++ star → is_pattern text ≡ (length front == 0 || is_name front)
pattern_open text front is =
    let at = open_at text front is in
    ap (λ b. if b then (length (front_of text) == 0 || is_name (front_of text)) else is_name text) at.0
    ∙ ap (λ f. length f == 0 || is_name f) at.1
