-- Texts that begin with a front.
use Rattle.std.proofs.Common.{◌≡◌, ◌≢◌, ℕ, ◌+◌, ◌++◌, ◌==◌, Bool, true, false, cond, List, [], ◌∷◌, drop, length, Bor, MatchOption, Option, Some, None, refl, sym, ap, ◌∙◌}
use Rattle.std.proofs.lemmas.Bool.Decides.{Decides-eqb}
use Rattle.std.specs.Option.{option_map}
use Rattle.std.specs.Str.Pattern.{FindsTextPrefix}
use Rattle.jmf_message.specs.Family.{behind}

-- what stands behind a front is the rest
pub behind-append : (front rest : List ℕ) → behind front (front ++ rest) ≡ Some rest
behind-append [] rest = refl
behind-append (c ∷ front) rest = ap (λ b. cond b (behind front (front ++ rest)) None) ((Decides-eqb c c).1 refl) ∙ behind-append front rest

-- a text that doesn't begin so has nothing behind it
none_at : (same : Bool) (c d : ℕ) (front text : List ℕ) → (d == c) ≡ same → ((rest : List ℕ) → d ∷ text ≢ (c ∷ front) ++ rest) → ((((rest : List ℕ) → text ≢ front ++ rest)) → behind front text ≡ None) → cond same (behind front text) None ≡ None
none_at true c d front text e lacks more = more (λ rest is. lacks rest (ap (λ x. x ∷ text) ((Decides-eqb d c).0 e) ∙ ap (λ xs. c ∷ xs) is))
none_at false c d front text e lacks more = refl

pub behind-none : (front text : List ℕ) → ((rest : List ℕ) → text ≢ front ++ rest) → behind front text ≡ None
behind-none [] text lacks = absurd (lacks text refl)
behind-none (c ∷ front) [] lacks = refl
behind-none (c ∷ front) (d ∷ text) lacks = none_at (d == c) c d front text refl lacks (behind-none front text)

-- what std's `strip_prefix` leaves
pub stripped : (front text : List ℕ) (r : Option (Bor (List ℕ)))
    → MatchOption r (FindsTextPrefix front text None) (λ x. (n : ℕ) × FindsTextPrefix front text (Some n) × (x.now ≡ drop n text) × (length x.now + n ≡ length text))
    → option_map (λ rest. rest.now) r ≡ behind front text
stripped front text None h = sym (behind-none front text h)
stripped front text (Some x) h = sym (ap (behind front) (h.1.1 ∙ ap (λ l. front ++ l) (sym h.2)) ∙ behind-append front x.now)
