-- Texts with a `/` at their end.
use Rattle.std.proofs.Common.{◌≡◌, ◌≢◌, ◌++◌, ℕ, Bor, List, MatchOption, Option, None, Some, true, false, ap, sym, ◌∙◌}
use Rattle.std.specs.Prelude.{codes}
use Rattle.std.specs.Str.Pattern.{FindsTextSuffix, StripsSuffix}
use Rattle.std.proofs.lemmas.Bool.{true≢false}
use Rattle.std.proofs.lemmas.List.{append_cancel_right}
use Rattle.etcd_place.specs.Place.{is_etcd}

-- what `strip_suffix` says of a text
pub stripped_end : (back text : List ℕ) (r : Option (Bor (List ℕ))) → MatchOption r (FindsTextSuffix back text None) (λ x. StripsSuffix (FindsTextSuffix back) text x.now) → MatchOption r ((front : List ℕ) → text ≢ front ++ back) (λ x. text ≡ x.now ++ back)
stripped_end back text None lacks = lacks
stripped_end back text (Some x) strips = strips.1.1 ∙ ap (λ front. front ++ back) (sym strips.2)

-- what stands before it is one text
pub no_other_folder : (text front : List ℕ) → text ≡ front ++ codes "/" → is_etcd front ≡ false → (folder : List ℕ) → text ≡ folder ++ codes "/" → is_etcd folder ≡ true → ⊥
no_other_folder text front is not folder so etcd =
    true≢false (sym etcd ∙ ap is_etcd (append_cancel_right folder front (codes "/") (sym so ∙ is)) ∙ not)
