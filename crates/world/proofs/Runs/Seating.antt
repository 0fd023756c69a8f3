-- Controllers that take their seats one after another.
use Rattle.std.proofs.Common.{◌≡◌, ◌∙◌, ◌+◌, ◌<◌, ◌++◌, ◌∷◌, [], ℕ, List, ap, get_or, length, map, sym, take}
use Rattle.std.proofs.lemmas.List.{map-append, take_more}

-- one more, made of one more element
pub more_seated : {S X Y : Type 0} (kept : S → Y) (f : X → Y) (xs : List X) (i : ℕ) (x : X) (made new : List S) (s : S) → i < length xs → x ≡ get_or xs i x → map kept made ≡ map f (take i xs) → kept s ≡ f x → new ≡ made ++ s ∷ [] → map kept new ≡ map f (take (i + 1) xs)
more_seated kept f xs i x made new s within is so one added =
    ap (map kept) added ∙ map-append kept made (s ∷ []) ∙ ap (λ ys. ys ++ kept s ∷ []) so ∙ ap (λ z. map f (take i xs) ++ z ∷ []) (one ∙ ap f is) ∙ sym (ap (map f) (take_more xs i x within) ∙ map-append f (take i xs) (get_or xs i x ∷ []))
