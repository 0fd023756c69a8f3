-- What is out of the items so far.
use Rattle.std.proofs.Common.{◌≡◌, ◌≤◌, ◌∙◌, ◌+◌, ◌<◌, ◌++◌, ℕ, List, [], ◌∷◌, Option, Some, None, ap, append-nil, length, map, option_map, slice_index_or, sym, take}
use Rattle.std.proofs.lemmas.List.{map-append, take_more}
use Rattle.std.proofs.lemmas.List.Elements.{filter_map-append}
use Rattle.std.specs.List.{cons_option, filter_map}

module _ {X Y Z : Type 0} (f : X → Option Z) (seen : Y → Z) (xs : List X) (i : ℕ) (d : X) where
  one_more : (x : X) → i < length xs → x ≡ slice_index_or xs i d → filter_map f (take (i + 1) xs) ≡ filter_map f (take i xs) ++ cons_option (f x) []
  one_more x within is =
      ap (filter_map f) (take_more xs i d within) ∙ filter_map-append f (take i xs) (slice_index_or xs i d ∷ []) ∙ ap (λ y. filter_map f (take i xs) ++ cons_option (f y) []) (sym is)

  -- the next item has something out
  pub some_more : (x : X) (y : Y) (all new : List Y) → i < length xs → x ≡ slice_index_or xs i d → map seen all ≡ filter_map f (take i xs) → Some (seen y) ≡ f x → new ≡ all ++ y ∷ [] → map seen new ≡ filter_map f (take (i + 1) xs)
  some_more x y all new within is so gives pushed =
      ap (map seen) pushed ∙ map-append seen all (y ∷ []) ∙ ap (λ t. t ++ seen y ∷ []) so ∙ ap (λ o. filter_map f (take i xs) ++ cons_option o []) gives ∙ sym (one_more x within is)

  -- the next item has nothing out
  pub none_more : (x : X) (all : List Y) → i < length xs → x ≡ slice_index_or xs i d → map seen all ≡ filter_map f (take i xs) → None ≡ f x → map seen all ≡ filter_map f (take (i + 1) xs)
  none_more x all within is so gives =
      so ∙ sym (append-nil (filter_map f (take i xs))) ∙ ap (λ o. filter_map f (take i xs) ++ cons_option o []) gives ∙ sym (one_more x within is)
