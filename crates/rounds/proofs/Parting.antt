-- Lists that are filled one by one.
use Rattle.std.proofs.Common.{◌≡◌, ◌∙◌, ◌<◌, ◌≤◌, ◌++◌, ℕ, List, [], ◌∷◌, ap, arith, length, map, sym}
use Rattle.std.proofs.lemmas.List.{length-map, map_push}

module _ {X Y : Type 0} (f : X → Y) where
  -- one more is there
  pub one_more : (xs : List X) (x : X) (ys all : List Y) → ys ≡ map f xs → all ≡ ys ++ f x ∷ [] → all ≡ map f (xs ++ x ∷ [])
  one_more xs x ys all so pushed = pushed ∙ ap (λ t. t ++ f x ∷ []) so ∙ sym (map_push f xs x)

  -- there is room for one more
  pub one_has_room : (all xs : List X) (ys : List Y) (len cap : ℕ) → ys ≡ map f xs → length xs < length all → length all ≤ cap → len ≡ length ys → len < cap
  one_has_room all xs ys len cap so before room is =
      let long : length ys ≡ length xs = ap length so ∙ length-map xs f in omega arith
