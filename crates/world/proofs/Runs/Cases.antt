-- Cases on a test, and on what was looked for; and what is found in lists.
use Rattle.std.proofs.Common.{◌≡◌, ◌&&◌, ◌∙◌, Bool, true, false, cond, List, [], ◌∷◌, map, Option, Some, None, refl, sym, ap}
use Rattle.std.proofs.lemmas.List.Elements.{All-head, All-tail}
use Rattle.std.specs.List.{All, find}
use Rattle.std.specs.Option.{option_map}
use Rattle.ticket_items.proofs.Places.{same_found}

pub split : (b : Bool) {P : Type 0} → (b ≡ true → P) → (b ≡ false → P) → P
split true yes_so no_so = yes_so refl
split false yes_so no_so = no_so refl

pub split_some : {X : Type 0} (o : Option X) {P : Type 0} → ((x : X) → o ≡ Some x → P) → (o ≡ None → P) → P
split_some (Some x) some_so none_so = some_so x refl
split_some None some_so none_so = none_so refl

pub when_true : {X : Type 0} (b : Bool) (x y : X) → b ≡ true → cond b x y ≡ x
when_true b x y e = ap (λ c. cond c x y) e

pub when_false : {X : Type 0} (b : Bool) (x y : X) → b ≡ false → cond b x y ≡ y
when_false b x y e = ap (λ c. cond c x y) e

-- two that pass in the same cases are the same
pub same_test : (a b : Bool) → (a ≡ true → b ≡ true) → (b ≡ true → a ≡ true) → a ≡ b
same_test true b there back = sym (there refl)
same_test false true there back = back refl
same_test false false there back = refl

-- what is found among what is made of a list is made of what is found in it
made_cond : {X Y : Type 0} (b : Bool) (g : X → Y) (x : X) (o : Option Y) (later : Option X) → o ≡ option_map g later → cond b (Some (g x)) o ≡ option_map g (cond b (Some x) later)
made_cond true g x o later e = refl
made_cond false g x o later e = e

pub found_made : {X Y : Type 0} (f : Y → Bool) (g : X → Y) (xs : List X) → find f (map g xs) ≡ option_map g (find (λ x. f (g x)) xs)
found_made f g [] = refl
found_made f g (x ∷ xs) = made_cond (f (g x)) g x (find f (map g xs)) (find (λ y. f (g y)) xs) (found_made f g xs)

-- what is found by one test, and passes another, is found by both
both_cond : {X : Type 0} (b c : Bool) (y x : X) (o later : Option X) → cond b (Some y) o ≡ Some x → (y ≡ x → c ≡ true) → (o ≡ Some x → later ≡ Some x) → cond (b && c) (Some y) later ≡ Some x
both_cond true c y x o later found passes rest = when_true c (Some y) later (passes (same_found y x (Some y) refl found)) ∙ found
both_cond false c y x o later found passes rest = rest found

pub found_both : {X : Type 0} (p q : X → Bool) (xs : List X) (x : X) → find p xs ≡ Some x → q x ≡ true → find (λ y. p y && q y) xs ≡ Some x
found_both p q [] x e passes = cc
found_both p q (y ∷ xs) x e passes =
    both_cond (p y) (q y) y x (find p xs) (find (λ z. p z && q z) xs) e (λ same. ap q same ∙ passes) (λ later. found_both p q xs x later passes)

-- where none passes none is found
pub none_found : {X : Type 0} (P : X → Type 0) (f : X → Bool) (xs : List X) → ((x : X) → P x → f x ≡ false) → All P xs → find f xs ≡ None
none_found P f [] fails all = refl
none_found P f (x ∷ xs) fails all = when_false (f x) (Some x) (find f xs) (fails x (All-head P x xs all)) ∙ none_found P f xs fails (All-tail P x xs all)

-- what is made of what was looked for
pub made_of : {X Y : Type 0} (f : X → Y) (o : Option X) (y : Y) → option_map f o ≡ Some y → (x : X) × (o ≡ Some x) × (f x ≡ y)
made_of f None y e = cc
made_of f (Some x) y e = (x, refl, same_found (f x) y (Some (f x)) refl e)

-- what is made alike of each is alike
pub made_alike : {X Y : Type 0} (P : X → Type 0) (f g : X → Y) (xs : List X) → ((x : X) → P x → f x ≡ g x) → All P xs → map f xs ≡ map g xs
made_alike P f g [] same all = refl
made_alike P f g (x ∷ xs) same all = ap (λ y. y ∷ map f xs) (same x (All-head P x xs all)) ∙ ap (λ ys. g x ∷ ys) (made_alike P f g xs same (All-tail P x xs all))

-- and so is what is made of that again
pub made_again : {X Y Z : Type 0} (P : X → Type 0) (f : X → Z) (h : Y → Z) (g : X → Y) (xs : List X) → ((x : X) → P x → f x ≡ h (g x)) → All P xs → map f xs ≡ map h (map g xs)
made_again P f h g [] same all = refl
made_again P f h g (x ∷ xs) same all = ap (λ z. z ∷ map f xs) (same x (All-head P x xs all)) ∙ ap (λ zs. h (g x) ∷ zs) (made_again P f h g xs same (All-tail P x xs all))
