-- Tests of two lists, pair by pair, that decide whether the lists are the same in what is compared.
use Rattle.std.specs.Cmp.Lexicographic.{pointwise}
use Rattle.std.proofs.Common.{◌≡◌, ℕ, Bool, List, [], ◌∷◌, map, Decides, refl, ap}
use Rattle.std.proofs.lemmas.Bool.Decides.{Decides-and, Decides-like}
use Rattle.std.proofs.lemmas.Slice.Eq.{bytes_eq-Decides, slice_eq-Decides}
use Rattle.std.specs.Str.{bytes_eq}
use Rattle.ticket_items.specs.Resource.{is_alike}
use Rattle.ticket_items.specs.declared.resource.Resource.{Resource}
use Rattle.ticket_rows.specs.Place.{named_thing}
use Rattle.ticket_tree.proofs.PlainOneRow.{name_in, class_in}

pub heads : {X : Type 0} (x y : X) (xs ys : List X) → x ∷ xs ≡ y ∷ ys → (x ≡ y) × (xs ≡ ys)
heads x y xs ys e = (cc, cc)

-- a test that decides whether two elements are the same by f and g decides it of two lists
pub pairs-Decides : {X Y Z : Type 0} (test : X → Y → Bool) (f : X → Z) (g : Y → Z)
    → ((x : X) (y : Y) → Decides (test x y) (f x ≡ g y)) → (xs : List X) (ys : List Y)
    → Decides (pointwise test xs ys) (map f xs ≡ map g ys)
pairs-Decides test f g each [] [] = (λ h. refl, λ e. refl)
pairs-Decides test f g each [] (y ∷ ys) = (λ h. cc, λ e. cc)
pairs-Decides test f g each (x ∷ xs) [] = (λ h. cc, λ e. cc)
pairs-Decides test f g each (x ∷ xs) (y ∷ ys) =
    Decides-like _ (λ (head, tail). cc) (λ e. (cc, cc)) (Decides-and _ _ (each x y) (pairs-Decides test f g each xs ys))

pub ids-Decides : (xs ys : List (List ℕ)) → Decides (pointwise bytes_eq xs ys) (xs ≡ ys)
ids-Decides xs ys = slice_eq-Decides bytes_eq-Decides xs ys _ refl

-- a copy is alike a resource just where it has its id, name and Class
pub alike-Decides : (x y : Resource) → Decides (is_alike x y) (named_thing x ≡ named_thing y)
alike-Decides x y =
    Decides-like _ (λ ((id, name), class). cc) (λ e. ((ap (λ f. f.0) e, ap (λ f. name_in f.1) e), ap (λ f. class_in f.1) e))
    (Decides-and _ _ (Decides-and _ _ (bytes_eq-Decides x.id y.id) (bytes_eq-Decides x.name y.name)) (bytes_eq-Decides x.class y.class))
