-- Labels of nodes, which rise from place to place, so that a node's place is told by its label.
use Rattle.std.specs.Prelude.{◌≡◌, ◌+◌, ◌*◌, ◌<◌, ◌≤◌, ◌++◌, ◌∷◌, [], ℕ, zero, suc, Bool, List, Some}
use Rattle.std.specs.Prelude.{length, map, nat_le, slice_get}
use Rattle.std.specs.List.{position_or_len}

-- each is greater than those in front of it
abbrev pub Rise : List ℕ → Type 0
Rise order =
    (i j a b : ℕ) → i < j → slice_get order i ≡ Some a → slice_get order j ≡ Some b → a < b

-- where the first label stands that isn't below another
abbrev pub place_in : List ℕ → ℕ → ℕ
place_in order label = position_or_len (nat_le label) order

-- the places of the nodes with these labels
abbrev pub places_of : List ℕ → List ℕ → List ℕ
places_of labels order = map (place_in order) labels

-- the labels of nodes in the order of their coming, and in the order of their places
pub record AreLabels (labels order : List ℕ) : Type 0 where
  pub rise : Rise order
  pub there : (n l : ℕ) → slice_get labels n ≡ Some l → slice_get order (place_in order l) ≡ Some l
  pub count : length order ≡ length labels

-- a label may be put in at a place: it is above all in front of that, and below all others
pub record Fits (order : List ℕ) (place label : ℕ) : Type 0 where
  pub above : (k l : ℕ) → k < place → slice_get order k ≡ Some l → l < label
  pub below : (k l : ℕ) → place ≤ k → slice_get order k ≡ Some l → label < l

-- what is told of places: those of the nodes in the order of their coming, and whether there is
-- room for one more without memory
pub record PlacesView : Type 0 where
  pub items : List ℕ
  pub has_room : Bool

-- so many labels from the front on, each as far behind the one before it
abbrev pub even_labels : ℕ → ℕ → List ℕ
even_labels gap zero = []
even_labels gap (suc n) = even_labels gap n ++ (n + 1) * gap ∷ []

-- the numbers from 0 on, so many
abbrev pub numbers_below : ℕ → List ℕ
numbers_below zero = []
numbers_below (suc n) = numbers_below n ++ n ∷ []
