-- The depths of a tree's nodes in preorder. They alone say which lists of rows are a tree.
use Rattle.std.specs.Prelude.{ℕ, suc, ◌&&◌, ◌==◌, Bool, true, false, List, [], ◌∷◌, nat_le}

-- what may follow a row at the depth `above`: no further root, and nothing more than one level
-- deeper than the row before it
abbrev pub goes_on : ℕ → List ℕ → Bool
goes_on above [] = true
goes_on above (d ∷ ds) = nat_le 2 d && nat_le d (suc above) && goes_on d ds

-- the depths of a tree: first the root's, which is 1
abbrev pub is_outline : List ℕ → Bool
is_outline [] = false
is_outline (d ∷ ds) = d == 1 && goes_on 1 ds
