-- A cell: a value with a revision, which is replaced by whoever names the revision that is held.
use Rattle.std.specs.Prelude.{◌≡◌, ◌<◌, ◌⊎◌, ◌++◌, ◌∷◌, [], ℕ, List, Option, Some, unwrap_or, ⊤}

-- a value with its revision
pub record Version : Type 0 where
  pub revision : ℕ
  pub bytes : List ℕ

-- before any value was held
abbrev pub no_version : Version
no_version = record { revision = 0; bytes = [] }

-- the one that is held, of all that ever were, the newest first
abbrev pub newest : List Version → Version
newest [] = no_version
newest (v ∷ before) = v

-- what a swap asks: these bytes in place of the value of a revision, or, as a touch, its own bytes
pub record Swap : Type 0 where
  pub over : ℕ
  pub bytes : Option (List ℕ)

-- a swap makes the second of the first, whose revision it names
pub record Makes (s : Swap) (a b : Version) : Type 0 where
  pub over : s.over ≡ a.revision
  pub later : a.revision < b.revision
  pub bytes : b.bytes ≡ unwrap_or s.bytes a.bytes

-- one of these swaps makes the second of the first
abbrev pub IsMadeBy : (Swap → Type 0) → Version → Version → Type 0
IsMadeBy is_one a b = (s : Swap) × is_one s × Makes s a b

-- the values that were added to older ones: each comes so of the one before
abbrev pub Links : (Version → Version → Type 0) → List Version → List Version → Type 0
Links Comes [] old = ⊤
Links Comes (b ∷ added) old = Comes (newest (added ++ old)) b × Links Comes added old

-- the values ever held became more, and each new one comes so of the one before
pub record Grows (Comes : Version → Version → Type 0) (old new : List Version) : Type 0 where
  pub added : List Version
  pub is : new ≡ added ++ old
  pub links : Links Comes added old

-- what is seen of a cell: the values that it ever held, and the swaps that were sent and may be
-- made from now on
pub record View : Type 1 where
  pub chain : List Version
  pub may_land : Swap → Type 0
