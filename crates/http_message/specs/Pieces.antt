-- Pieces of a text.
use Rattle.std.specs.Prelude.{ℕ, List, flat_map}
use Rattle.std.specs.Borrow.{Bor}

-- the pieces one after the other
abbrev pub bytes_of_pieces : List (Bor (List ℕ)) → List ℕ
bytes_of_pieces pieces = flat_map (λ piece. piece.now) pieces
