-- Parts of a picture as SVG.
use Rattle.std.specs.Prelude.{ℕ, ◌+◌, ◌*◌, ◌%◌, ◌++◌, List, [], ◌∷◌, codes}
use Rattle.std.specs.Prelude.{Option, Some, None}
use Rattle.std.specs.Fmt.{decimal}
use Rattle.ticket_items.specs.SpawnId.{spawn_text}

-- the shade of what a spawn holds, one of eight colours; what no spawn holds has none
unfoldable pub shade : Option ℕ → ℕ
shade None = 0
shade (Some s) = s % 8 + 1

-- a spawn's id; nothing where there is none
abbrev pub held_text : Option ℕ → List ℕ
held_text None = []
held_text (Some s) = spawn_text s

-- what is drawn in a place of its own
unfoldable pub placed_drawing : ℕ → ℕ → List ℕ → List ℕ
placed_drawing x y drawn =
    codes "<g transform='translate(" ++ decimal x ++ codes " " ++ decimal y ++ codes ")'>" ++ drawn
    ++ codes "</g>" ++ 10 ∷ []

-- a text of a class from a point on
unfoldable pub label : List ℕ → ℕ → ℕ → List ℕ → List ℕ
label class x y text =
    codes "<text class='" ++ class ++ codes "' x='" ++ decimal x ++ codes "' y='" ++ decimal y
    ++ codes "'>" ++ text ++ codes "</text>"

-- the shape of a number
unfoldable pub shape : ℕ → ℕ → ℕ → List ℕ
shape number x y =
    codes "<use href='#p" ++ decimal number ++ codes "' x='" ++ decimal x ++ codes "' y='"
    ++ decimal y ++ codes "'/>"
