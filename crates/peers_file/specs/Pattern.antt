-- Names, and what names begin with.
use Rattle.std.specs.Prelude.{◌≡◌, ◌≢◌, ◌⊎◌, ◌<◌, ◌≤◌, ℕ, ◌-◌, ◌==◌, ◌||◌, Bool, List, [], ◌∷◌}
use Rattle.std.specs.Prelude.{◌++◌, bytes_eq, drop, length, take, if◌then◌else◌}
use Rattle.ticket_items.specs.Names.{is_name}

-- `*`, behind what names begin with
abbrev pub star : List ℕ
star = 42 ∷ []

-- whether the last byte is a `*`, and the bytes in front of it
abbrev pub is_open : List ℕ → Bool
is_open text = bytes_eq (drop (length text - 1) text) star

abbrev pub front_of : List ℕ → List ℕ
front_of text = take (length text - 1) text

-- a name, or what names begin with: a name or nothing, and a `*`
abbrev pub is_pattern : List ℕ → Bool
is_pattern text =
    if is_open text then length (front_of text) == 0 || is_name (front_of text) else is_name text

-- the pattern of the names that begin with so many bytes of this one
abbrev pub front_pattern : ℕ → List ℕ → List ℕ
front_pattern n name = take n name ++ star

-- a name fits the pattern that it is, and those of what it begins with
abbrev pub Fits : List ℕ → List ℕ → Type 0
Fits name pattern =
    (pattern ≡ name) ⊎ ((n : ℕ) × (n ≤ length name) × (pattern ≡ front_pattern n name))

-- of two patterns that the name fits, the first tells more of it: it is the name, or longer and the
-- other isn't the name
abbrev pub TellsMore : List ℕ → List ℕ → List ℕ → Type 0
TellsMore name one other = (other ≢ name) × ((one ≡ name) ⊎ (length other < length one))
