-- The table of peers.
use Rattle.std.specs.Prelude.{◌≡◌, ◌<◌, ◌≤◌, ℕ, List, [], ◌∷◌, length, Option, Some, None, Result}
use Rattle.std.specs.Prelude.{Ok, Err, if◌then◌else◌}
use Rattle.std.specs.BTreeMap.{is_at}
use Rattle.std.specs.Cmp.Lexicographic.{slice_cmp}
use Rattle.std.specs.List.Sorted.{IsStrictlySortedBy}
use Rattle.std.specs.Map.{keys_of, lookup}
use Rattle.std.specs.Option.{option_map, option_map_or}
use Rattle.std.specs.Ordering.{nat_cmp}
use Rattle.serde_json.specs.Data.{Data}
use Rattle.ticket_items.specs.Attrs.{Pairs}
use Rattle.ticket_items.specs.declared.refusal.Refusal.{Refusal}
use Rattle.ticket_items.specs.declared.refusal.Refusal.TheVariants.{NotProfile}
use Rattle.json_source.specs.Read.{◌>>=◌, attrs_form}
use Rattle.url.specs.Parts.{Parts}
use Rattle.peers_file.specs.Destination.{destination_in}
use Rattle.peers_file.specs.Pattern.{Fits, TellsMore, front_pattern, is_pattern}

-- patterns and their URLs, in the byte order of the patterns, each pattern once
abbrev pub Rows : Type 0
Rows = List (List ℕ × Parts)

abbrev pub IsInOrder : Rows → Type 0
IsInOrder rows = IsStrictlySortedBy (slice_cmp nat_cmp) (keys_of rows)

-- the URL under a pattern
abbrev pub url_under : List ℕ → Rows → Option Parts
url_under pattern rows = lookup (is_at (slice_cmp nat_cmp pattern)) rows

-- ---- what is read

-- the row that two texts are
abbrev pub row_in : List ℕ × List ℕ → Option (List ℕ × Parts)
row_in p =
    if is_pattern p.0 then option_map (λ url. (p.0, url)) (destination_in p.1) else None

-- the rows that pairs of texts are, if each is one
abbrev pub rows_in : Pairs → Option Rows
rows_in [] = Some []
rows_in (p ∷ ps) = row_in p >>= λ row. option_map (λ rows. row ∷ rows) (rows_in ps)

-- the table that data is: an object of patterns and URLs
abbrev pub table_read : Data → Result Rows Refusal
table_read d = option_map_or (λ rows. Ok rows) (attrs_form d >>= rows_in) (Err NotProfile)

-- ---- what is found

-- the URL is that under the longest of what a name begins with; or none is under these
abbrev pub IsUnderFront : List ℕ → Rows → Option Parts → Type 0
IsUnderFront name rows (Some url) =
    (n : ℕ) × (n ≤ length name) × (url_under (front_pattern n name) rows ≡ Some url)
    × ((m : ℕ) → n < m → m ≤ length name → url_under (front_pattern m name) rows ≡ None)
IsUnderFront name rows None =
    (n : ℕ) → n ≤ length name → url_under (front_pattern n name) rows ≡ None

-- the URL of a name is that under a pattern which it fits, and none that it fits tells more of it;
-- or there is none that it fits
abbrev pub IsUrlOf : List ℕ → Rows → Option Parts → Type 0
IsUrlOf name rows (Some url) =
    (pattern : List ℕ) × Fits name pattern × (url_under pattern rows ≡ Some url)
    × ((other : List ℕ) → Fits name other → TellsMore name other pattern
    → url_under other rows ≡ None)
IsUrlOf name rows None = (pattern : List ℕ) → Fits name pattern → url_under pattern rows ≡ None
