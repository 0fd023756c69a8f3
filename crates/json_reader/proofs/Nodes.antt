-- The rows of a node, its own and its children's.
use Rattle.std.proofs.Common.{◌≡◌, ℕ, List, ◌∷◌, codes, Option, Some, Ordering, Less, Equal, Greater, refl, ap}
use Rattle.std.specs.Cmp.Lexicographic.{slice_cmp}
use Rattle.std.specs.Option.{option_map}
use Rattle.std.specs.Ordering.{nat_cmp, match_ordering}
use Rattle.serde_json.specs.Data.{Data, Members, no_members, member, null, boolean, number, string, array, object}
use Rattle.serde_json.specs.Find.{get, get_member}
use Rattle.json_items.specs.TicketDraft.{RawRow, own_row, node_rows, child_rows, list_rows, next_depth}
use Rattle.json_reader.specs.Gathered.{rows_under}
use Rattle.json_source.specs.Read.{◌>>=◌}

under_at : (o : Ordering) (depth : ℕ) (d : Data) (rest : Option Data) (rows : Option (List RawRow)) → rows ≡ rows_under depth rest → match_ordering o rows (list_rows depth d) rows ≡ rows_under depth (match_ordering o rest (Some d) rest)
under_at Less depth d rest rows e = e
under_at Equal depth d rest rows e = refl
under_at Greater depth d rest rows e = e

pub child_rows-get_member : (depth : ℕ) (ms : Members) → child_rows depth ms ≡ rows_under depth (get_member (codes "JDF") ms)
child_rows-get_member depth no_members = refl
child_rows-get_member depth (member k d ms) = under_at (slice_cmp nat_cmp (codes "JDF") k) depth d _ _ (child_rows-get_member depth ms)

-- the rows of a node: its own, and those under `JDF`
pub node_rows-get : (names : List (List ℕ)) (n : ℕ) (d : Data) → node_rows names n d ≡ (own_row names n d >>= λ row. option_map (λ rows. row ∷ rows) (rows_under (next_depth n) (get (codes "JDF") d)))
unfolding own_row
node_rows-get names n null = refl
node_rows-get names n (boolean b) = refl
node_rows-get names n (number m) = refl
node_rows-get names n (string s) = refl
node_rows-get names n (array ds) = refl
node_rows-get names n (object ms) = ap (λ o. own_row names n (object ms) >>= λ row. option_map (λ rows. row ∷ rows) o) (child_rows-get_member (next_depth n) ms)
