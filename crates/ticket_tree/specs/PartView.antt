-- A part seen as a plain ticket: what stands in it, by its id, and where it stands.
use Rattle.std.specs.Prelude.{ℕ, ◌-◌, List, [], length, take, Option}
use Rattle.std.specs.Option.{option_map}
use Rattle.ticket_rows.specs.Copies.{with_copies}
use Rattle.ticket_rows.specs.Place.{Place, Thing, Row, places, place_at, row_in}
use Rattle.ticket_tree.specs.Part.{PartCopy}
use Rattle.ticket_items.specs.declared.node_row.NodeRow.{NodeRow}

-- what a worker may change of a part, as rows: the part's rows, with the copies that may be changed
-- behind the root's own resources
abbrev pub own_rows : PartCopy → List NodeRow
own_rows p = with_copies p.rows p.rw []

-- the row of an id in a part: of a node, of a resource at home there, or of a copy to change
abbrev pub part_row : PartCopy → List ℕ → Option Row
part_row p x = row_in (own_rows p) x

-- what stands in a part under an id, without its path, since a part's paths end at its own root
abbrev pub part_thing : PartCopy → List ℕ → Option Thing
part_thing p x = option_map (λ q. q.thing) (place_at (places (own_rows p)) x)

-- a place with so many ids of its path taken away at the end, where the path comes to the root
abbrev pub cut_place : ℕ → Place → Place
cut_place levels p = record p { path = take (length p.path - levels) p.path }
