-- Rows that stand in boxes of their own, and a run of rows that is lent.
use Rattle.std.specs.Prelude.{Box, List, map}
use Rattle.ticket_items.specs.declared.node_row.NodeRow.{NodeRow}
use Rattle.ticket_rows.specs.declared.rows_iter.Run.{Run}
use Rattle.ticket_rows.specs.declared.rows_iter.Run.TheVariants.{Boxed, Plain}

-- what is in these boxes
abbrev pub contents : {Z : Type 0} → List (Box NodeRow Z) → List NodeRow
contents boxes = map (λ b. b.value) boxes

-- the rows of a run
abbrev pub rows_of : Run → List NodeRow
rows_of (Boxed boxes) = contents boxes.now
rows_of (Plain rows) = rows.now
