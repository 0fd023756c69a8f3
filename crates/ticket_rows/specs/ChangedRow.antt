-- The row that an edit changes, by its place.
use Rattle.std.specs.Prelude.{ℕ, ◌+◌, List, drop, if◌then◌else◌, nat_le, Option, slice_get}
use Rattle.std.specs.Prelude.{slice_set}
use Rattle.std.specs.List.{list_any, position, position_or_len}
use Rattle.std.specs.Option.{option_map_or}
use Rattle.std.specs.Str.{bytes_eq}
use Rattle.ticket_items.specs.declared.edit.Edit.{Edit}
use Rattle.ticket_items.specs.declared.node_row.NodeRow.{NodeRow}
use Rattle.ticket_items.specs.Edit.{is_of_node, target}

-- the list, with f of what stands at a place
abbrev pub at_place : {X : Type 0} → ℕ → (X → X) → List X → List X
at_place k f xs = option_map_or (λ x. slice_set xs k (f x)) (slice_get xs k) xs

-- where the row stands that an edit changes: that of the node, or the first one in whose pool the
-- resource is
abbrev pub changed_place : Edit → List NodeRow → Option ℕ
changed_place e rows =
    if is_of_node e then position (λ r. bytes_eq r.id (target e)) rows
    else position (λ r. list_any (λ x. bytes_eq x.id (target e)) r.resources) rows

-- where the rows end that stand deeper than r behind a place
abbrev pub end_behind : List NodeRow → ℕ → NodeRow → ℕ
end_behind rows k r = k + 1 + position_or_len (λ s. nat_le s.depth r.depth) (drop (k + 1) rows)
