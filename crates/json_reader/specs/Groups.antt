-- The resources of a part's root in their groups, by how many stand in each (JDF 1.5, 4.4).
use Rattle.std.specs.Prelude.{ℕ, List, [], ◌∷◌, codes, take, drop, Option, Some}
use Rattle.std.specs.List.{list_all, prefix_len}
use Rattle.serde_json.specs.Data.{Data}
use Rattle.ticket_items.specs.declared.node_row.NodeRow.{NodeRow}
use Rattle.ticket_items.specs.declared.resource.Resource.{Resource}
use Rattle.json_items.specs.PartDraft.{RowsAndCopies, part_members, rows_and_copies}
use Rattle.json_items.specs.Shown.{shows_change, shows_nothing, shows_read}
use Rattle.json_items.specs.TicketDraft.{node_rows}
use Rattle.json_items.specs.declared.resources.shown_form.Showing.{Showing}
use Rattle.json_source.specs.Read.{◌>>=◌, some_if, text_under}
use Rattle.json_reader.specs.declared.part_groups.GroupSizes.{GroupSizes}

-- how many resources are the root's own, and how many behind them are copies to change, where all
-- others are copies to read
abbrev pub group_sizes : List ℕ → List Showing → Option GroupSizes
group_sizes spawn shown =
    let own = prefix_len shows_nothing shown in
    let rw = prefix_len (shows_change spawn) (drop own shown) in
    some_if (list_all (shows_read spawn) (drop rw (drop own shown))) >>=
    λ _. Some (record { own = own; rw = rw })

-- rows, and the copies to change and to read that were taken out of the root's pool
abbrev pub with_taken : List NodeRow → List Resource → List Resource → RowsAndCopies
with_taken rows changes reads = record { rows = rows; rw = changes; ro = reads }

-- rows without the copies that stand in the root's pool, and these copies
abbrev pub split_rows : GroupSizes → List NodeRow → RowsAndCopies
split_rows s [] = with_taken [] [] []
split_rows s (root ∷ rows) =
    let copies = drop s.own root.resources in
    with_taken (record root { resources = take s.own root.resources } ∷ rows) (take s.rw copies)
    (drop s.rw copies)

-- the nodes of a part, with the copies taken out of the root's pool
abbrev pub taken_form : Data → Option RowsAndCopies
taken_form d = do
  spawn ← text_under (codes "SpawnID") d
  raws ← node_rows part_members 1 d
  rows_and_copies spawn raws
