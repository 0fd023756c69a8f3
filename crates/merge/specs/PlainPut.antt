-- What a merge makes of the plain ticket: nothing moves, and the rows of the claim are the part's.
use Rattle.std.specs.Prelude.{ℕ, List, false, Option, if◌then◌else◌, slice_set}
use Rattle.std.specs.Option.{option_map_or}
use Rattle.ticket_rows.specs.Place.{Row, places, place_at, row_in}
use Rattle.ticket_rows.specs.Ticket.{Job}
use Rattle.ticket_tree.specs.Part.{PartCopy}
use Rattle.ticket_tree.specs.PartView.{part_row}
use Rattle.plain_shop.specs.Claim.{is_claimed}
use Rattle.spawn.specs.declared.records.phase.Phase.TheVariants.{Merged}
use Rattle.spawn.specs.declared.records.spawn_rec.SpawnRec.{SpawnRec}

-- the rows by id after a merge: the part's where the spawn claims it, and the ticket's elsewhere
abbrev pub merged_rows : Job → SpawnRec → PartCopy → List ℕ → Option Row
merged_rows t r p y =
    if option_map_or (is_claimed r.node r.rw) (place_at (places t.rows) y) false then part_row p y
    else row_in t.rows y

-- the records after a merge of the k-th
abbrev pub merged_recs : List SpawnRec → ℕ → SpawnRec → List SpawnRec
merged_recs recs k r = slice_set recs k (record r { phase = Merged })
