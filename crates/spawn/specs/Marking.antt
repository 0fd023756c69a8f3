-- What a ticket shows of the spawns that are out.
use Rattle.std.specs.Prelude.{ℕ, ◌||◌, Bool, List, [], ◌∷◌, map, nat_le, if◌then◌else◌}
use Rattle.std.specs.List.{filter, list_any}
use Rattle.std.specs.Str.{bytes_eq}
use Rattle.ticket_items.specs.Ids.{mem}
use Rattle.ticket_rows.specs.Place.{places, nodes_in, resources_in}
use Rattle.ticket_items.specs.declared.marks.Marks.{Marks}
use Rattle.ticket_items.specs.declared.node_row.NodeRow.{NodeRow}
use Rattle.ticket_items.specs.declared.res_mark.ResMark.{ResMark}
use Rattle.ticket_items.specs.declared.spawn_status.SpawnStatus.TheVariants.{SpawnedRO, SpawnedRW}
use Rattle.plain_shop.specs.Claim.{ids_of}
use Rattle.spawn.specs.Records.{is_out}
use Rattle.spawn.specs.declared.records.spawn_rec.SpawnRec.{SpawnRec}

abbrev pub records_out : List SpawnRec → List SpawnRec
records_out recs = filter is_out recs

-- whether a copy of the resource went with the spawn that may be changed; whether any copy did
abbrev pub copies_rw : List ℕ → SpawnRec → Bool
copies_rw x r = mem x r.rw

abbrev pub copies : List ℕ → SpawnRec → Bool
copies x r = copies_rw x r || list_any (λ y. bytes_eq y.id x) r.ro

-- numbers in rising order
abbrev pub put_in : ℕ → List ℕ → List ℕ
put_in n [] = n ∷ []
put_in n (m ∷ ms) = if nat_le n m then n ∷ m ∷ ms else m ∷ put_in n ms

abbrev pub in_order : List ℕ → List ℕ
in_order [] = []
in_order (n ∷ ns) = put_in n (in_order ns)

-- what a resource shows: the strongest of its copies that are out, and the numbers of the spawns
-- with which they went, in rising order
abbrev pub mark : List SpawnRec → List ℕ → ResMark
mark recs x =
    record {
      id = x;
      status = if list_any (copies_rw x) (records_out recs) then SpawnedRW else SpawnedRO;
      spawn_ids = in_order (map (λ r. r.id) (filter (copies x) (records_out recs)));
    }

-- the nodes that are out, and the resources of which copies are, each in ticket order
abbrev pub marks : List NodeRow → List SpawnRec → Marks
marks rows recs =
    record {
      nodes =
          filter (λ n. list_any (λ r. bytes_eq r.node n) (records_out recs))
          (ids_of (nodes_in (places rows)));
      resources =
          map (mark recs)
          (filter (λ x. list_any (copies x) (records_out recs)) (ids_of (resources_in (places rows))));
    }
