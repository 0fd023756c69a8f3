-- What a shop's ticket shows of the spawns that are out.
use Rattle.std.specs.Prelude.{ℕ, ◌||◌, Bool, List, map, if◌then◌else◌}
use Rattle.std.specs.List.{filter, list_any}
use Rattle.std.specs.Str.{bytes_eq}
use Rattle.ticket_items.specs.Ids.{mem}
use Rattle.ticket_items.specs.declared.marks.Marks.{Marks}
use Rattle.ticket_items.specs.declared.res_mark.ResMark.{ResMark}
use Rattle.ticket_items.specs.declared.spawn_status.SpawnStatus.TheVariants.{SpawnedRO, SpawnedRW}
use Rattle.ticket_rows.specs.Place.{Place, nodes_in, resources_in}
use Rattle.plain_shop.specs.Claim.{ids_of, linked_ro}
use Rattle.plain_shop.specs.Shop.{PlainState, SpawnState, is_out}

-- the spawns whose part is still to be put in, or to be taken back
abbrev pub spawns_out : PlainState → List SpawnState
spawns_out p = filter (λ a. is_out a.phase) p.spawns

-- whether a resource went along with a spawn to be changed; and whether it went along at all, which
-- all do that the spawn's node or one below it links, and that are at home above
abbrev pub takes_rw : List ℕ → SpawnState → Bool
takes_rw x a = mem x a.rw

abbrev pub takes : List Place → List ℕ → SpawnState → Bool
takes tree x a = takes_rw x a || mem x (ids_of (linked_ro tree a.node a.rw))

-- what a resource shows: the strongest of its copies that are out, and the numbers of the spawns
-- with which they went, in their order
abbrev pub shop_mark : PlainState → List ℕ → ResMark
shop_mark p x =
    record {
      id = x;
      status = if list_any (takes_rw x) (spawns_out p) then SpawnedRW else SpawnedRO;
      spawn_ids = map (λ a. a.number) (filter (takes p.tree x) (spawns_out p));
    }

-- the nodes that are out, and the resources of which copies are, each in ticket order
abbrev pub shop_marks : PlainState → Marks
shop_marks p =
    record {
      nodes =
          filter (λ n. list_any (λ a. bytes_eq a.node n) (spawns_out p))
          (ids_of (nodes_in p.tree));
      resources =
          map (shop_mark p)
          (filter (λ x. list_any (takes p.tree x) (spawns_out p)) (ids_of (resources_in p.tree)));
    }
