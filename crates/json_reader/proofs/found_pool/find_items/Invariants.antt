use Rattle.std.proofs.Common.{map, take, Ok}
use Rattle.serde_json.specs.View.{items_of}
use Rattle.json_items.specs.Listed.{items_read}
use Rattle.json_items.specs.Resources.{resource_form}
use Rattle.json_reader.specs.Found.{FindsAs, IsPool}
use Rattle.json_reader.proofs.found_pool.find_items.Given as goal

-- what is found of the items so far
abbrev pub invariant-loop-item : goal.invariant-loop-item
invariant-loop-item g l =
    FindsAs IsPool (Ok (record { resources = l.resources; shown = l.shown.items })) (items_read resource_form (items_of (map g.S.Source.content (take l.item-index l.items))))
