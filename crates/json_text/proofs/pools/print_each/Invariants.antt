use Rattle.std.proofs.Common.{◌≡◌, true, take}
use Rattle.std.specs.List.{list_all}
use Rattle.json_items.specs.Resources.{all_showing, raw_data, resource_has_names, resource_has_texts}
use Rattle.json_text.proofs.PrintedLists.{IsSoFar}
use Rattle.json_text.proofs.pools.print_each.Given as goal

-- the resources so far, and what is known of them
abbrev pub invariant-loop-resource : goal.invariant-loop-resource
invariant-loop-resource l =
    IsSoFar raw_data (all_showing l.shown l.resources) l.resource-index l.fn.out l.out × (list_all resource_has_names (take l.resource-index l.resources) ≡ true) × (list_all resource_has_texts (take l.resource-index l.resources) ≡ true)
