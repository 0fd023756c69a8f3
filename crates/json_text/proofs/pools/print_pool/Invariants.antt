use Rattle.std.proofs.Common.{◌≡◌, true, take}
use Rattle.std.specs.List.{list_all}
use Rattle.json_items.specs.Resources.{raw_data, resource_has_names, resource_has_texts}
use Rattle.json_text.specs.Marked.{marked_pool}
use Rattle.json_text.proofs.PrintedLists.{IsSoFar}
use Rattle.json_text.proofs.pools.print_pool.Given as goal

-- the resources so far, and what is known of them
abbrev pub invariant-loop-resource : goal.invariant-loop-resource
invariant-loop-resource l =
    IsSoFar raw_data (marked_pool l.marks l.resources) l.resource-index l.initial.out l.out × (list_all resource_has_names (take l.resource-index l.resources) ≡ true) × (list_all resource_has_texts (take l.resource-index l.resources) ≡ true)
