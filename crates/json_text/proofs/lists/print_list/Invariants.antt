use Rattle.std.proofs.Common.{◌≡◌, true, take}
use Rattle.std.specs.List.{list_all}
use Rattle.json_text.proofs.PrintedLists.{IsSoFar}
use Rattle.json_text.proofs.lists.print_list.Given as goal

-- the items so far, and what is known of them
abbrev pub invariant-loop-item : goal.invariant-loop-item
invariant-loop-item g l =
    IsSoFar g.T.PrintForm.written l.items l.item-index l.initial.out l.out × (list_all g.T.Form.has_names (take l.item-index l.items) ≡ true) × (list_all g.T.Form.has_texts (take l.item-index l.items) ≡ true)
