use Rattle.std.proofs.Common.{map, take}
use Rattle.std.specs.List.{list_all}
use Rattle.serde_json.specs.View.{items_of}
use Rattle.json_items.specs.Validation.{Finds, first_fault}
use Rattle.json_items.specs.Listed.{items_read}
use Rattle.json_items.proofs.lists.items_form.find_each.Given as goal

-- what is found of the items so far
abbrev pub invariant-loop-item : goal.invariant-loop-item
invariant-loop-item g l = Finds (first_fault (list_all g.T.FormIn.names_valid) (list_all g.T.FormIn.texts_valid)) l.found (items_read (g.T.FormIn.form_in l.setting) (items_of (map g.S.Source.content (take l.item-index l.items))))
