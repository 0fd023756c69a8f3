use Rattle.std.proofs.Common.{◌∙◌, ap, sym, Some}
use Rattle.json.specs.Value.{items_view, value_view}
use Rattle.serde_json.specs.Find.{as_array}
use Rattle.json_source.specs.Tree.{data_of, items_data}
use Rattle.json_source.proofs.Entries.{data_items, tree-Array}
use Rattle.json_source.proofs.tree_source.TreeSource.items.Goals as goal

pub returns-in-Array : goal.returns-in-Array
returns-in-Array c =
    ap Some (data_items c.as_slice.result.now ∙ ap (λ ts. items_data (items_view ts)) c.as_slice.ensures.value) ∙ sym (ap (λ j. as_array (data_of j)) (ap value_view c.in-Array.is ∙ tree-Array c.in-Array.items))
