use Rattle.std.proofs.Common.{◌≡◌, ◌∙◌, Some, ap, map, subst, sym}
use Rattle.std.specs.List.{list_all}
use Rattle.json.specs.Value.{value_view}
use Rattle.serde_json.specs.Find.{as_array}
use Rattle.serde_json.specs.View.{items_of}
use Rattle.json_items.specs.Edits.{edit_form, edit_has_names, edit_has_texts}
use Rattle.json_items.specs.Validation.{Reads}
use Rattle.json_items.specs.Listed.{items_read}
use Rattle.json_source.proofs.Entries.{data_items, tree-Array}
use Rattle.json_source.specs.Read.{◌>>=◌}
use Rattle.json_source.specs.Tree.{data_of, tree_data}
use Rattle.document_commands.proofs.edit_command.raw_document.edits_in.Goals as goal

pub returns-in-Array : goal.returns-in-Array
returns-in-Array c =
    let whole : as_array (tree_data c.args.tree) ≡ Some (items_of (map tree_data c.in-Array.edits.items)) =
    ap (λ j. as_array (data_of j)) (ap value_view c.in-Array.is ∙ tree-Array c.in-Array.edits) ∙ sym (ap Some (data_items c.in-Array.edits.items)) in
    subst (λ o. Reads (list_all edit_has_names) (list_all edit_has_texts) c.find_edits.result (o >>= items_read edit_form)) (sym whole) c.find_edits.ensures
