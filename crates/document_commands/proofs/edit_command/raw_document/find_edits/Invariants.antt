use Rattle.std.proofs.Common.{map}
use Rattle.std.specs.List.{list_all}
use Rattle.serde_json.specs.View.{items_of}
use Rattle.json_items.specs.Edits.{edit_form, edit_has_names, edit_has_texts}
use Rattle.json_items.specs.Validation.{Finds, first_fault}
use Rattle.json_items.specs.Listed.{items_read}
use Rattle.json_source.specs.Tree.{tree_data}
use Rattle.document_commands.proofs.edit_command.raw_document.find_edits.Given as goal

-- what is found of the edits so far
abbrev pub invariant-loop-edit : goal.invariant-loop-edit
invariant-loop-edit l = Finds (first_fault (list_all edit_has_names) (list_all edit_has_texts)) l.found (items_read edit_form (items_of (map tree_data l.yielded)))
