use Rattle.std.proofs.Common.{◌∙◌, ap, option_map, sym}
use Rattle.json.specs.Find.{get_member}
use Rattle.json.specs.Json as json
use Rattle.json.specs.Value.{members_view, value_view}
use Rattle.serde_json.specs.Find.{get}
use Rattle.json_source.specs.Tree.{data_of}
use Rattle.json_source.proofs.Finding.{all_tree, get_data}
use Rattle.json_source.proofs.Objects.{tree-Object}
use Rattle.json_source.proofs.tree_source.TreeSource.member.Goals as goal

pub returns-in-Object : goal.returns-in-Object
returns-in-Object c =
    let name = c.args.name.now in
    all_tree c.last_of.result ∙ ap (option_map data_of) (c.last_of.ensures ∙ ap (λ ms. get_member name (members_view ms)) c.as_slice.ensures.value) ∙ get_data name (json.object (members_view c.in-Object.members.items))
    ∙ sym (ap (λ j. get name (data_of j)) (ap value_view c.in-Object.is ∙ tree-Object c.in-Object.members))
