use Rattle.std.proofs.Common.{◌∙◌, ap, sym, map}
use Rattle.json.specs.Value.{members_view, value_view}
use Rattle.json_source.specs.Read.{has_only}
use Rattle.json_source.specs.Tree.{data_of, names_among}
use Rattle.json_source.proofs.Finding.{has_only_object}
use Rattle.json_source.proofs.Objects.{tree-Object}
use Rattle.json_source.proofs.tree_source.TreeSource.has_only.Goals as goal

pub returns-in-Object : goal.returns-in-Object
returns-in-Object c =
    let names = map (λ n. n.now) c.args.names.now in
    c.are_among.ensures ∙ ap (λ ms. names_among names (members_view ms)) c.as_slice.ensures.value ∙ sym (ap (λ j. has_only names (data_of j)) (ap value_view c.in-Object.is ∙ tree-Object c.in-Object.members) ∙ has_only_object names _)
