use Rattle.std.proofs.Common.{◌∙◌, ap, sym, subst}
use Rattle.json.specs.Value.{members_view, value_view}
use Rattle.serde_json.specs.Data.{no_members}
use Rattle.json_source.specs.Read.{Gives, attrs_form, lent_pairs, text_pairs}
use Rattle.json_source.specs.Tree.{data_of, members_data}
use Rattle.json_source.proofs.Objects.{tree-Object}
use Rattle.json_source.proofs.tree_source.TreeSource.texts.Goals as goal

pub returns-in-Object-clause-texts : goal.returns-in-Object-clause-texts
returns-in-Object-clause-texts c =
    subst (Gives (λ pairs. lent_pairs pairs.items) c.texts_in_order.result)
    (ap (λ ms. text_pairs (members_data (members_view ms) no_members)) c.as_slice.ensures.value
    ∙ sym (ap (λ j. attrs_form (data_of j)) (ap value_view c.in-Object.is ∙ tree-Object c.in-Object.members)))
    c.texts_in_order.ensures.texts
