use Rattle.std.proofs.Common.{◌∙◌, ap, subst, sym}
use Rattle.json.specs.Value.{members_view}
use Rattle.json_source.specs.Read.{Gives, lent_pairs, text_pairs}
use Rattle.json_source.proofs.Rising.{given_in_order, listed-rising}
use Rattle.json_source.proofs.tree_source.texts_in_order.Goals as goal

pub returns-then-names_rise-clause-texts : goal.returns-then-names_rise-clause-texts
returns-then-names_rise-clause-texts c =
    subst (Gives (λ pairs. lent_pairs pairs.items) c.texts_listed.result) (ap text_pairs (listed-rising (members_view c.args.members.now) (sym c.names_rise.ensures ∙ c.if-names_rise.true))) c.texts_listed.ensures

pub returns-then-names_rise-clause-order : goal.returns-then-names_rise-clause-order
returns-then-names_rise-clause-order c =
    given_in_order (members_view c.args.members.now) c.texts_listed.result c.texts_listed.ensures (sym c.names_rise.ensures ∙ c.if-names_rise.true)
