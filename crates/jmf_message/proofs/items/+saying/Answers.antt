use Rattle.std.proofs.Common.{◌≡◌, ◌∙◌, ap, subst, sym}
use Rattle.serde_json.specs.Data.{object}
use Rattle.jmf_message.specs.Items.{item_data, members_data}
use Rattle.jmf_message.specs.Family.{says}
use Rattle.jmf_message.proofs.ItemData.{data_object}
use Rattle.jmf_message.proofs.items.+saying.Goals as goal

pub says-returns-in-Object : goal.says-returns-in-Object
says-returns-in-Object g t c =
    let d = g.S.Source.content c.args.value.now in
    let seen : object (members_data c.as_slice.result.now) ≡ item_data c.args.item.now = ap (λ ms. object (members_data ms)) c.as_slice.ensures.value ∙ sym (ap item_data c.in-Object.is ∙ data_object c.in-Object.members) in
    subst (λ x. c.says_all.result ≡ says x d) seen c.says_all.ensures
