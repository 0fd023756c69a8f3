use Rattle.std.proofs.Common.{◌≡◌, ◌∙◌, ◌++◌, ◌∷◌, [], ap}
use Rattle.serde_json.specs.Written.{compact_text}
use Rattle.json_text.specs.Printed.{data_tokens}
use Rattle.shop_page.specs.ListJson.{list_data}
use Rattle.shop_page.proofs.open_list.list_json.Goals as goal

pub returns : goal.returns
returns c =
    let d = list_data c.args.shop.now c.args.works.now in
    let printed = c.in_ok-print_list.ensures in
    let tokens : c.print_list.new.out.tokens ≡ data_tokens d = printed.appended.tokens ∙ ap (λ ts. ts ++ data_tokens d) c.new-out.ensures.tokens in
    let before : c.print_list.new.out.before ≡ [] = printed.appended.before ∙ c.new-out.ensures.before ∙ c.new.ensures.items in
    c.in_ok-push.ensures.items ∙ ap (λ b. b ++ 10 ∷ []) (c.written_text-text.ensures.text d tokens ∙ ap (λ b. b ++ compact_text d) before)
