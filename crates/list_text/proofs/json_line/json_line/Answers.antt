use Rattle.std.proofs.Common.{◌≡◌, ◌∙◌, ◌++◌, ◌∷◌, [], ap}
use Rattle.serde_json.specs.Written.{compact_text}
use Rattle.json_text.specs.Printed.{data_tokens}
use Rattle.list_text.specs.JsonLine.{work_data}
use Rattle.list_text.proofs.json_line.json_line.Goals as goal

pub returns : goal.returns
returns c =
    let d = work_data c.args.controller.now c.args.bytes c.args.now c.args.work.now in
    let printed = c.in_ok-print_work.ensures in
    let tokens : c.print_work.new.out.tokens ≡ data_tokens d = printed.appended.tokens ∙ ap (λ ts. ts ++ data_tokens d) c.new-out.ensures.tokens in
    let before : c.print_work.new.out.before ≡ [] = printed.appended.before ∙ c.new-out.ensures.before ∙ c.new.ensures.items in
    c.in_ok-push.ensures.items ∙ ap (λ b. b ++ 10 ∷ []) (c.written_text-made.ensures.text d tokens ∙ ap (λ b. b ++ compact_text d) before)
