use Rattle.std.proofs.Common.{◌≡◌, ◌∙◌, ◌++◌, ◌∷◌, [], ap, subst}
use Rattle.serde_json.specs.Data.{array}
use Rattle.serde_json.specs.Written.{compact_text}
use Rattle.json_items.specs.Listed.{data_items}
use Rattle.json_text.specs.Printed.{IsPrinted, data_tokens}
use Rattle.shop_page.specs.WorkerJson.{entry_data, worker_data}
use Rattle.shop_page.proofs.worker_entries.worker_json.Goals as goal

pub returns : goal.returns
returns c =
    let d = worker_data c.args.worker.now in
    let printed = subst (λ entries. IsPrinted (array (data_items entry_data entries)) c.new-out.result c.print_entries.new.out) c.entries.ensures.entries c.in_ok-print_entries.ensures in
    let tokens : c.print_entries.new.out.tokens ≡ data_tokens d = printed.appended.tokens ∙ ap (λ ts. ts ++ data_tokens d) c.new-out.ensures.tokens in
    let before : c.print_entries.new.out.before ≡ [] = printed.appended.before ∙ c.new-out.ensures.before ∙ c.new.ensures.items in
    c.in_ok-push.ensures.items ∙ ap (λ b. b ++ 10 ∷ []) (c.written_text-text.ensures.text d tokens ∙ ap (λ b. b ++ compact_text d) before)
