use Rattle.std.proofs.Common.{◌≡◌, ◌∙◌, ◌++◌, [], ap}
use Rattle.serde_json.specs.Written.{compact_text}
use Rattle.json_text.specs.Printed.{data_tokens}
use Rattle.jmf_message.specs.Written.{message_data}
use Rattle.jmf_message.proofs.RoundTrip.{message_again}
use Rattle.jmf_message.proofs.Shape.{message_nests}
use Rattle.jmf_message.proofs.encoding.encode.Goals as goal

pub returns : goal.returns
returns c =
    let m = c.args.message.now in
    let d = message_data m in
    let known = c.in_ok-print_document.ensures in
    let printed = known.printed in
    let tokens : c.print_document.new.out.tokens ≡ data_tokens d = printed.appended.tokens ∙ ap (λ ts. ts ++ data_tokens d) c.new-out.ensures.tokens in
    let before : c.print_document.new.out.before ≡ [] = printed.appended.before ∙ c.new-out.ensures.before ∙ c.in_ok-with_capacity.ensures.items in
    record {
      text = c.written_text.ensures.text d tokens ∙ ap (λ b. b ++ compact_text d) before;
      again = record {
        value = d;
        utf8 = c.written_text.ensures.utf8 before;
        json = c.written_text.ensures.again d before tokens printed.again (message_nests m known.known);
        form = message_again m known.sender known.receiver known.valid known.known c.requires;
      };
    }
