use Rattle.std.proofs.Common.{◌≡◌, ◌∙◌, ◌++◌, [], ap}
use Rattle.serde_json.specs.Written.{compact_text}
use Rattle.json_text.specs.Printed.{data_tokens}
use Rattle.controller_form.proofs.states.state_form.StateForm.state_text.Goals as goal

pub returns : goal.returns
returns g c =
    let d = g.Self.StateForm.state_data c.args.self.now in
    let told = c.in_ok-print_state.ensures in
    let tokens : c.print_state.new.out.tokens ≡ data_tokens d = told.printed.appended.tokens ∙ ap (λ ts. ts ++ data_tokens d) c.new-out.ensures.tokens in
    let before : c.print_state.new.out.before ≡ [] = told.printed.appended.before ∙ c.new-out.ensures.before ∙ c.in_ok-with_capacity.ensures.items in
    record {
      text = c.written_text.ensures.text d tokens ∙ ap (λ b. b ++ compact_text d) before;
      again = record {
        value = d;
        utf8 = c.written_text.ensures.utf8 before;
        json = c.written_text.ensures.again d before tokens told.printed.again told.nests;
        form = told.again;
      };
    }
