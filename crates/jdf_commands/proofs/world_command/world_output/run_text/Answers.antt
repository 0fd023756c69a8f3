use Rattle.std.proofs.Common.{◌≡◌, ◌∙◌, ◌∷◌, ◌++◌, [], ap}
use Rattle.serde_json.specs.Written.{compact_text}
use Rattle.json_text.specs.Written.{shown_data}
use Rattle.plain_shop.specs.Replay.{TaggedShop, answers_to}
use Rattle.world.specs.Showing.{shows}
use Rattle.jdf_commands.specs.WorldCommand.Run.{lines, shown_text}
use Rattle.jdf_commands.proofs.world_command.world_output.run_text.Goals as goal

pub returns-clause-ok : goal.returns-clause-ok
returns-clause-ok c =
    let told : c.push_lines.new.text.items ≡ lines (answers_to c.args.events.items (shows c.args.world.now)) = c.in_ok-push_lines.ensures ∙ λ i. c.new-text.ensures.items i ++ lines ((c.as_slice.ensures.value ∙ c.in_ok-answers.ensures.said) i) in
    c.in_ok-push_shown.ensures.ok
    ∙ (λ i. told i ++ (compact_text (shown_data (c.master.ensures.marks i) (c.master.ensures.seen i)) ++ 10 ∷ []))
    ∙ ap (λ (p : TaggedShop). lines (answers_to c.args.events.items (shows c.args.world.now)) ++ shown_text p.shop) c.in_ok-answers.ensures.shown
