use Rattle.std.proofs.Common.{◌∙◌, ◌∷◌, ◌++◌, [], ap}
use Rattle.serde_json.specs.Written.{compact_text}
use Rattle.json_text.specs.Written.{shown_data}
use Rattle.jdf_commands.specs.WorldCommand.Run.{shown_text}
use Rattle.world.specs.Showing.{shows}
use Rattle.world.specs.State.{State}
use Rattle.jdf_loop.specs.EventLine.{has_too_large, lines}
use Rattle.jdf_loop.specs.Losses.{lines_to}
use Rattle.jdf_loop.proofs.command.run_output.Goals as goal

pub returns-in-Some : goal.returns-in-Some
returns-in-Some g c =
    let told = c.as_slice.ensures.value ∙ c.in_ok-lines.ensures.lines in
    record {
      written =
          c.in_ok-run_text-in-Some.ensures.text
          ∙ (λ i. lines (told i) ++ (compact_text (shown_data (c.in-Some.ensures.marks i) (c.in-Some.ensures.seen i)) ++ 10 ∷ []))
          ∙ ap (λ (w : State). lines (lines_to c.args.events.items c.args.shop.now) ++ shown_text (shows w).shop) c.in_ok-lines.ensures.left;
      status = c.in_ok-run_text-in-Some.ensures.status ∙ ap has_too_large told;
    }
