-- What the commands give out of the files of a shop is what the lines of a day write.
use Rattle.std.proofs.Common.{◌≡◌, ◌∙◌, ℕ, Bool, true, List, Option, Some, Result, Ok, ap, refl, subst, sym}
use Rattle.std.specs.Option.{option_map}
use Rattle.ticket_items.specs.declared.refusal.Refusal.{Refusal}
use Rattle.controller.specs.Step.{Step}
use Rattle.controller.specs.declared.message.Message.{Message}
use Rattle.json_profile.specs.ReadAs.{IsReadAs}
use Rattle.stored_state.specs.AnyStep.{IsHanded, IsOrdered}
use Rattle.stored_state.specs.Message.{message_text}
use Rattle.stored_state.specs.Opened.{any_state_read}
use Rattle.stored_state.specs.declared.any_controller.AnyController.{AnyController}
use Rattle.stored_state.specs.Step.{TextStep}
use Rattle.streams.specs.declared.command.Output.{Output}
use Rattle.world.specs.Controllers.{Controllers}
use Rattle.world.specs.Happening.{after, next_answer, next_state}
use Rattle.world.specs.Showing.{shows}
use Rattle.world.specs.State.{State}
use Rattle.world_items.specs.Word.{word_of}
use Rattle.world_items.specs.declared.reply.Reply.{Reply}
use Rattle.world_items.specs.declared.stop.Stop.TheVariants.{Run}
use Rattle.world_items.specs.declared.what.What.{What}
use Rattle.world_items.specs.declared.what.What.TheVariants.{Deliver}
use Rattle.file_commands.specs.Commands.{shown_text}
use Rattle.file_commands.specs.Step.{is_refused, step_lines}
use Rattle.shop_day.proofs.Made.{IsMade, message_handed, order_made, read_once}
use Rattle.shop_day.proofs.Numbers.{numbered_some, sent_there}
use Rattle.shop_day.proofs.Stops.{message_done, order_done}
use Rattle.shop_day.specs.Done.{IsWritten, StepsTo}
use Rattle.shop_day.specs.Files.{IsFileOf, controller_of}
use Rattle.shop_day.specs.Laws.{OrderIsLine, ShowIsLine, TakeIsLine}
use Rattle.shop_day.specs.Lines.{event, event_of}
use Rattle.shop_day.specs.declared.line.Call.TheVariants.{Show}
use Rattle.shop_day.specs.declared.outcome.Outcome.TheVariants.{Wrote}

-- ---- a step that is given out

-- what is written of it, with no stop
written_so : (w : State) (moved : Step Controllers Message) (reply : Result Reply Refusal) (sent : Option (List ℕ)) (out : Output) → reply ≡ moved.reply → sent ≡ option_map message_text moved.sent → out.text.items ≡ step_lines reply sent → out.refused ≡ is_refused reply
    → IsWritten (next_answer Run w (Ok moved)) (next_state Run w (Ok moved)).messages out
written_so w moved reply sent out replied sends text status =
    record {
      reply = reply;
      is = ap word_of (sym replied);
      text = text ∙ ap (step_lines reply) (sends ∙ ap (option_map message_text) (sym (sent_there w.messages moved.sent)));
      status = status;
    }

-- a step of the controller of a name
pub steps_to : (w : State) (name : List ℕ) (what : What) (at : ℕ) (step : TextStep AnyController) (reply : Result Reply Refusal) (sent : Option (List ℕ)) (out : Output) → IsMade w name what at step → reply ≡ step.reply → sent ≡ step.sent → out.text.items ≡ step_lines reply sent → out.refused ≡ is_refused reply
    → StepsTo what at w (after (event what at Run) w) (Wrote out)
steps_to w name what at step reply sent out is replied sends text status =
    let written = written_so w is.moved reply sent out (replied ∙ is.reply) (sends ∙ is.sent) text status in
    (Run, refl, (refl, subst (λ s. IsWritten (next_answer Run w s) (next_state Run w s).messages out) (sym is.made) written))

-- and its file
file_then : {K : Type 0} (is_honest : K → Bool) (held : K → List ℕ) (w : State) (name : List ℕ) (what : What) (at : ℕ) (step : TextStep AnyController) (keep : K) → IsMade w name what at step → is_honest keep ≡ true → IsReadAs any_state_read (held keep) (Ok step.next) → IsFileOf is_honest held (after (event what at Run) w) name keep
file_then is_honest held w name what at step keep is honest read =
    record {
      controller = step.next;
      there = ap (λ s. controller_of (next_state Run w s).controllers name) is.made ∙ is.next;
      honest = honest;
      read = read;
    }

-- ---- the commands

pub order_is_line : {K : Type 0} (is_honest : K → Bool) (held place : K → List ℕ) → OrderIsLine is_honest held place
order_is_line is_honest held place w name bytes at keep then reply sent out ok file given text status =
    let same : given.before.controller ≡ file.controller = read_once any_state_read (held keep) given.before.controller file.controller (given.loaded.shown file.honest) file.read in
    let step = given.gives.step in
    let made = order_made w name bytes.items at file.controller step ok file.there (subst (λ c. IsOrdered at bytes.items c step) same given.gives.is_step.0) in
    let new = after (event made.0 at Run) w in (
      new,
      order_done name bytes at made.0 w new (Wrote out) made.1 (steps_to w name made.0 at step reply sent out made.2 given.gives.is_step.1 given.gives.is_step.2 text status),
      file_then is_honest held w name made.0 at step then.keep made.2 (given.honest ∙ file.honest) (subst (λ c. IsReadAs any_state_read (held then.keep) (Ok c)) given.gives.saved.after (given.again file.honest)),
    )

pub take_is_line : {K : Type 0} (is_honest : K → Bool) (held place : K → List ℕ) → TakeIsLine is_honest held place
take_is_line is_honest held place w k at m keep then reply sent out ok found reads file given text status =
    let same : given.before.controller ≡ file.controller = read_once any_state_read (held keep) given.before.controller file.controller (given.loaded.shown file.honest) file.read in
    let step = given.gives.step in
    let made = message_handed w k at m file.controller step found file.there reads (subst (λ c. IsHanded at (message_text m) c step) same given.gives.is_step.0) in
    let new = after (event (Deliver k) at Run) w in (
      new,
      message_done k at w new (Wrote out) (numbered_some w.messages k m found) (steps_to w m.receiver (Deliver k) at step reply sent out made given.gives.is_step.1 given.gives.is_step.2 text status),
      file_then is_honest held w m.receiver (Deliver k) at step then.keep made (given.honest ∙ file.honest) (subst (λ c. IsReadAs any_state_read (held then.keep) (Ok c)) given.gives.saved.after (given.again file.honest)),
    )

pub show_is_line : {K : Type 0} (is_honest : K → Bool) (held place : K → List ℕ) → ShowIsLine is_honest held place
show_is_line is_honest held place w name at now keep out notes file looks =
    let same : looks.opened.controller ≡ file.controller = read_once any_state_read (held keep) looks.opened.controller file.controller (looks.loaded.shown file.honest) file.read in
    (event_of (record { call = Show name; at = at }) (shows w).shop Run, refl, (refl, (refl, (ap (option_map shown_text) file.there ∙ ap (λ c. Some (shown_text c)) (sym same) ∙ ap Some (sym looks.shown), looks.accepted))))
