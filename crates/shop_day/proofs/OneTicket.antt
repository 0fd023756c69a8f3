-- The lines of a day are done as at one ticket with one table of holders.
use Rattle.std.proofs.Common.{◌≡◌, ◌∙◌, ◌⊎◌, inl, inr, ℕ, Bool, true, cond, List, [], ◌∷◌, ◌++◌, Option, Some, is_some, take, ap, subst, sym}
use Rattle.std.specs.Option.{option_map}
use Rattle.std.specs.Str.{bytes_eq}
use Rattle.serde_json.specs.Written.{compact_text}
use Rattle.json_text.specs.Written.{shown_data}
use Rattle.master_core.specs.Master as master
use Rattle.plain_shop.specs.Replay as replay
use Rattle.stored_state.specs.declared.any_controller.AnyController.{AnyController}
use Rattle.stored_state.specs.declared.any_controller.AnyController.TheVariants.{Master as of_master}
use Rattle.streams.specs.declared.command.Output.{Output}
use Rattle.world.proofs.Master.MarksShown.{marks_are_shown}
use Rattle.world.proofs.Master.TicketSeen.{ticket_is_seen}
use Rattle.world.proofs.Runs.Events.{event_is_replayed, events_are_replayed}
use Rattle.world.proofs.Shop.AlwaysKept.{kept_after}
use Rattle.world.proofs.Shop.Changing.{alone, by_holders, kept_then_all}
use Rattle.world.proofs.Shop.MergesTold.{run_told}
use Rattle.world.proofs.Shop.Once.{run_merges_once}
use Rattle.world.specs.Happening.{after, answer_to, answers_to, step_of}
use Rattle.world.specs.Showing.{shows}
use Rattle.world.specs.State.{IsConsistent, State}
use Rattle.world_items.specs.declared.answer.Answer.{Answer}
use Rattle.world_items.specs.declared.event.Event.{Event}
use Rattle.world_items.specs.declared.stop.Stop.TheVariants.{Run}
use Rattle.file_commands.specs.Commands.{shown_text as shown}
use Rattle.controller_form.specs.ShownMaster.{master_text}
use Rattle.jdf_commands.specs.WorldCommand.Run.{shown_text}
use Rattle.shop_day.proofs.Numbers.{told_numbered}
use Rattle.shop_day.specs.Done.{AreDone, DoLines, Done, IsCutOff, IsDone, IsOutcome, IsUntold, IsWritten, Writes, events, text_at}
use Rattle.shop_day.specs.Lines.{GivesUp, event_of}
use Rattle.shop_day.specs.Replayed.{AreReplayed, IsCutOff as IsCutOffThere, IsOneTicket, IsReplayed, IsSaid, WritesSaid}
use Rattle.shop_day.specs.declared.line.Call.{Call}
use Rattle.shop_day.specs.declared.line.Call.TheVariants.{Order, Take, Show}
use Rattle.shop_day.specs.declared.line.Line.{Line}
use Rattle.shop_day.specs.declared.outcome.Outcome.{Outcome}
use Rattle.shop_day.specs.declared.outcome.Outcome.TheVariants.{Wrote, GaveUp}

-- ---- one line

-- what the master shows is the ticket that is seen
master_shown : (w : State) → IsConsistent w → master_text w.controllers.master ≡ shown_text (shows w).shop
master_shown w ok = λ i. compact_text (shown_data (sym (marks_are_shown w ok) i) (sym (ticket_is_seen w ok) i)) ++ 10 ∷ []

shown_mine : (mine : Bool) (m : master.State) (other : Option AnyController) (out : List ℕ) → mine ≡ true → option_map shown (cond mine (Some (of_master m)) other) ≡ Some out → out ≡ master_text m
shown_mine mine m other out is shows_it =
    let found : Some (master_text m) ≡ Some out = subst (λ b. option_map shown (cond b (Some (of_master m)) other) ≡ Some out) is shows_it in
    cc

said : (e : Event) (w : State) (out : Output) → IsConsistent w → IsWritten (answer_to e w) (after e w).messages out → IsSaid (replay.answer_to e (shows w)) out
said e w out ok written =
    let same : answer_to e w ≡ replay.answer_to e (shows w) = (event_is_replayed w e ok).0 in
    record {
      reply = written.reply;
      is = ap (λ (a : Answer). a.word) (sym same) ∙ written.is;
      sent = text_at (after e w).messages (answer_to e w).number;
      numbered = told_numbered e.stop w (step_of e.what e.at w) ∙ ap (λ (a : Answer). is_some a.number) same;
      text = written.text;
      status = written.status;
    }

writes_said : (call : Call) (e : Event) (w : State) (out : Output) → IsConsistent w → Writes call e w out → WritesSaid call e (shows w) out
writes_said (Show name) e w out ok (looks, accepted) =
    (λ mine. shown_mine (bytes_eq name w.controllers.master.name) w.controllers.master _ out.text.items mine looks ∙ master_shown w ok, accepted)
writes_said (Order name bytes) e w out ok (asks, written) = (asks, said e w out ok written)
writes_said (Take k) e w out ok (asks, written) = (asks, said e w out ok written)

outcome_said : (call : Call) (e : Event) (w : State) (outcome : Outcome) → IsConsistent w → IsOutcome (Writes call e w) (GivesUp call (shows w)) e.stop outcome → IsOutcome (WritesSaid call e (shows w)) (GivesUp call (shows w)) e.stop outcome
outcome_said call e w (Wrote out) ok (run, writes) = (run, writes_said call e w out ok writes)
outcome_said call e w (GaveUp fault) ok given_up = given_up

is_replayed : (d : Done) (w : State) → IsConsistent w → IsDone d w → IsReplayed d (shows w)
is_replayed d w ok (is, came) = (is, outcome_said d.line.call d.event w d.outcome ok came)

-- ---- lines in turn

are_replayed : (day : List Done) (w : State) → IsConsistent w → AreDone day w → AreReplayed day (shows w)
are_replayed [] w ok done = tt
are_replayed (d ∷ day) w ok (is, rest) =
    (is_replayed d w ok is, subst (AreReplayed day) (event_is_replayed w d.event ok).1 (are_replayed day (after d.event w) (kept_after d.event w ok) rest))

pub one_ticket : (lines : List Line) (outcomes : List Outcome) (first closing : State) → IsConsistent first → DoLines lines outcomes first closing → IsOneTicket lines outcomes first closing
one_ticket lines outcomes first closing ok done =
    let es = events done.day in
    let kept : IsConsistent closing = kept_then_all es first closing ok done.closing in
    let said : replay.answers_to es (shows first) ≡ answers_to es first = sym (events_are_replayed first es ok).0 in
    record {
      day = done.day;
      lines_are = done.lines_are;
      outcomes_are = done.outcomes_are;
      replayed = are_replayed done.day first ok done.done;
      shown = ap shows done.closing ∙ (events_are_replayed first es ok).1;
      once = run_merges_once es first (replay.answers_to es (shows first)) ok said;
      merges = run_told es first closing (replay.answers_to es (shows first)) ok said done.closing;
      alone = alone closing kept;
      held = by_holders closing kept;
    }

-- ---- lines that are cut off

untold_there : (l : Line) (w new : State) → IsConsistent w → IsUntold l w new → (shows new ≡ shows w) ⊎ (shows new ≡ replay.after (event_of l (shows w).shop Run) (shows w))
untold_there l w new ok (inl same) = inl (ap shows same)
untold_there l w new ok (inr is) = inr (ap shows is ∙ (event_is_replayed w (event_of l (shows w).shop Run) ok).1)

pub cut_off_there : (lines : List Line) (first closing : State) → IsConsistent first → IsCutOff lines first closing → IsCutOffThere lines first closing
cut_off_there lines first closing ok cut =
    let kept : IsConsistent cut.between = kept_then_all (events cut.done.day) first cut.between ok cut.done.closing in
    record {
      place = cut.place;
      line = cut.line;
      there = cut.there;
      outcomes = cut.outcomes;
      between = cut.between;
      before = one_ticket (take cut.place lines) cut.outcomes first cut.between ok cut.done;
      untold = untold_there cut.line cut.between closing kept cut.untold;
    }
