-- The events of a shop that aren't lost happen as in a world.
use Rattle.std.proofs.Common.{◌≡◌, ◌∙◌, ◌∷◌, [], ℕ, Bool, true, false, cond, List, ap, refl, sym}
use Rattle.ticket_rows.specs.Ticket.{Job}
use Rattle.world.proofs.Shop.AlwaysKept.{kept_after}
use Rattle.world.proofs.Shop.Changing.{alone, by_holders, kept_then_all}
use Rattle.world.proofs.Runs.Events.{event_is_replayed, events_are_replayed}
use Rattle.world.proofs.Shop.MergesTold.{run_told}
use Rattle.world.proofs.Shop.Once.{run_merges_once}
use Rattle.world.proofs.Shop.Opening.{opening_is_shown}
use Rattle.world.specs.Happening.{after, after_all, answer_to, answers_to}
use Rattle.plain_shop.specs.Replay as replay
use Rattle.world.specs.Showing.{shows}
use Rattle.world.specs.State.{IsConsistent, State, opening}
use Rattle.world_items.specs.declared.event.Event.{Event}
use Rattle.jdf_loop.specs.Losses.{answers_in, is_lost, kept_events, left_by_all, lines_to}
use Rattle.jdf_loop.specs.Run.{IsOneTicket}
use Rattle.jdf_loop.specs.declared.event_line.EventLine.TheVariants.{Answered, TooLarge}

-- the answers that are told of events are those to the events that aren't lost
abbrev AreAnswers : List Event → State → Type 0
AreAnswers events w = answers_in (lines_to events w) ≡ answers_to (kept_events events w) w

one_answered : (b : Bool) (e : Event) (events : List Event) (w : State) → IsConsistent w → AreAnswers events w → AreAnswers events (after e w)
    → answers_in (cond b TooLarge (Answered (replay.answer_to e (shows w))) ∷ lines_to events (cond b w (after e w))) ≡ answers_to (cond b (kept_events events w) (e ∷ kept_events events (after e w))) w
one_answered true e events w ok lost happens = lost
one_answered false e events w ok lost happens =
    ap (λ a. a ∷ answers_in (lines_to events (after e w))) (sym (event_is_replayed w e ok).0)
    ∙ ap (λ answers. answer_to e w ∷ answers) happens

are_answers : (events : List Event) (w : State) → IsConsistent w → AreAnswers events w
are_answers [] w ok = refl
are_answers (e ∷ events) w ok = one_answered (is_lost e.what w) e events w ok (are_answers events w ok) (are_answers events (after e w) (kept_after e w ok))

-- and so is what is left
abbrev IsLeft : List Event → State → Type 0
IsLeft events w = left_by_all events w ≡ after_all (kept_events events w) w

one_left : (b : Bool) (e : Event) (events : List Event) (w : State) → IsLeft events w → IsLeft events (after e w)
    → left_by_all events (cond b w (after e w)) ≡ after_all (cond b (kept_events events w) (e ∷ kept_events events (after e w))) w
one_left true e events w lost happens = lost
one_left false e events w lost happens = happens

is_left : (events : List Event) (w : State) → IsLeft events w
is_left [] w = refl
is_left (e ∷ events) w = one_left (is_lost e.what w) e events w (is_left events w) (is_left events (after e w))

-- a shop from the beginning on
pub one_ticket : (name : List ℕ) (workers : List (List ℕ)) (ticket : Job) (events : List Event) → IsConsistent (opening name workers ticket) → IsOneTicket name workers ticket events (left_by_all events (opening name workers ticket))
one_ticket name workers ticket events ok =
    let first = opening name workers ticket in
    let done = kept_events events first in
    let told = answers_in (lines_to events first) in
    let closing = left_by_all events first in
    let answers : told ≡ answers_to done first = are_answers events first ok in
    let left : closing ≡ after_all done first = is_left events first in
    let kept : IsConsistent closing = kept_then_all done first closing ok left in
    record {
      said = answers ∙ (events_are_replayed first done ok).0 ∙ ap (replay.answers_to done) (opening_is_shown name workers ticket);
      shown = ap shows left ∙ (events_are_replayed first done ok).1 ∙ ap (replay.after_all done) (opening_is_shown name workers ticket);
      once = run_merges_once done first told ok answers;
      merges = run_told done first closing told ok answers left name workers ticket refl;
      alone = alone closing kept;
      held = by_holders closing kept;
    }
