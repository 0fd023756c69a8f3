-- What comes to a controller in a round is as many lines of a day.
use Rattle.std.proofs.Common.{◌≡◌, ◌∙◌, inl, inr, ℕ, zero, suc, Bool, true, List, [], ◌∷◌, ◌++◌, map, Option, Some, None, Result, Ok, Err, IfSome, is_ok, is_some, slice_get, ap, refl, subst, sym}
use Rattle.std.proofs.lemmas.Bool.{true≢false}
use Rattle.std.specs.Option.{option_map}
use Rattle.std.specs.Str.{bytes_eq}
use Rattle.ticket_items.specs.declared.refusal.Refusal.{Refusal}
use Rattle.controller.specs.declared.message.Message.{Message}
use Rattle.json_profile.specs.ReadAs.{IsReadAs}
use Rattle.plain_shop.specs.Settling.{message_at, with_sent}
use Rattle.plain_shop.specs.Step.{StepOrWord}
use Rattle.stored_state.specs.AnyStep.{text_of}
use Rattle.stored_state.specs.Opened.{any_state_read}
use Rattle.stored_state.specs.Step.{TextStep}
use Rattle.stored_state.specs.TakingAll.{IsCausedBy, IsKept, ReplyAndText, TakesEach, TakesOne, given_by_bytes, given_by_result, given_by_step, step_given}
use Rattle.stored_state.specs.declared.any_controller.AnyController.{AnyController}
use Rattle.stored_state.specs.declared.coming.Coming.{Coming}
use Rattle.stored_state.specs.declared.coming.Coming.TheVariants as comings
use Rattle.stored_state.specs.declared.taken_bytes.TakenBytes.{TakenBytes}
use Rattle.streams.specs.declared.command.Output.{Output}
use Rattle.streams.specs.declared.fault.Fault.{Fault}
use Rattle.streams.specs.declared.fault.Fault.TheVariants.{Input}
use Rattle.streams.specs.declared.refused.Refused.TheVariants.{Core}
use Rattle.world.proofs.Shop.AlwaysKept.{kept_after}
use Rattle.world.specs.Controllers.{Controllers, worker_of}
use Rattle.world.specs.Happening.{after, after_all, next_state, step_of}
use Rattle.world.specs.Showing.{shows}
use Rattle.world.specs.State.{IsConsistent, State}
use Rattle.world_items.specs.declared.stop.Stop.TheVariants.{Run}
use Rattle.world_items.specs.declared.what.What.{What}
use Rattle.world_items.specs.declared.what.What.TheVariants.{Deliver}
use Rattle.shop_day.proofs.Commands.{steps_to}
use Rattle.shop_day.proofs.Days.{begun}
use Rattle.shop_day.proofs.Failing.{no_order_by}
use Rattle.shop_day.proofs.Made.{IsMade, message_made, order_made, read_once, who_of}
use Rattle.shop_day.proofs.Numbers.{numbered_some}
use Rattle.shop_day.proofs.Stops.{line_stopped, message_done, order_done}
use Rattle.shop_day.specs.Done.{AreDone, DoLines, DoesLine, Done, StepsTo, events}
use Rattle.shop_day.specs.Files.{controller_of}
use Rattle.shop_day.specs.Lines.{GivesUp, IsFailed, event}
use Rattle.shop_day.specs.Rounds.{AreAskedBy, AreWrittenAs, IsAskedBy, IsWrittenAs, RoundIsLines}
use Rattle.shop_day.specs.declared.line.Call.TheVariants.{Order, Take}
use Rattle.shop_day.specs.declared.line.Line.{Line}
use Rattle.shop_day.specs.declared.outcome.Outcome.{Outcome}
use Rattle.shop_day.specs.declared.outcome.Outcome.TheVariants.{Wrote, GaveUp}

-- ---- what was sent stays

get_front : {X : Type 0} (xs ys : List X) (k : ℕ) (x : X) → slice_get xs k ≡ Some x → slice_get (xs ++ ys) k ≡ Some x
get_front [] ys k x is = absurd (true≢false (ap is_some (sym is)))
get_front (z ∷ xs) ys zero x is = is
get_front (z ∷ xs) ys (suc k) x is = get_front xs ys k x is

at_front : {X : Type 0} (xs ys : List X) (k : ℕ) (x : X) → message_at xs k ≡ Some x → message_at (xs ++ ys) k ≡ Some x
at_front xs ys zero x is = absurd (true≢false (ap is_some (sym is)))
at_front xs ys (suc k) x is = get_front xs ys k x is

sent_front : {X : Type 0} (xs : List X) (sent : Option X) (k : ℕ) (x : X) → message_at xs k ≡ Some x → message_at (with_sent xs sent) k ≡ Some x
sent_front xs None k x is = is
sent_front xs (Some y) k x is = at_front xs (y ∷ []) k x is

abbrev pub Stay : State → State → Type 0
Stay w then = (k : ℕ) (m : Message) → message_at w.messages k ≡ Some m → message_at then.messages k ≡ Some m

stay : (w : State) (step : StepOrWord Controllers Message) → Stay w (next_state Run w step)
stay w (Ok moved) k m is = sent_front w.messages moved.sent k m is
stay w (Err word) k m is = is

still_one : (w then : State) (name : List ℕ) (at : ℕ) (x : Coming) (l : Line) → Stay w then → IsAskedBy w name at x l → IsAskedBy then name at x l
still_one w then name at (comings.Message m) l stays is = (is.0, stays is.0 m is.1, is.2, is.3)
still_one w then name at (comings.Order text) l stays is = is
still_one w then name at (comings.Neither why) l stays is = is

pub still_asked : (w then : State) (name : List ℕ) (at : ℕ) (all : List Coming) (lines : List Line) → Stay w then → AreAskedBy w name at all lines → AreAskedBy then name at all lines
still_asked w then name at [] [] stays is = tt
still_asked w then name at [] (l ∷ lines) stays is = is
still_asked w then name at (x ∷ all) [] stays is = is
still_asked w then name at (x ∷ all) (l ∷ lines) stays is = (still_one w then name at x l stays is.0, still_asked w then name at all lines stays is.1)

-- ---- a line before others

pub first_then : (l : Line) (outcome : Outcome) (lines : List Line) (outcomes : List Outcome) (old mid new : State) → DoesLine l old mid outcome → DoLines lines outcomes mid new → DoLines (l ∷ lines) (outcome ∷ outcomes) old new
first_then l outcome lines outcomes old mid new does rest =
    let d : Done = record { line = l; outcome = outcome; event = does.0 } in
    record {
      day = d ∷ rest.day;
      lines_are = ap (λ ls. l ∷ ls) rest.lines_are;
      outcomes_are = ap (λ os. outcome ∷ os) rest.outcomes_are;
      done = (does.2, subst (AreDone rest.day) does.1 rest.done);
      closing = rest.closing ∙ ap (after_all (events rest.day)) does.1;
    }

-- ---- one thing that comes

-- a line is done, behind which this is the controller of a name
pub record Goes (w : State) (name : List ℕ) (l : Line) (outcome : Outcome) (next : AnyController) : Type 0 where
  pub then : State
  pub does : DoesLine l w then outcome
  pub there : controller_of then.controllers name ≡ Some next
  pub ok : IsConsistent then
  pub stays : Stay w then

made_goes : (w : State) (name : List ℕ) (l : Line) (what : What) (step : TextStep AnyController) (taken : TakenBytes) (out : Output) → IsConsistent w → IsMade w name what l.at step → given_by_bytes taken ≡ step_given step → IsWrittenAs (Ok taken) (Wrote out)
    → ((new : State) (outcome : Outcome) → StepsTo what l.at w new outcome → DoesLine l w new outcome) → Goes w name l (Wrote out) step.next
made_goes w name l what step taken out ok made gives written does =
    let then = after (event what l.at Run) w in
    record {
      then = then;
      does = does then (Wrote out) (steps_to w name what l.at step taken.reply (option_map (λ b. b.items) taken.answer) out made (ap (λ (g : ReplyAndText). g.reply) gives) (ap (λ (g : ReplyAndText). g.sent) gives) written.0 written.1);
      there = ap (λ s. controller_of (next_state Run w s).controllers name) made.made ∙ made.next;
      ok = kept_after (event what l.at Run) w ok;
      stays = stay w (step_of what l.at w);
    }

-- what a line asks for is a step of the controller of a name
abbrev pub AsksStep : State → List ℕ → Line → TextStep AnyController → Type 0
AsksStep w name l step = (what : What) × IsMade w name what l.at step × ((new : State) (outcome : Outcome) → StepsTo what l.at w new outcome → DoesLine l w new outcome)

pub asks_step : (w : State) (name : List ℕ) (at : ℕ) (x : Coming) (l : Line) (c : AnyController) (step : TextStep AnyController) → IsConsistent w → controller_of w.controllers name ≡ Some c → IsAskedBy w name at x l → IsCausedBy at x c step → AsksStep w name l step
asks_step w name at (comings.Message m) l c step ok there asked causes =
    let k = asked.0 in
    let own : controller_of w.controllers m.receiver ≡ Some c = ap (controller_of w.controllers) asked.2 ∙ there in
    let made = subst (λ n. IsMade w n (Deliver k) at step) asked.2 (subst (IsMade w m.receiver (Deliver k) at) (sym causes) (message_made w k at m c asked.1 own)) in
    subst (λ a. AsksStep w name a step) (sym asked.3) (Deliver k, made, λ new outcome came. message_done k at w new outcome (numbered_some w.messages k m asked.1) came)
asks_step w name at (comings.Order text) l c step ok there asked causes =
    let made = order_made w name text.items at c step ok there causes in
    subst (λ a. AsksStep w name a step) (sym asked) (made.0, made.2, λ new outcome came. order_done name text at made.0 w new outcome made.1 came)
asks_step w name at (comings.Neither why) l c step ok there asked causes = absurd asked

step_goes : (w : State) (name : List ℕ) (at : ℕ) (x : Coming) (l : Line) (taken : TakenBytes) (out : Output) (c : AnyController) (step : TextStep AnyController) (next : AnyController) → IsConsistent w → controller_of w.controllers name ≡ Some c → IsAskedBy w name at x l → TakesOne at x c (Ok step) next
    → given_by_bytes taken ≡ step_given step → IsWrittenAs (Ok taken) (Wrote out) → Goes w name l (Wrote out) next
step_goes w name at x l taken out c step next ok there asked takes gives written =
    let asks = asks_step w name at x l c step ok there asked takes.0 in
    subst (λ n. Goes w name l (Wrote out) n) (sym takes.1) (made_goes w name l asks.0 step taken out ok asks.1 gives written asks.2)

pub stopped_goes : (w : State) (name : List ℕ) (l : Line) (fault : Fault) (c next : AnyController) → IsConsistent w → controller_of w.controllers name ≡ Some c → next ≡ c → GivesUp l.call (shows w) fault → Goes w name l (GaveUp fault) next
stopped_goes w name l fault c next ok there same why =
    record {
      then = w;
      does = line_stopped l w fault why;
      there = there ∙ ap Some (sym same);
      ok = ok;
      stays = λ k m is. is;
    }

none_goes : (w : State) (name : List ℕ) (at : ℕ) (x : Coming) (l : Line) (fault : Fault) (c : AnyController) (e : Refusal) (next : AnyController) → IsConsistent w → controller_of w.controllers name ≡ Some c → IsAskedBy w name at x l → TakesOne at x c (Err e) next
    → fault ≡ Input (Core e) → Goes w name l (GaveUp fault) next
none_goes w name at (comings.Message m) l fault c e next ok there asked takes told =
    let k = asked.0 in
    let failed : IsFailed fault = subst IsFailed (sym told) takes.0 in
    subst (λ a. Goes w name a (GaveUp fault) next) (sym asked.3) (stopped_goes w name (record { call = Take k; at = at }) fault c next ok there takes.1 (inl failed))
none_goes w name at (comings.Order text) l fault c e next ok there asked takes told =
    let who = who_of (bytes_eq name w.controllers.master.name) w.controllers.master (worker_of w.controllers.workers name) c there in
    subst (λ a. Goes w name a (GaveUp fault) next) (sym asked) (stopped_goes w name (record { call = Order name text; at = at }) fault c next ok there takes.1 (inr (e, told, no_order_by w name text.items c e takes.0 who)))
none_goes w name at (comings.Neither why) l fault c e next ok there asked takes told = absurd asked

one_goes : (w : State) (name : List ℕ) (at : ℕ) (x : Coming) (l : Line) (given : Result TakenBytes Refusal) (outcome : Outcome) (c : AnyController) (step : Result (TextStep AnyController) Refusal) (next : AnyController) → IsConsistent w → controller_of w.controllers name ≡ Some c → IsAskedBy w name at x l → TakesOne at x c step next
    → given_by_result given ≡ given_by_step step → IsWrittenAs given outcome → Goes w name l outcome next
one_goes w name at x l (Ok taken) (GaveUp fault) c step next ok there asked takes gives written = absurd written
one_goes w name at x l (Err e) (Wrote out) c step next ok there asked takes gives written = absurd written
one_goes w name at x l (Ok taken) (Wrote out) c (Ok step) next ok there asked takes gives written =
    let same : given_by_bytes taken ≡ step_given step = let both : Ok (given_by_bytes taken) ≡ Ok (step_given step) = gives in cc in
    step_goes w name at x l taken out c step next ok there asked takes same written
one_goes w name at x l (Ok taken) (Wrote out) c (Err e) next ok there asked takes gives written = absurd (true≢false (ap is_ok gives))
one_goes w name at x l (Err e) (GaveUp fault) c (Ok step) next ok there asked takes gives written = absurd (true≢false (sym (ap is_ok gives)))
one_goes w name at x l (Err e) (GaveUp fault) c (Err f) next ok there asked takes gives written =
    let same : e ≡ f = let both : Err e ≡ Err f = gives in cc in
    none_goes w name at x l fault c f next ok there asked takes (written ∙ ap (λ r. Input (Core r)) same)

-- ---- all that comes

pub record AllGo (w : State) (name : List ℕ) (lines : List Line) (outcomes : List Outcome) (last : AnyController) : Type 0 where
  pub then : State
  pub go : DoLines lines outcomes w then
  pub there : controller_of then.controllers name ≡ Some last

all_go : (w : State) (name : List ℕ) (at : ℕ) (all : List Coming) (lines : List Line) (steps : List (Result (TextStep AnyController) Refusal)) (given : List (Result TakenBytes Refusal)) (outcomes : List Outcome) (c last : AnyController) → IsConsistent w → controller_of w.controllers name ≡ Some c
    → AreAskedBy w name at all lines → TakesEach at all c steps last → map given_by_result given ≡ map given_by_step steps → AreWrittenAs given outcomes → AllGo w name lines outcomes last
all_go w name at [] (l ∷ lines) steps given outcomes c last ok there asked takes gives written = absurd asked
all_go w name at (x ∷ all) [] steps given outcomes c last ok there asked takes gives written = absurd asked
all_go w name at [] [] (s ∷ steps) given outcomes c last ok there asked takes gives written = absurd takes
all_go w name at (x ∷ all) (l ∷ lines) [] given outcomes c last ok there asked takes gives written = absurd takes
all_go w name at [] [] [] (g ∷ given) outcomes c last ok there asked takes gives written = absurd (let e : given_by_result g ∷ map given_by_result given ≡ [] = gives in cc)
all_go w name at (x ∷ all) (l ∷ lines) (s ∷ steps) [] outcomes c last ok there asked takes gives written = absurd (let e : [] ≡ given_by_step s ∷ map given_by_step steps = gives in cc)
all_go w name at [] [] [] [] (o ∷ outcomes) c last ok there asked takes gives written = absurd written
all_go w name at (x ∷ all) (l ∷ lines) (s ∷ steps) (g ∷ given) [] c last ok there asked takes gives written = absurd written
all_go w name at [] [] [] [] [] c last ok there asked takes gives written = record { then = w; go = begun w [] refl; there = there ∙ ap Some (sym takes) }
all_go w name at (x ∷ all) (l ∷ lines) (s ∷ steps) (g ∷ given) (o ∷ outcomes) c last ok there asked takes gives written =
    let both : given_by_result g ∷ map given_by_result given ≡ given_by_step s ∷ map given_by_step steps = gives in
    let head : given_by_result g ≡ given_by_step s = cc in
    let tail : map given_by_result given ≡ map given_by_step steps = cc in
    let one = one_goes w name at x l g o c s takes.0 ok there asked.0 takes.1 head written.0 in
    let rest = all_go one.then name at all lines steps given outcomes takes.0 last one.ok one.there (still_asked w one.then name at all lines one.stays asked.1) takes.2 tail written.1 in
    record { then = rest.then; go = first_then l o lines outcomes w one.then rest.then one.does rest.go; there = rest.there }

-- ---- the law

kept_read : {K : Type 0} (is_honest : K → Bool) (held : K → List ℕ) (given : List (Result TakenBytes Refusal)) (saved : Option AnyController) (before last : AnyController) (old new : K) → is_honest old ≡ true → IsReadAs any_state_read (held old) (Ok before) → IfSome saved (λ c. IsReadAs any_state_read (text_of c) (Ok c))
    → IsKept is_honest held given before last old new saved → IsReadAs any_state_read (held new) (Ok last)
kept_read is_honest held given (Some c) before last old new honest was again kept =
    subst (λ t. IsReadAs any_state_read t (Ok last)) (sym (kept.1 honest)) (subst (λ x. IsReadAs any_state_read (text_of x) (Ok x)) kept.0 again)
kept_read is_honest held given None before last old new honest was again kept =
    subst (λ t. IsReadAs any_state_read t (Ok last)) (sym (kept.2 honest)) (subst (λ x. IsReadAs any_state_read (held old) (Ok x)) (sym kept.1) was)

pub round_is_lines : {K : Type 0} (is_honest : K → Bool) (held : K → List ℕ) → RoundIsLines is_honest held
round_is_lines is_honest held w name to at all given saved old new lines outcomes ok file still takes again asked written =
    let same : takes.before ≡ file.controller = read_once any_state_read (held old) takes.before file.controller (takes.was file.honest) file.read in
    let went = all_go w name at all lines takes.taken.steps given outcomes takes.before takes.last ok (file.there ∙ ap Some (sym same)) asked takes.taken.each takes.taken.gives written in (
      went.then,
      went.go,
      record {
        controller = takes.last;
        there = went.there;
        honest = still;
        read = kept_read is_honest held given saved takes.before takes.last old new file.honest (takes.was file.honest) again takes.kept;
      },
    )
