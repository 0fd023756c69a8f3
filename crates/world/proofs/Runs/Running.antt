-- Steps that agree give runs that agree: at each stop, and in turn.
use Rattle.std.proofs.Common.{◌≡◌, ◌∙◌, suc, List, [], ◌∷◌, map, Option, Some, None, Ok, Err, refl, sym, ap}
use Rattle.std.proofs.lemmas.List.{length-map, map-append}
use Rattle.std.specs.Option.{option_map}
use Rattle.world.specs.Running.{Agrees, IsShownBy, Machine, RunsAgree, StepsAgree, after, after_all, answer_to, answers_to, next_answer, next_state}
use Rattle.plain_shop.specs.Settling.{answer_left, answer_without_step, messages_left, number_of, state_left, with_sent}
use Rattle.controller.specs.Step.{Step}
use Rattle.world_items.specs.Word.{word_of}
use Rattle.plain_shop.specs.Step.{StepOrWord}
use Rattle.world_items.specs.declared.event.Event.{Event}
use Rattle.world_items.specs.declared.stop.Stop.{Stop}
use Rattle.world_items.specs.declared.stop.Stop.TheVariants.{Run, BeforeSave, BeforeSend}

-- ---- the parts of a step that is settled

number_shown : {M N : Type 0} (tag_of : M → N) (messages : List M) (sent : Option M) → number_of messages sent ≡ number_of (map tag_of messages) (option_map tag_of sent)
number_shown tag_of messages None = refl
number_shown tag_of messages (Some m) = ap (λ n. Some (suc n)) (sym (length-map messages tag_of))

sent_shown : {M N : Type 0} (tag_of : M → N) (messages : List M) (sent : Option M) → map tag_of (with_sent messages sent) ≡ with_sent (map tag_of messages) (option_map tag_of sent)
sent_shown tag_of messages None = refl
sent_shown tag_of messages (Some m) = map-append tag_of messages (m ∷ [])

module _ {S M T N : Type 0} (state_of : S → T) (tag_of : M → N) (moved : Step S M) (plain : Step T N) (h : Agrees state_of tag_of moved plain) where
  same_answer : (stop : Stop) (messages : List M) → answer_left stop messages (word_of moved.reply) moved.sent ≡ answer_left stop (map tag_of messages) (word_of plain.reply) plain.sent
  same_answer Run messages =
      ap (λ n. record { word = word_of moved.reply; number = n }) (number_shown tag_of messages moved.sent) ∙ (λ i. record { word = word_of (h.reply i); number = number_of (map tag_of messages) (h.sent i) })
  same_answer BeforeSave messages = refl
  same_answer BeforeSend messages = ap (λ r. answer_without_step (word_of r)) h.reply

  same_state : (stop : Stop) (s : S) → state_of (state_left stop s moved.next) ≡ state_left stop (state_of s) plain.next
  same_state Run s = h.next
  same_state BeforeSave s = refl
  same_state BeforeSend s = h.next

  same_messages : (stop : Stop) (messages : List M) → map tag_of (messages_left stop messages moved.sent) ≡ messages_left stop (map tag_of messages) plain.sent
  same_messages Run messages = sent_shown tag_of messages moved.sent ∙ ap (with_sent (map tag_of messages)) h.sent
  same_messages BeforeSave messages = refl
  same_messages BeforeSend messages = refl

-- ---- two machines

module _ {W S M V T N : Type 0} (a : Machine W S M) (b : Machine V T N) (IsKept : W → Type 0) (state_of : S → T) (tag_of : M → N) (shows : W → V) (is : IsShownBy a b IsKept state_of tag_of shows) where
  -- what is answered at a stop, and what is shown then
  settled_same : (stop : Stop) (w : W) (step : StepOrWord S M) (plain : StepOrWord T N) → StepsAgree state_of tag_of step plain
      → (next_answer a stop w step ≡ next_answer b stop (shows w) plain) × (shows (next_state a stop w step) ≡ next_state b stop (shows w) plain)
  settled_same stop w (Ok moved) (Ok plain) h = (
    same_answer state_of tag_of moved plain h stop (a.sent w) ∙ ap (λ messages. answer_left stop messages (word_of plain.reply) plain.sent) (sym (is.sent w)),
    is.made (state_left stop (a.inner w) moved.next) (messages_left stop (a.sent w) moved.sent)
        ∙ (λ i. b.made (same_state state_of tag_of moved plain h stop (a.inner w) i) (same_messages state_of tag_of moved plain h stop (a.sent w) i))
        ∙ (λ i. b.made (state_left stop (sym (is.inner w) i) plain.next) (messages_left stop (sym (is.sent w) i) plain.sent)),
  )
  settled_same stop w (Ok moved) (Err word) h = absurd h
  settled_same stop w (Err word) (Ok plain) h = absurd h
  settled_same stop w (Err word) (Err same) h = (ap answer_without_step h, refl)

  -- one event
  pub event_agrees : (w : W) (e : Event) → IsKept w → (answer_to a e w ≡ answer_to b e (shows w)) × (shows (after a e w) ≡ after b e (shows w))
  event_agrees w e ok = settled_same e.stop w (a.step_of e.what e.at w) (b.step_of e.what e.at (shows w)) (is.steps w e.what e.at ok)

  -- events in turn
  pub runs_agree : RunsAgree a b IsKept shows
  runs_agree w [] ok = (refl, refl)
  runs_agree w (e ∷ events) ok =
      let first = event_agrees w e ok in
      let rest = runs_agree (after a e w) events (is.kept w e ok) in (
        ap (λ x. x ∷ answers_to a events (after a e w)) first.0 ∙ ap (λ xs. answer_to b e (shows w) ∷ xs) (rest.0 ∙ ap (answers_to b events) first.1),
        rest.1 ∙ ap (after_all b events) first.1,
      )
