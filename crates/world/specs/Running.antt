-- When what one machine shows of itself runs as another.
use Rattle.std.specs.Prelude.{◌≡◌, ℕ, List, map, Ok, Err}
use Rattle.std.specs.Option.{option_map}
pub use Rattle.plain_shop.specs.Running.{IsCutOff, IsStopped, Machine, after, after_all, answer_to}
pub use Rattle.plain_shop.specs.Running.{answers_to, next_answer, next_state, stopping}
use Rattle.plain_shop.specs.Step.{Step, StepOrWord}
use Rattle.world_items.specs.declared.event.Event.{Event}
use Rattle.world_items.specs.declared.what.What.{What}

-- two steps agree: they reply the same, send the same, and lead to the same, as it is shown
pub record Agrees {S M T N : Type 0} (state_of : S → T) (tag_of : M → N) (moved : Step S M)
    (plain : Step T N) : Type 0 where
  pub reply : moved.reply ≡ plain.reply
  pub sent : option_map tag_of moved.sent ≡ plain.sent
  pub next : state_of moved.next ≡ plain.next

-- two steps agree, or neither is made and the word is the same
abbrev pub StepsAgree : {S M T N : Type 0} → (S → T) → (M → N) → StepOrWord S M → StepOrWord T N
    → Type 0
StepsAgree state_of tag_of (Ok moved) (Ok plain) = Agrees state_of tag_of moved plain
StepsAgree state_of tag_of (Ok moved) (Err word) = ⊥
StepsAgree state_of tag_of (Err word) (Ok plain) = ⊥
StepsAgree state_of tag_of (Err word) (Err same) = word ≡ same

-- what is kept of one machine is shown by another: by its parts; an event keeps it; and the steps
-- of what happens agree
pub record IsShownBy {W S M V T N : Type 0} (a : Machine W S M) (b : Machine V T N)
    (IsKept : W → Type 0) (state_of : S → T) (tag_of : M → N) (shows : W → V) : Type 0 where
  pub inner : (w : W) → b.inner (shows w) ≡ state_of (a.inner w)
  pub sent : (w : W) → b.sent (shows w) ≡ map tag_of (a.sent w)
  pub made : (s : S) (sent : List M) → shows (a.made s sent) ≡ b.made (state_of s) (map tag_of sent)
  pub kept : (w : W) (e : Event) → IsKept w → IsKept (after a e w)
  pub steps :
      (w : W) (what : What) (at : ℕ) → IsKept w
      → StepsAgree state_of tag_of (a.step_of what at w) (b.step_of what at (shows w))

-- what is kept of one machine answers to events in turn, and shows after them, as another does that
-- begins with what is shown
abbrev pub RunsAgree : {W S M V T N : Type 0} → Machine W S M → Machine V T N → (W → Type 0)
    → (W → V) → Type 0
RunsAgree {W = W} a b IsKept shows =
    (w : W) (events : List Event) → IsKept w
    → (answers_to a events w ≡ answers_to b events (shows w))
    × (shows (after_all a events w) ≡ after_all b events (shows w))
