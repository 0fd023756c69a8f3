-- A run so far, of any machine: the answers to the events that were, and what is there after them.
use Rattle.std.proofs.Common.{◌≡◌, ◌+◌, ◌<◌, ◌≤◌, ℕ, List, [], ◌∷◌, ◌++◌, length, slice_get, subst, take, refl, sym, ap, ◌∙◌, arith, Option, Some, None}
use Rattle.std.proofs.lemmas.Iterator.Consumers.{YieldsList-end, YieldsList-so_far, YieldsList-turn}
use Rattle.std.proofs.lemmas.List.{map-id, length-append}
use Rattle.std.proofs.lemmas.Iterator.{YieldsList}
use Rattle.std.proofs.lemmas.Option.{slice_get-get_or}
use Rattle.std.specs.Iterator.{Yields}
use Rattle.world.specs.Running.{IsCutOff, IsStopped, Machine, after, after_all, answer_to, answers_to}
use Rattle.world_items.specs.declared.answer.Answer.{Answer}
use Rattle.world_items.specs.declared.event.Event.{Event}

-- ---- which event is next

-- the next event
pub record IsNext (all done : List Event) (e : Event) : Type 0 where
  pub so_far : done ≡ take (length done) all
  pub within : length done < length all
  pub there : slice_get all (length done) ≡ Some e

pub next_of : {S : Type 0} {steps : S → Option Event → S → Type 0} {s : S} {all : List Event} (y : YieldsList steps (λ z. z) s all) (done : List Event) (t : S) (given : Yields steps s done t) (r : Option Event) (u : S) (e : Event)
    → r ≡ Some e → steps t r u → IsNext all done e
next_of {all = all} y done t given r u e is step =
    let turn = YieldsList-turn y done t given r u e is step in
    record { so_far = sym (map-id done) ∙ YieldsList-so_far y done t given; within = turn.0; there = slice_get-get_or all (length done) e turn.0 ∙ ap Some (sym turn.1) }

-- no event is next
pub all_of : {S : Type 0} {steps : S → Option Event → S → Type 0} {s : S} {all : List Event} (y : YieldsList steps (λ z. z) s all) (done : List Event) (t : S) (given : Yields steps s done t) (r : Option Event) (u : S) → r ≡ None → steps t r u → done ≡ all
all_of y done t given r u is step = sym (map-id done) ∙ (YieldsList-end y done t given r u is step).0

-- ---- one event more

module _ {W S M : Type 0} (m : Machine W S M) where
  pub after_all-push : (events : List Event) (e : Event) (w : W) → after_all m (events ++ e ∷ []) w ≡ after m e (after_all m events w)
  after_all-push [] e w = refl
  after_all-push (f ∷ events) e w = after_all-push events e (after m f w)

  pub answers_to-push : (events : List Event) (e : Event) (w : W) → answers_to m (events ++ e ∷ []) w ≡ answers_to m events w ++ answer_to m e (after_all m events w) ∷ []
  answers_to-push [] e w = refl
  answers_to-push (f ∷ events) e w = ap (λ xs. answer_to m f w ∷ xs) (answers_to-push events e (after m f w))

  -- ---- what is kept

  -- the answers to these events, in room for all, and what is there after them
  pub record IsSoFar (all done : List Event) (w : W) (answers : List Answer) (len cap : ℕ) (now : W) : Type 0 where
    pub answers_are : answers ≡ answers_to m done w
    pub state_is : now ≡ after_all m done w
    pub filled : len ≡ length done
    pub room : length all ≤ cap

  -- a shorter list of the events, after which it stands
  abbrev pub StandsBefore : List Event → W → W → Type 0
  StandsBefore all w now = (k : ℕ) × (k < length all) × (now ≡ after_all m (take k all) w)

  pub stands_before : (all done : List Event) (e : Event) (w : W) (answers : List Answer) (len cap : ℕ) (now same : W) → IsSoFar all done w answers len cap now → IsNext all done e → same ≡ now → StandsBefore all w same
  stands_before all done e w answers len cap now same so next is = (length done, next.within, is ∙ so.state_is ∙ ap (λ es. after_all m es w) next.so_far)

  -- it isn't known how far the next event came
  pub cut_off : (all done : List Event) (e : Event) (w : W) (answers : List Answer) (len cap : ℕ) (now new : W) → IsSoFar all done w answers len cap now → IsNext all done e → IsStopped m e now new → IsCutOff m all w new
  cut_off all done e w answers len cap now new so next stopped =
      record { place = length done; event = e; there = next.there; stopped = subst (λ v. IsStopped m e v new) (so.state_is ∙ ap (λ es. after_all m es w) next.so_far) stopped }

  pub has_room : (all done : List Event) (e : Event) (w : W) (answers : List Answer) (len cap : ℕ) (now : W) → IsSoFar all done w answers len cap now → IsNext all done e → len + 1 ≤ cap
  has_room all done e w answers len cap now so next = omega (arith, so.filled, so.room, next.within)

  pub one_more : (all done : List Event) (e : Event) (w : W) (answers : List Answer) (len cap : ℕ) (now : W) (more : List Answer) (len' cap' : ℕ) (next : W) (a : Answer) → IsSoFar all done w answers len cap now
      → a ≡ answer_to m e now → next ≡ after m e now → more ≡ answers ++ a ∷ [] → len' ≡ len + 1 → cap ≤ cap' → IsSoFar all (done ++ e ∷ []) w more len' cap' next
  one_more all done e w answers len cap now more len' cap' next a so told moved pushed longer larger =
      record {
        answers_are = pushed ∙ ap (λ xs. xs ++ a ∷ []) so.answers_are ∙ ap (λ b. answers_to m done w ++ b ∷ []) (told ∙ ap (answer_to m e) so.state_is) ∙ sym (answers_to-push done e w);
        state_is = moved ∙ ap (after m e) so.state_is ∙ sym (after_all-push done e w);
        filled = longer ∙ ap (λ n. n + 1) so.filled ∙ sym (length-append done (e ∷ []));
        room = omega (arith, so.room, larger);
      }
