-- Events that happened in turn, and one more.
use Rattle.std.proofs.Common.{◌≡◌, ◌∙◌, ◌++◌, ◌∷◌, [], List, ap, refl, sym}
use Rattle.world.specs.State.{State}
use Rattle.world_items.specs.declared.event.Event.{Event}
use Rattle.jdf_loop.specs.Losses.{left_by, left_by_all, line_to, lines_to}
use Rattle.jdf_loop.specs.declared.event_line.EventLine.{EventLine}

lines_to-push : (events : List Event) (e : Event) (w : State) → lines_to (events ++ e ∷ []) w ≡ lines_to events w ++ line_to e (left_by_all events w) ∷ []
lines_to-push [] e w = refl
lines_to-push (d ∷ events) e w = ap (λ lines. line_to d w ∷ lines) (lines_to-push events e (left_by d w))

left_by_all-push : (events : List Event) (e : Event) (w : State) → left_by_all (events ++ e ∷ []) w ≡ left_by e (left_by_all events w)
left_by_all-push [] e w = refl
left_by_all-push (d ∷ events) e w = left_by_all-push events e (left_by d w)

-- what is told of events and what they leave, and then of one more
pub one_more : (done : List Event) (e : Event) (first old new : State) (told more : List EventLine) (line : EventLine) → told ≡ lines_to done first → old ≡ left_by_all done first → line ≡ line_to e old → new ≡ left_by e old → more ≡ told ++ line ∷ []
    → (more ≡ lines_to (done ++ e ∷ []) first) × (new ≡ left_by_all (done ++ e ∷ []) first)
one_more done e first old new told more line were left is leaves added = (
  added ∙ ap (λ lines. lines ++ line ∷ []) were ∙ ap (λ l. lines_to done first ++ l ∷ []) (is ∙ ap (line_to e) left) ∙ sym (lines_to-push done e first),
  leaves ∙ ap (left_by e) left ∙ sym (left_by_all-push done e first),
)
