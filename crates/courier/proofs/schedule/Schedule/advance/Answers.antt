use Rattle.std.proofs.Common.{◌≡◌, not, arith, rules, subst}
use Rattle.std.proofs.lemmas.Fn.{filter_same}
use Rattle.std.proofs.lemmas.List.Sorted.{length_permutation}
use Rattle.std.specs.List.Sorted.{IsPermutation}
use Rattle.courier.proofs.Turning.{IsMoved-pushed, length-others, ok_fact, others_than, turns_of}
use Rattle.courier.specs.Turns.{is_turn, times}
use Rattle.courier.proofs.schedule.Schedule.advance.Goals as goal

-- the other turns stay, and there is room for this one, where it was
pub returns : goal.returns
returns c =
    let turn = c.args.turn in
    let heap = c.self.inside.heap.data.items in
    let left = c.retain.new.self.data.items in
    let kept = c.retain.ensures.filtered in
    let others : kept.0 ≡ others_than turn heap = filter_same _ (λ t. not (is_turn turn t.0)) _ (λ x b f' k. search rules) _ _ kept.1 in
    let same = subst (λ l. IsPermutation l left) others kept.2 in
    let once : times turn (turns_of heap) ≡ 1 = rw (← c.self.view_is) at c.requires in
    let push = c.push-moved.ensures in
    let was = c.self.inside.heap.data.ok in
    let ok = c.retain.new.self.data.ok in
    let pushed = ok_fact _ (push.succeeds (omega (arith, once, length-others turn heap, length_permutation _ _ same, c.retain.ensures.capacity))) push.permutation in
    rw (← c.self.view_is) (IsMoved-pushed turn c.args.due heap left c.push-moved.new.self.data.items _ _ once same pushed (omega (arith, c.retain.ensures.capacity, push.capacity)))
