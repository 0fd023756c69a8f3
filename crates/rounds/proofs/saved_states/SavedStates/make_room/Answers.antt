use Rattle.std.proofs.Common.{◌∙◌, ◌-◌, List, ap, length, subst}
use Rattle.std.specs.Prelude.{String}
use Rattle.std.specs.declared.alloc.Global.{Global}
use Rattle.stored_state.specs.declared.any_controller.AnyController.{AnyController}
use Rattle.rounds.specs.Kept.{IsFront}
use Rattle.rounds.proofs.Keeping.{front_less}
use Rattle.rounds.proofs.saved_states.SavedStates.make_room.Goals as goal
use Rattle.rounds.proofs.saved_states.SavedStates.make_room.Goals.{in-Some, in_default}

pub loop-preserved : goal.loop-preserved
loop-preserved c =
    let before = c.loop.self-inside.of_path.entries in
    elim c.match-pop_lru.branch [
      | in-Some w ↦ let less = front_less c.match-pop_lru.self-inside.of_path.entries before c.self.inside.of_path.entries (length before - 1) c.loop.invariant.front c.loop.invariant.unique (ap (λ s. s.of_path.entries) w.self-inside-is ∙ ap (λ s. s.entries) c.pop_lru.ensures.entries) in
          record { front = less.0; unique = less.1 }
      | in_default w ↦ let less = front_less c.match-pop_lru.self-inside.of_path.entries before c.self.inside.of_path.entries (length before - 1) c.loop.invariant.front c.loop.invariant.unique (ap (λ s. s.of_path.entries) w.self-inside-is ∙ ap (λ s. s.entries) c.pop_lru.ensures.entries) in
          record { front = less.0; unique = less.1 }
    ]

pub returns : goal.returns
returns c =
    subst (λ (old : List (String Global × AnyController)). IsFront c.loop.self-inside.of_path.entries old) c.self.view_is c.loop.invariant.front

pub returns-then-self : goal.returns-then-self
returns-then-self c =
    subst (λ (old : List (String Global × AnyController)). IsFront c.loop.self-inside.of_path.entries old) c.self.view_is c.loop.invariant.front
