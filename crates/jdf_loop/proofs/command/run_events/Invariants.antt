use Rattle.std.proofs.Common.{◌≡◌}
use Rattle.jdf_loop.specs.Losses.{left_by_all, lines_to}
use Rattle.jdf_loop.proofs.command.run_events.Given as goal

-- the events so far have happened in turn, and the lines tell of them
abbrev pub invariant-loop-event : goal.invariant-loop-event
invariant-loop-event g l =
    (l.lines.items ≡ lines_to l.yielded l.initial.shop)
    × (l.shop ≡ left_by_all l.yielded l.initial.shop)
