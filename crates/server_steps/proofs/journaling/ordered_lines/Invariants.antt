use Rattle.std.proofs.Common.{◌≡◌}
use Rattle.std.specs.List.{flat_map}
use Rattle.stored_state.specs.Addressee.{name_of}
use Rattle.server_steps.specs.OrderLines.{kept_name, order_line, reply_in}
use Rattle.server_steps.proofs.journaling.ordered_lines.Given as goal

abbrev pub invariant-loop-word : goal.invariant-loop-word
invariant-loop-word g l =
    l.lines.items ≡ flat_map (λ p. order_line (name_of l.controller) l.at (kept_name p.0.now) (reply_in p.1.now)) l.yielded
