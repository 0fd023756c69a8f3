use Rattle.std.proofs.Common.{◌≡◌, ℕ, ◌+◌, ◌-◌, length}
use Rattle.deliveries.specs.Ledger.{outbox_at}
use Rattle.deliveries.proofs.outboxes.Outboxes.reach.Given as goal

abbrev pub invariant-loop-alloc : goal.invariant-loop-alloc
invariant-loop-alloc l =
    (k : ℕ) → outbox_at l.self-inside.boxes.items k ≡ outbox_at l.initial.self-inside.boxes.items k

abbrev pub decreases-loop-alloc : goal.decreases-loop-alloc
decreases-loop-alloc l = l.controller + 1 - length l.self-inside.boxes.items
