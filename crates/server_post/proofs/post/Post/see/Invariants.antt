use Rattle.std.proofs.Common.{◌≡◌, ◌<◌, ℕ, true, All, length}
use Rattle.deliveries.specs.Outbox.{is_among}
use Rattle.server_post.specs.Looks.{is_sent}
use Rattle.server_post.proofs.post.Post.see.Given as goal

-- each of those so far is out, for a destination that is there
abbrev pub invariant-loop-spawn : goal.invariant-loop-spawn
invariant-loop-spawn l =
    record {
      there : All (λ o. o.1 < length l.self.deliveries.destinations) l.out.items;
      boxes : l.self.deliveries.outboxes ≡ l.fn.self.deliveries.outboxes;
      its : (spawn : ℕ) → is_among spawn l.out.items ≡ true → is_sent spawn l.yielded ≡ true;
    }
