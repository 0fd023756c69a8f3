use Rattle.std.proofs.Common.{◌≡◌, length}
use Rattle.server_post.proofs.Landing.{NoneFliesBelow}
use Rattle.server_post.proofs.post.Post.fail_all.Given as goal

-- nothing is in flight to those so far
abbrev pub invariant-loop-line : goal.invariant-loop-line
invariant-loop-line l =
    record {
      idle : NoneFliesBelow l.line l.self.deliveries.destinations;
      many : length l.self.deliveries.destinations ≡ length l.fn.self.deliveries.destinations;
      rest : l.self ≡ record l.fn.self { deliveries = l.self.deliveries };
    }
