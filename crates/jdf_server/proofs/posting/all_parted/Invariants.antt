use Rattle.std.proofs.Common.{◌≡◌, map}
use Rattle.jdf_server.specs.Posting.{coming_in, mark_of}
use Rattle.jdf_server.proofs.posting.all_parted.Given as goal

-- those so far
abbrev pub invariant-loop-one : goal.invariant-loop-one
invariant-loop-one l =
    record {
      marks : l.marks.items ≡ map mark_of l.yielded;
      comings : l.comings.items ≡ map (λ one. coming_in one.task) l.yielded;
    }
