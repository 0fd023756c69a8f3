use Rattle.std.proofs.Common.{rules, ◌++◌}
use Rattle.std.proofs.lemmas.Fn.{always_returns_same}
use Rattle.std.specs.Cmp.Lexicographic.{slice_cmp}
use Rattle.std.specs.Ordering.{nat_cmp}
use Rattle.peers_file.proofs.Places.{searched}
use Rattle.peers_file.proofs.table.PeerTable.search.Goals as goal

-- the closure compares the pattern of a row, and the slice has the rows
pub returns : goal.returns
returns c =
    let ends = c.binary_search_by.ensures.position (λ r. slice_cmp nat_cmp r.0 (c.args.front.now ++ c.args.end.now))
    (always_returns_same _ _ _ (λ a r f called. search rules)) in
    rw (← c.self.view_is, ← c.deref.ensures.value)
    (searched (c.args.front.now ++ c.args.end.now) _ (rw c.deref.ensures.value c.self.invariant) _ c.binary_search_by.ensures.bound ends)
