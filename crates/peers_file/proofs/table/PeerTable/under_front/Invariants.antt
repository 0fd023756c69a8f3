use Rattle.peers_file.proofs.Found.{NoneAbove}
use Rattle.peers_file.proofs.table.PeerTable.under_front.Given as goal

-- no longer front has a URL
abbrev pub invariant-loop-shorter : goal.invariant-loop-shorter
invariant-loop-shorter l = NoneAbove l.name l.self l.shorter
