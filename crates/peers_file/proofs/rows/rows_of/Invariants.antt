use Rattle.std.proofs.Common.{◌≡◌, drop}
use Rattle.json_source.specs.Read.{lent_pairs}
use Rattle.peers_file.proofs.RowsRead.{rows_from}
use Rattle.peers_file.specs.Table.{rows_in}
use Rattle.peers_file.proofs.rows.rows_of.Given as goal

-- the rows so far and those of what is left are those of all pairs
abbrev pub invariant-loop-pattern : goal.invariant-loop-pattern
invariant-loop-pattern l = rows_from l.rows.items (lent_pairs (drop l.pattern-index l.pairs)) ≡ rows_in (lent_pairs l.pairs)
