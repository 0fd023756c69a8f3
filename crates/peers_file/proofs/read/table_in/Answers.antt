use Rattle.std.proofs.Common.{◌∙◌, ℕ, List, ap, subst, sym}
use Rattle.std.specs.Cmp.Lexicographic.{slice_cmp}
use Rattle.std.specs.List.Sorted.{IsStrictlySortedBy}
use Rattle.std.specs.Ordering.{nat_cmp}
use Rattle.json_source.specs.Read.{lent_pairs}
use Rattle.peers_file.proofs.RowsRead.{keys_same}
use Rattle.peers_file.specs.Table.{rows_in}
use Rattle.peers_file.proofs.read.table_in.Goals as goal

-- the rows are in the order of the pairs
pub of-requires : goal.of-requires
of-requires g c =
    let pairs = lent_pairs c.in_ok-pairs.pairs.items in
    let same = keys_same pairs c.in_ok-rows.rows.items (ap (λ ps. rows_in (lent_pairs ps)) (sym c.as_slice.ensures.value) ∙ c.in_ok-rows.ensures) in
    subst (λ (keys : List (List ℕ)). IsStrictlySortedBy (slice_cmp nat_cmp) keys) (sym same) c.in_ok-pairs.ensures.order
