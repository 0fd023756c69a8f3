use Rattle.std.proofs.Common.{◌≡◌, ◌++◌, drop, string_bytes}
use Rattle.std.specs.List.{enumerate_from, flat_map}
use Rattle.shop_page.specs.Metrics.{line_at, status_lines}
use Rattle.shop_page.proofs.metrics.status_lines.Given as goal

abbrev pub invariant-loop-place : goal.invariant-loop-place
invariant-loop-place l =
    string_bytes l.lines ++ flat_map (line_at l.counts) (enumerate_from l.place (drop l.place l.statuses)) ≡ status_lines l.statuses l.counts
