-- The lines of what isn't done.
use Rattle.std.proofs.Common.{◌≡◌, Bool, true, false, cond, List, [], ◌∷◌, ap, filter, map, refl}
use Rattle.job_picture.specs.Progress.{is_undone}
use Rattle.job_picture.specs.Rows.{Line, line_of}
use Rattle.job_picture.specs.Wall.{is_line_undone}
use Rattle.job_picture.specs.declared.node_line.NodeLine.{NodeLine}

-- they may be looked for before they are seen
pub undone_lines : (ls : List NodeLine) → map line_of (filter (λ (l : NodeLine). is_undone l.progress) ls) ≡ filter is_line_undone (map line_of ls)
undone_lines [] = refl
undone_lines (l ∷ ls) = pick (is_undone l.progress) (undone_lines ls)
  where
    pick : (undone : Bool) → map line_of (filter (λ (l : NodeLine). is_undone l.progress) ls) ≡ filter is_line_undone (map line_of ls)
        → map line_of (cond undone (l ∷ filter (λ (l : NodeLine). is_undone l.progress) ls) (filter (λ (l : NodeLine). is_undone l.progress) ls))
        ≡ cond undone (line_of l ∷ filter is_line_undone (map line_of ls)) (filter is_line_undone (map line_of ls))
    pick true same = ap (λ (rest : List Line). line_of l ∷ rest) same
    pick false same = same
