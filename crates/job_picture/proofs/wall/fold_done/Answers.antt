use Rattle.std.proofs.Common.{◌∙◌, ap, map, rules}
use Rattle.std.proofs.lemmas.Fn.{filter_same}
use Rattle.job_picture.specs.Progress.{is_undone}
use Rattle.job_picture.specs.Rows.{line_of}
use Rattle.job_picture.specs.declared.node_line.NodeLine.{NodeLine}
use Rattle.job_picture.proofs.Folded.{undone_lines}
use Rattle.job_picture.proofs.wall.fold_done.Goals as goal

pub returns : goal.returns
returns c =
    ap (map line_of) (filter_same _ (λ (l : NodeLine). is_undone l.progress) _ (λ x b f' k. search rules) _ _ c.retain.ensures.filtered)
    ∙ undone_lines c.args.lines.now.items
