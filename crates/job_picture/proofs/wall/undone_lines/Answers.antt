use Rattle.std.proofs.Common.{◌∙◌, ap, map, sym, take}
use Rattle.std.proofs.lemmas.List.{take-map}
use Rattle.job_picture.specs.Rows.{line_of}
use Rattle.job_picture.proofs.wall.undone_lines.Goals as goal

pub returns : goal.returns
returns c =
    ap (map line_of) c.truncate.ensures.items ∙ sym (take-map line_of c.args.room c.fold_done.new.lines.items)
    ∙ ap (take c.args.room) c.fold_done.ensures
