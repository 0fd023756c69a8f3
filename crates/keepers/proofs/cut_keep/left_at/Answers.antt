use Rattle.std.proofs.Common.{rules}
use Rattle.keepers.proofs.CutSaves.{left_among}
use Rattle.keepers.proofs.cut_keep.left_at.Goals as goal

pub returns-then-place-len : goal.returns-then-place-len
returns-then-place-len c =
    left_among c.args.all.items c.args.place c.swap_remove.result (search rules) c.swap_remove.ensures.value
