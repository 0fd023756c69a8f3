use Rattle.std.proofs.Common.{arith}
use Rattle.std.proofs.lemmas.List.Sums.{prefix_len-le-length}
use Rattle.json_items.specs.Shown.{shows_change, shows_nothing}
use Rattle.json_reader.proofs.part_groups.group_sizes.Goals as goal

pub split_at-requires : goal.split_at-requires
split_at-requires c = omega (arith, prefix_len-le-length shows_nothing c.args.pool.now)

pub split_at-requires-2 : goal.split_at-requires-2
split_at-requires-2 c = omega (arith, prefix_len-le-length (shows_change c.args.spawn.now) c.split_at.result.1.now)
