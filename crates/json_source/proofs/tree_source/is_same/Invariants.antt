use Rattle.std.proofs.Common.{◌≡◌, drop, length}
use Rattle.std.specs.Str.{bytes_eq}
use Rattle.json_source.proofs.tree_source.is_same.Given as goal

-- the bytes from here on decide
abbrev pub invariant-loop-at : goal.invariant-loop-at
invariant-loop-at l = bytes_eq (drop l.at l.one) (drop l.at l.other) ≡ bytes_eq l.one l.other
