use Rattle.std.proofs.Common.{◌≡◌, take}
use Rattle.json_source.specs.Read.{lent_pairs}
use Rattle.json_items.proofs.resources.attrs_form.build_attrs.Given as goal

-- the pairs so far are set
abbrev pub invariant-loop-name : goal.invariant-loop-name
invariant-loop-name l = l.attrs ≡ take l.name-index (lent_pairs l.pairs)
