use Rattle.std.proofs.Common.{◌∙◌, ◌&&◌, sym, ap, nat_lt}
use Rattle.std.proofs.lemmas.Bool.{le-leb, lt-leb}
use Rattle.ticket_rows.proofs.Below.{below_none, below_unknown, below_bounds}
use Rattle.ticket_rows.proofs.indexed_rows.IndexedRows.is_below.Goals as goal

pub returns-in-None : goal.returns-in-None
returns-in-None c =
    sym (below_unknown c.args.self.now c.args.lower.now c.args.upper.now (sym c.in-None.ensures.known))

pub returns-in-None-place : goal.returns-in-None-place
returns-in-None-place c =
    sym (below_none c.args.self.now c.args.lower.now c.args.upper.now (sym c.in-None-place.ensures))

pub returns-then-from-place : goal.returns-then-from-place
returns-then-from-place c =
    sym (below_bounds c.args.self.now c.args.lower.now c.args.upper.now c.in-Some-place.place c.in-Some.from c.in-Some.to (sym c.in-Some-place.ensures) c.in-Some.ensures.found
    ∙ ap (λ b. b && nat_lt c.in-Some-place.place c.in-Some.to) (le-leb _ _ c.if-from-place.true))

pub returns-else-from-place : goal.returns-else-from-place
returns-else-from-place c =
    let outside = lt-leb c.in-Some.from c.in-Some-place.place c.if-from-place.false in
    outside ∙ sym (below_bounds c.args.self.now c.args.lower.now c.args.upper.now c.in-Some-place.place c.in-Some.from c.in-Some.to (sym c.in-Some-place.ensures) c.in-Some.ensures.found
    ∙ ap (λ b. b && nat_lt c.in-Some-place.place c.in-Some.to) outside)
