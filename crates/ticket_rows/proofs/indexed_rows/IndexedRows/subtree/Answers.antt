use Rattle.std.proofs.Common.{◌+◌, drop, is_some, refl, sym, ap, subst}
use Rattle.std.specs.Str.{bytes_eq}
use Rattle.ticket_items.proofs.Places.{none_at_position, found_at_position, below_length}
use Rattle.ticket_rows.proofs.Below.{bounds, run_length}
use Rattle.ticket_rows.proofs.NewNode.{run_within}
use Rattle.ticket_rows.specs.Place.{BoundsNodesBelow}
use Rattle.ticket_rows.proofs.indexed_rows.IndexedRows.subtree.Goals as goal

pub returns-in-None-clause-known : goal.returns-in-None-clause-known
returns-in-None-clause-known c = sym (ap is_some (none_at_position (λ r. bytes_eq r.id c.args.id.now) c.args.self.now (sym c.in-None.ensures)))

pub run_end-requires : goal.run_end-requires
run_end-requires c = below_length (λ r. bytes_eq r.id c.args.id.now) c.args.self.now c.in-Some.from (sym c.in-Some.ensures)

pub returns-in-Some-clause-found : goal.returns-in-Some-clause-found
returns-in-Some-clause-found c =
    let rows = c.args.self.now in
    let x = c.args.id.now in
    let k = c.in-Some.from in
    let at = found_at_position (λ r. bytes_eq r.id x) rows k (sym c.in-Some.ensures) in
    let s = at.0 in
    let later = drop (k + 1) rows in
    subst (BoundsNodesBelow rows x k) (sym (c.run_end.ensures.end s at.2)) (bounds rows later x k (run_length s.depth later) s refl c.requires.tree c.requires.distinct (sym c.in-Some.ensures) at.2 refl (run_within s.depth later))

pub returns-in-Some-clause-known : goal.returns-in-Some-clause-known
returns-in-Some-clause-known c = sym (ap is_some (found_at_position (λ r. bytes_eq r.id c.args.id.now) c.args.self.now c.in-Some.from (sym c.in-Some.ensures)).1)
