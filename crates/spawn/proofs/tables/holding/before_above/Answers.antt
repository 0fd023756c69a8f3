use Rattle.std.proofs.Common.{◌∙◌, ◌&&◌, sym, ap, arith, subst}
use Rattle.spawn.proofs.FirstHolder.{Met, met_first, met_higher, met_deeper, met_all, met_within, front_follows}
use Rattle.spawn.proofs.FirstHolder.{below_path, first_as, out_among, path_behind, unknown_first}
use Rattle.spawn.specs.Records.{is_out}
use Rattle.spawn.specs.declared.records.spawn_rec.SpawnRec.{SpawnRec}
use Rattle.ticket_rows.specs.Place.{is_below, node_places}
use Rattle.spawn.proofs.tables.holding.before_above.Goals as goal

pub returns-in_default : goal.returns-in_default
returns-in_default c = unknown_first c.args.ticket.now.rows c.args.node.now c.args.records.now (sym c.in_default.ensures.known)

pub loop-place-init : goal.loop-place-init
loop-place-init c =
    let a = c.in-Some.at in
    subst (λ k. Met a.front (path_behind c.args.node.now a.depth a.front) c.args.records.now k a.depth c.before_node-free.result) (sym c.len-place.ensures)
    (met_first a.front c.args.records.now c.args.node.now a.depth c.before_node-free.result c.before_node-free.ensures)

pub slice_bounds-before_node-end : goal.slice_bounds-before_node-end
slice_bounds-before_node-end c =
    let a = c.in-Some.at in
    met_within a.front (path_behind c.args.node.now a.depth a.front) c.args.records.now c.loop-place.place c.loop-place.depth c.loop-place.free c.loop-place.invariant

pub loop-place-preserved-then-row-depth : goal.loop-place-preserved-then-row-depth
loop-place-preserved-then-row-depth c =
    let a = c.in-Some.at in
    met_higher a.front (path_behind c.args.node.now a.depth a.front) c.args.records.now c.loop-place.place c.loop-place.depth c.loop-place.free c.before_node-free-then-row-depth.result c.at-row.result.now (front_follows c.args.ticket.now.rows c.args.node.now a c.in-Some.ensures.valid c.in-Some.ensures.at) c.loop-place.invariant c.loop-place-test.true
    (omega (arith, c.loop-place.auto.place, c.len-place.ensures)) c.at-row.ensures c.if-row-depth.true c.before_node-free-then-row-depth.ensures

pub loop-place-preserved : goal.loop-place-preserved
loop-place-preserved c =
    let a = c.in-Some.at in
    met_deeper a.front (path_behind c.args.node.now a.depth a.front) c.args.records.now c.loop-place.place c.loop-place.depth c.loop-place.free c.at-row.result.now (front_follows c.args.ticket.now.rows c.args.node.now a c.in-Some.ensures.valid c.in-Some.ensures.at) c.loop-place.invariant c.loop-place-test.true
    (omega (arith, c.loop-place.auto.place, c.len-place.ensures)) c.at-row.ensures c.if-row-depth.false

pub returns : goal.returns
returns c =
    let rows = c.args.ticket.now.rows in
    let n = c.args.node.now in
    let a = c.in-Some.at in
    let path = path_behind n a.depth a.front in
    let seen = c.in-Some.ensures in
    met_all a.front path c.args.records.now c.loop-place.place c.loop-place.depth c.loop-place.free c.loop-place.invariant c.loop-place-test.false
    ∙ first_as (out_among path) (λ (r : SpawnRec). is_out r && is_below (node_places rows) n r.node) (λ r. ap (λ b. is_out r && b) (below_path rows n a seen.valid seen.at (sym seen.known) r.node)) c.args.records.now
