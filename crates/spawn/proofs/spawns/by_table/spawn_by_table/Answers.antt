use Rattle.std.proofs.Common.{◌≡◌, ◌∙◌, None, ap, refl, subst, sym}
use Rattle.spawn.proofs.HoldingsKept.{claim_is_free, tried_keeps_table}
use Rattle.spawn.specs.Holdings.{IsFree, claims}
use Rattle.spawn.specs.Spawning.{Spawns, new_record, spawn_refusal}
use Rattle.spawn.proofs.spawns.by_table.spawn_by_table.Goals as goal
use Rattle.spawn.proofs.spawns.by_table.spawn_by_table.Goals.{In_ok-check_spawn}

-- nothing is against it
none : (c : In_ok-check_spawn) → spawn_refusal c.args.ticket.now.rows c.args.records.now.items c.args.number c.args.node c.args.rw ≡ None
none c =
    let rows = c.args.ticket.now.rows in
    ap (λ rs. spawn_refusal rows rs c.args.number c.args.node c.args.rw) (sym c.as_slice-others.ensures.value) ∙ ap (spawn_refusal rows c.as_slice-others.result.now c.args.number c.args.node) (sym c.as_slice.ensures) ∙ c.in_ok-check_spawn.ensures

free : (c : In_ok-check_spawn) → IsFree (claims c.args.ticket.now.rows (new_record c.args.ticket.now.rows c.args.number c.args.node c.args.worker c.args.rw c.args.at)) c.args.holders.now
free c = claim_is_free c.args.ticket.now.rows c.args.records.now.items c.args.number c.args.node c.args.worker c.args.rw c.args.at c.args.holders.now (none c) c.requires.table

pub spawn_free-requires-clause-free : goal.spawn_free-requires-clause-free
spawn_free-requires-clause-free c = free (goal.at.spawn_free-requires-clause-free c).In_ok-check_spawn

pub returns-clause-spawns : goal.returns-clause-spawns
returns-clause-spawns c =
    let t = c.args.ticket.now in
    let recs = c.args.records.now.items in
    let r = new_record t.rows c.args.number c.args.node c.args.worker c.args.rw c.args.at in
    subst (λ why. Spawns why r t recs c.spawn_free.result c.spawn_free.new.ticket c.spawn_free.new.records.items)
    (sym (none (goal.at.returns-clause-spawns c).In_ok-check_spawn)) c.spawn_free.ensures.spawns

pub returns-clause-table : goal.returns-clause-table
returns-clause-table c =
    let t = c.args.ticket.now in
    let e = c.spawn_free.ensures.spawns in
    tried_keeps_table c.spawn_free.result t c.spawn_free.new.ticket c.args.records.now.items c.spawn_free.new.records.items (new_record t.rows c.args.number c.args.node c.args.worker c.args.rw c.args.at) c.args.holders.now c.spawn_free.new.holders refl c.requires.table (free (goal.at.returns-clause-table c).In_ok-check_spawn)
    e.ticket e.records c.spawn_free.ensures.held e.ticket_stays e.records_stay c.spawn_free.ensures.holders_stay
