use Rattle.std.proofs.Common.{None, OnOk, Some, sym, subst}
use Rattle.spawn.proofs.PartKept.{allowed, same_ok, same_record}
use Rattle.spawn.specs.Holdings.{IsFree, IsGiven, claims}
use Rattle.spawn.specs.Spawning.{Spawns}
use Rattle.spawn.specs.declared.records.spawn_rec.SpawnRec.{SpawnRec}
use Rattle.spawn.proofs.spawns.spawning.spawn_free.Goals as goal

pub enter-requires-clause-free : goal.enter-requires-clause-free
enter-requires-clause-free c =
    let rows = c.args.ticket.now.rows in
    let may = allowed rows c.args.records.now.items c.args.number c.args.node c.args.rw c.requires.refusal in
    let made = same_record rows c.in_ok-id.id c.args.number c.args.node c.args.worker c.as_slice.result.now c.args.rw c.args.at (same_ok _ _ _ c.new.result c.in_ok-id.was (c.new.ensures.ok may.2)) c.as_slice.ensures in
    subst (λ r. IsFree (claims rows r) c.args.holders.now) (sym made) c.requires.free

pub returns-clause-spawns : goal.returns-clause-spawns
returns-clause-spawns c =
    let t = c.args.ticket.now in
    let rows = t.rows in
    let recs = c.args.records.now.items in
    let may = allowed rows recs c.args.number c.args.node c.args.rw c.requires.refusal in
    let made = same_record rows c.in_ok-id.id c.args.number c.args.node c.args.worker c.as_slice.result.now c.args.rw c.args.at (same_ok _ _ _ c.new.result c.in_ok-id.was (c.new.ensures.ok may.2)) c.as_slice.ensures in
    subst (λ r. Spawns None r t recs c.enter.result c.enter.new.ticket c.enter.new.records.items) made c.enter.ensures.spawns

pub returns-clause-held : goal.returns-clause-held
returns-clause-held c =
    let rows = c.args.ticket.now.rows in
    let may = allowed rows c.args.records.now.items c.args.number c.args.node c.args.rw c.requires.refusal in
    let made = same_record rows c.in_ok-id.id c.args.number c.args.node c.args.worker c.as_slice.result.now c.args.rw c.args.at (same_ok _ _ _ c.new.result c.in_ok-id.was (c.new.ensures.ok may.2)) c.as_slice.ensures in
    subst (λ (r : SpawnRec). OnOk c.enter.result (IsGiven (claims rows r) (Some r.id) c.args.holders.now c.enter.new.holders)) made c.enter.ensures.held
