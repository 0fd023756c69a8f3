use Rattle.std.proofs.Common.{arith, ◌≡◌, ◌∙◌, ◌++◌, ◌∷◌, [], Some, get_or, sym, ap, subst}
use Rattle.std.proofs.lemmas.List.{get_or_push}
use Rattle.spawn.proofs.NewRecord.{new_is_good}
use Rattle.spawn.proofs.Spawned.{spawned}
use Rattle.spawn.specs.Holdings.{IsFree, IsGiven, claims}
use Rattle.spawn.specs.Parts.{part_for}
use Rattle.spawn.specs.Records.{IsGood}
use Rattle.spawn.specs.Spawning.{job_after_spawn, new_record}
use Rattle.spawn.specs.declared.records.spawn_rec.SpawnRec.{SpawnRec}
use Rattle.spawn.proofs.spawns.spawning.enter.Goals as goal

pub hold-requires-clause-good : goal.hold-requires-clause-good
hold-requires-clause-good c =
    let rows = c.args.ticket.now.rows in
    let s = c.index.result.now in
    let made : s ≡ new_record rows c.args.id c.args.node c.args.worker c.args.rw.now c.args.at = c.index.ensures ∙ ap (λ rs. get_or rs c.len-before.result s) c.in_ok-push.ensures.items ∙ get_or_push c.args.records.now.items c.in_ok-new_record.field-0 s c.len-before.result (omega arith) ∙ c.in_ok-new_record.ensures.ok in
    subst (IsGood rows) (sym made) (new_is_good rows c.args.id c.args.node c.args.worker c.args.rw.now c.args.at c.in_ok-new_record.ensures.valid c.requires.known c.requires.parent)

pub hold-requires-clause-free : goal.hold-requires-clause-free
hold-requires-clause-free c =
    let rows = c.args.ticket.now.rows in
    let s = c.index.result.now in
    let made : s ≡ new_record rows c.args.id c.args.node c.args.worker c.args.rw.now c.args.at = c.index.ensures ∙ ap (λ rs. get_or rs c.len-before.result s) c.in_ok-push.ensures.items ∙ get_or_push c.args.records.now.items c.in_ok-new_record.field-0 s c.len-before.result (omega arith) ∙ c.in_ok-new_record.ensures.ok in
    subst (λ r. IsFree (claims rows r) c.args.holders.now) (sym made) c.requires.free

pub returns-in-Ok-clause-held : goal.returns-in-Ok-clause-held
returns-in-Ok-clause-held c =
    let rows = c.args.ticket.now.rows in
    let s = c.index.result.now in
    let made : s ≡ new_record rows c.args.id c.args.node c.args.worker c.args.rw.now c.args.at = c.index.ensures ∙ ap (λ rs. get_or rs c.len-before.result s) c.in_ok-push.ensures.items ∙ get_or_push c.args.records.now.items c.in_ok-new_record.field-0 s c.len-before.result (omega arith) ∙ c.in_ok-new_record.ensures.ok in
    subst (λ (r : SpawnRec). IsGiven (claims rows r) (Some r.id) c.args.holders.now c.hold.new.holders) made c.in-Ok.ensures.held

pub returns-in-Ok-clause-spawns : goal.returns-in-Ok-clause-spawns
returns-in-Ok-clause-spawns c =
    let t = c.args.ticket.now in
    let recs = c.args.records.now.items in
    let s = c.index.result.now in
    let made : s ≡ new_record t.rows c.args.id c.args.node c.args.worker c.args.rw.now c.args.at = c.index.ensures ∙ ap (λ rs. get_or rs c.len-before.result s) c.in_ok-push.ensures.items ∙ get_or_push recs c.in_ok-new_record.field-0 s c.len-before.result (omega arith) ∙ c.in_ok-new_record.ensures.ok in
    spawned t c.hold.new.ticket recs c.push.new.self.items c.args.id c.args.node c.args.worker c.args.rw.now c.args.at c.in-Ok.part
    c.in_ok-new_record.ensures.valid c.requires.known c.requires.parent
    (c.in-Ok.ensures.ticket ∙ ap (job_after_spawn t) made)
    (c.in_ok-push.ensures.items ∙ ap (λ r. recs ++ r ∷ []) c.in_ok-new_record.ensures.ok)
    (c.in-Ok.ensures.part ∙ ap (part_for t) made)
