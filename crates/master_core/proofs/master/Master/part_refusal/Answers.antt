use Rattle.std.proofs.Common.{◌≡◌, ◌∙◌, Some, ap}
use Rattle.spawn.specs.declared.records.spawn_rec.SpawnRec.{SpawnRec}
use Rattle.merge.specs.Alike.{is_fit}
use Rattle.master_core.specs.Master.{record_of}
use Rattle.master_core.specs.Messages.{return_refusal}
use Rattle.master_core.proofs.master.Master.part_refusal.Goals as goal

pub returns-in-Some : goal.returns-in-Some
returns-in-Some c r found =
    let w = c.args.self.now in
    let p = c.args.part.now in
    let here : Some c.in-Some.spawn.now ≡ Some r = c.in-Some.ensures ∙ ap (λ rs. record_of rs c.spawn_id.result) c.records.ensures.records ∙ ap (record_of w.records) c.spawn_id.ensures.id ∙ found in
    let same : c.in-Some.spawn.now ≡ r = cc in
    c.return_refusal.ensures
    ∙ ap (λ ticket. return_refusal c.in-Some.spawn.now.phase (is_fit ticket c.in-Some.spawn.now p)) c.ticket.ensures
    ∙ ap (λ (x : SpawnRec). return_refusal x.phase (is_fit w.ticket x p)) same
