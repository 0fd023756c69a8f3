use Rattle.std.proofs.Common.{◌≡◌, ◌∙◌, ◌<◌, None, true, length, sym, ap, subst}
use Rattle.ticket_rows.specs.Ticket.{Job}
use Rattle.spawn.specs.Holdings.{IsGiven, claims}
use Rattle.master_core.proofs.InStep.{free_in_step}
use Rattle.master_core.proofs.Merging.{free_is, free_there}
use Rattle.master_core.proofs.Passing.{went}
use Rattle.master_core.proofs.RecordPlaces.{IsOutAt, out_read, out_there}
use Rattle.master_core.specs.Master.{is_spawn_out, state}
use Rattle.master_core.specs.Messages.{on_decline}
use Rattle.merge.specs.Withdrawal.{job_after_withdrawal}
use Rattle.spawn.specs.declared.records.spawn_rec.SpawnRec.{SpawnRec}
use Rattle.master_core.proofs.master.Master.free.Goals as goal
use Rattle.master_core.proofs.master.Master.free.Goals.{After-index_mut-record}

-- the record, where it stands
own : (c : After-index_mut-record) → IsOutAt c.self.inside.records.items c.args.spawn c.place_of.result c.index_mut-record.result.now
own c =
    let out : is_spawn_out c.self.inside.records.items c.args.spawn ≡ true = ap (λ rs. is_spawn_out rs c.args.spawn) (sym c.as_slice.ensures.value) ∙ sym c.is_spawn_out.ensures ∙ c.if-not-is_spawn_out.false in
    out_read c.self.inside.records.items c.args.spawn c.place_of.result c.index_mut-record.result.now c.self.invariant.kept.numbered c.place_of.ensures out c.index_mut-record.ensures.value

pub index_mut-record-requires : goal.index_mut-record-requires
index_mut-record-requires c =
    let out : is_spawn_out c.self.inside.records.items c.args.spawn ≡ true = ap (λ rs. is_spawn_out rs c.args.spawn) (sym c.as_slice.ensures.value) ∙ sym c.is_spawn_out.ensures ∙ c.if-not-is_spawn_out.false in
    subst (λ n. c.place_of.result < n) (ap length (sym c.as_slice.ensures.value) ∙ c.as_slice.ensures.len) (out_there c.self.inside.records.items c.args.spawn c.place_of.result c.self.invariant.kept.numbered c.place_of.ensures out).1.within

pub withdraw-requires-clause-out : goal.withdraw-requires-clause-out
withdraw-requires-clause-out c = (own (goal.at.withdraw-requires-clause-out c).After-index_mut-record).out

pub withdraw-requires-clause-good : goal.withdraw-requires-clause-good
withdraw-requires-clause-good c =
    let here = own (goal.at.withdraw-requires-clause-good c).After-index_mut-record in
    c.self.invariant.kept.apart.good c.place_of.result c.index_mut-record.result.now here.there here.out

pub invariant_of-self-2 : goal.invariant_of-self-2
invariant_of-self-2 c =
    let w = state c.self.inside.name c.self.inside.workers c.self.inside.ticket c.self.inside.records.items in
    let here = own (goal.at.invariant_of-self-2 c).After-index_mut-record in
    let ticket = went c.withdraw.result c.or.result _ _ c.or.ensures c.in_ok-or.was c.withdraw.ensures.withdrawn in
    let phase = went c.withdraw.result c.or.result _ _ c.or.ensures c.in_ok-or.was c.withdraw.ensures.phase in
    let given = subst (λ (t : Job). IsGiven (claims t.rows c.withdraw.new.spawn) None c.self.inside.holders c.free.new.self) ticket c.free.ensures.given in
    rw (ticket, phase) (free_in_step w c.self.inside.holders c.free.new.self c.args.spawn c.args.at c.place_of.result c.index_mut-record.result.now c.self.invariant here
    (subst (λ (r : SpawnRec). IsGiven (claims (job_after_withdrawal w.ticket c.index_mut-record.result.now c.args.at).rows r) None c.self.inside.holders c.free.new.self) phase given))

pub returns-clause-ok : goal.returns-clause-ok
returns-clause-ok c =
    let w = state c.self.inside.name c.self.inside.workers c.self.inside.ticket c.self.inside.records.items in
    let here = own (goal.at.returns-clause-ok c).After-index_mut-record in
    let ticket = went c.withdraw.result c.or.result _ _ c.or.ensures c.in_ok-or.was c.withdraw.ensures.withdrawn in
    let phase = went c.withdraw.result c.or.result _ _ c.or.ensures c.in_ok-or.was c.withdraw.ensures.phase in
    rw (ticket, phase)
    (free_there w c.args.spawn c.args.at c.place_of.result c.index_mut-record.result.now c.self.invariant.kept.numbered here
    ∙ free_is w c.args.spawn c.args.at c.place_of.result c.index_mut-record.result.now here
    ∙ ap (λ v. (on_decline c.args.spawn c.args.at v).next) c.self.view_is)
