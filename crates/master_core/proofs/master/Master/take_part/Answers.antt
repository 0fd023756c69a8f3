use Rattle.std.proofs.Common.{◌≡◌, ◌∙◌, ◌<◌, None, true, length, slice_set, sym, ap, subst}
use Rattle.ticket_rows.specs.Ticket.{Job}
use Rattle.spawn.specs.Holdings.{IsGiven, claims}
use Rattle.std.proofs.lemmas.List.{set-get_or}
use Rattle.merge.proofs.Fitting.{part_fits}
use Rattle.merge.specs.Alike.{is_fit}
use Rattle.merge.specs.Put.{put}
use Rattle.merge.specs.Shape.{Fits}
use Rattle.spawn.specs.declared.records.spawn_rec.SpawnRec.{SpawnRec}
use Rattle.master_core.proofs.InStep.{put_in_step}
use Rattle.master_core.proofs.Merging.{put_is, put_there}
use Rattle.master_core.proofs.Passing.{failed, went}
use Rattle.master_core.proofs.RecordPlaces.{IsOutAt, out_read, out_there}
use Rattle.master_core.specs.Master.{IsNumbered, State, is_spawn_out, record_of, state}
use Rattle.master_core.specs.Messages.{on_return}
use Rattle.master_core.proofs.master.Master.take_part.Goals as goal
use Rattle.master_core.proofs.master.Master.take_part.Goals.{After-index_mut-record}

-- the record, where it stands
own : (c : After-index_mut-record) → IsOutAt c.self.inside.records.items c.args.part.spawn_id c.place_of.result c.index_mut-record.result.now
own c =
    let records = c.self.inside.records.items in
    let s = c.args.part.spawn_id in
    let out : is_spawn_out records s ≡ true = ap (λ rs. is_spawn_out rs s) (sym c.as_slice.ensures.value) ∙ ap (is_spawn_out c.as_slice.result.now) (sym c.spawn_id-spawn.ensures.id) ∙ sym c.is_spawn_out.ensures ∙ c.if-not-is_spawn_out.false in
    out_read records s c.place_of.result c.index_mut-record.result.now c.self.invariant.kept.numbered (c.place_of.ensures ∙ c.spawn_id-spawn.ensures.id) out c.index_mut-record.ensures.value

-- its part fits
fitting : (c : After-index_mut-record) → Fits c.self.inside.ticket c.index_mut-record.result.now c.args.part
fitting c =
    let r = c.index_mut-record.result.now in
    let s = c.args.part.spawn_id in
    part_fits c.self.inside.ticket r c.args.part (ap (λ (w : State). is_fit w.ticket r c.args.part) c.self.view_is ∙ c.requires r (ap (λ (w : State). record_of w.records s) (sym c.self.view_is) ∙ (own c).found) (own c).out)

pub is_spawn_out-requires : goal.is_spawn_out-requires
is_spawn_out-requires c = subst IsNumbered (sym c.as_slice.ensures.value) c.self.invariant.kept.numbered

pub index_mut-record-requires : goal.index_mut-record-requires
index_mut-record-requires c =
    let records = c.self.inside.records.items in
    let s = c.args.part.spawn_id in
    let out : is_spawn_out records s ≡ true = ap (λ rs. is_spawn_out rs s) (sym c.as_slice.ensures.value) ∙ ap (is_spawn_out c.as_slice.result.now) (sym c.spawn_id-spawn.ensures.id) ∙ sym c.is_spawn_out.ensures ∙ c.if-not-is_spawn_out.false in
    subst (λ n. c.place_of.result < n) (ap length (sym c.as_slice.ensures.value) ∙ c.as_slice.ensures.len) (out_there records s c.place_of.result c.self.invariant.kept.numbered (c.place_of.ensures ∙ c.spawn_id-spawn.ensures.id) out).1.within

pub merge_fitting-requires-clause-good : goal.merge_fitting-requires-clause-good
merge_fitting-requires-clause-good c =
    let here = own (goal.at.merge_fitting-requires-clause-good c).After-index_mut-record in
    c.self.invariant.kept.apart.good c.place_of.result c.index_mut-record.result.now here.there here.out

pub merge_fitting-requires-clause-fits : goal.merge_fitting-requires-clause-fits
merge_fitting-requires-clause-fits c = fitting (goal.at.merge_fitting-requires-clause-fits c).After-index_mut-record

pub invariant_of-self : goal.invariant_of-self
invariant_of-self c =
    let records = c.self.inside.records.items in
    let k = c.place_of.result in
    let ticket = failed c.merge_fitting.result c.or.result _ _ c.or.ensures c.in_err-or.was c.merge_fitting.ensures.ticket in
    let spawn = failed c.merge_fitting.result c.or.result _ _ c.or.ensures c.in_err-or.was c.merge_fitting.ensures.spawn in
    let still : slice_set records k c.merge_fitting.new.spawn ≡ records = ap (slice_set records k) (spawn ∙ c.index_mut-record.ensures.value) ∙ set-get_or records k c.index_mut-record.result.now in
    rw (ticket, still) c.self.invariant

pub invariant_of-self-2 : goal.invariant_of-self-2
invariant_of-self-2 c =
    let w = state c.self.inside.name c.self.inside.workers c.self.inside.ticket c.self.inside.records.items in
    let at = (goal.at.invariant_of-self-2 c).After-index_mut-record in
    let ticket = went c.merge_fitting.result c.or.result _ _ c.or.ensures c.in_ok-or.was c.merge_fitting.ensures.merged in
    let phase = went c.merge_fitting.result c.or.result _ _ c.or.ensures c.in_ok-or.was c.merge_fitting.ensures.phase in
    let given = subst (λ (t : Job). IsGiven (claims t.rows c.merge_fitting.new.spawn) None c.self.inside.holders c.free.new.self) ticket c.free.ensures.given in
    rw (ticket, phase) (put_in_step w c.self.inside.holders c.free.new.self c.args.part c.args.at c.place_of.result c.index_mut-record.result.now c.self.invariant (own at) (fitting at) c.spawn_id-spawn.ensures.valid
    (subst (λ (r : SpawnRec). IsGiven (claims (put w.ticket c.index_mut-record.result.now c.args.part c.args.at).rows r) None c.self.inside.holders c.free.new.self) phase given))

pub returns-clause-ok : goal.returns-clause-ok
returns-clause-ok c =
    let w = state c.self.inside.name c.self.inside.workers c.self.inside.ticket c.self.inside.records.items in
    let here = own (goal.at.returns-clause-ok c).After-index_mut-record in
    let ticket = went c.merge_fitting.result c.or.result _ _ c.or.ensures c.in_ok-or.was c.merge_fitting.ensures.merged in
    let phase = went c.merge_fitting.result c.or.result _ _ c.or.ensures c.in_ok-or.was c.merge_fitting.ensures.phase in
    rw (ticket, phase)
    (put_there w c.args.part c.args.at c.place_of.result c.index_mut-record.result.now c.self.invariant.kept.numbered here
    ∙ put_is w c.args.part c.args.at c.place_of.result c.index_mut-record.result.now here
    ∙ ap (λ v. (on_return c.args.part c.args.at v).next) c.self.view_is)
