-- What the master makes of an order or a message: the controllers are later, and what it sends is new.
use Rattle.std.proofs.Common.{◌≡◌, inl, inr, ℕ, true, List, Some, None, IfSome, refl, sym, ap, ◌∙◌, subst}
use Rattle.std.proofs.lemmas.Bool.{true≢false}
use Rattle.std.specs.List.{All}
use Rattle.controller.specs.Step.{Step}
use Rattle.controller.specs.declared.message.Message.{Message}
use Rattle.spawn.proofs.Lawful.{placed}
use Rattle.spawn.proofs.SoundPart.{part_is_sound}
use Rattle.spawn.specs.Parts.{part_for}
use Rattle.spawn.specs.Records.{is_out}
use Rattle.spawn.specs.declared.records.spawn_rec.SpawnRec.{SpawnRec}
use Rattle.master_core.proofs.OrderLaws.{asks, submits}
use Rattle.master_core.proofs.PartsKept.{message_keeps_spawns, order_keeps_spawns}
use Rattle.master_core.proofs.Recorded.{number_is}
use Rattle.master_core.proofs.Refusals.{done_order}
use Rattle.master_core.specs.Master.{IsConsistent, State, is_of, merged_record, next_number, record_of, withdrawn_record}
use Rattle.master_core.specs.Messages.{IsValidBody, take_step}
use Rattle.master_core.specs.Orders.{abort_of, allowed_step, order_refusal, spawn_sent, submit_of}
use Rattle.world_items.specs.declared.master_order.Order.{Order}
use Rattle.world_items.specs.declared.master_order.Order.TheVariants as order
use Rattle.world.proofs.Messages.StaysLater.{AreLater}
use Rattle.stored_state.specs.Names.{ordered_names, taken_by_master_names}
use Rattle.world.proofs.Master.PartsGoOut.{part_is_valid}
use Rattle.world.proofs.Messages.Sending.{IsNew, new_message}
use Rattle.world.specs.Controllers.{Controllers}
use Rattle.world.specs.Messages.{IsInOrder}

-- the controllers with the master as it is next
abbrev pub with_master : Controllers → State → Controllers
with_master c next = record c { master = next }

-- ---- orders

pub ordered_later : (o : Order) (at : ℕ) (c : Controllers) → IsConsistent c.master → order_refusal o c.master ≡ None → AreLater c (with_master c (allowed_step o at c.master).next)
ordered_later o at c kept none =
    let done = sym (done_order o at c.master none) in
    record {
      name = (ordered_names o at c.master).own;
      records = λ s r found.
          let stays = order_keeps_spawns o at c.master s r kept found in
          record {
            next = r;
            found = ap (λ (step : Step State Message). record_of step.next.records s) done ∙ stays.0;
            worker = refl;
            since = refl;
            same = λ out. refl;
            part = λ out. ap (λ (step : Step State Message). part_for step.next.ticket r) done ∙ stays.1 out;
          };
      ended = λ n s e there ended. (e, there, inl refl);
    }

-- the part of a record that is out may be sent
submit_is_new : (c : Controllers) (messages : List Message) (s : ℕ) (r : SpawnRec) → IsConsistent c.master → All (IsInOrder c) messages → record_of c.master.records s ≡ Some r → is_out r ≡ true → IsNew c messages (submit_of c.master.name c.master.ticket r)
submit_is_new c messages s r kept all found out =
    let place = placed (is_of s) c.master.records r found in
    let good = kept.apart.good place.place r place.there out in
    new_message c messages _ all
    (record {
      spawn = r;
      recorded = ap (record_of c.master.records) (number_is c.master.records s r found) ∙ found;
      from = refl;
      to = refl;
      says = λ _. refl;
      for_master = tt;
      for_worker = part_is_valid c.master.ticket r kept.valid good;
      sound = part_is_sound c.master.ticket r kept.valid good;
    })
    out

part_is_sent : (o : Order) (at : ℕ) (c : Controllers) (messages : List Message) (s : ℕ) → IsConsistent c.master → order_refusal o c.master ≡ None → IsConsistent (allowed_step o at c.master).next → All (IsInOrder (with_master c (allowed_step o at c.master).next)) messages → spawn_sent o c.master ≡ Some s
    → IfSome (allowed_step o at c.master).sent (IsNew (with_master c (allowed_step o at c.master).next) messages)
part_is_sent o at c messages s kept none next all is =
    let d = with_master c (allowed_step o at c.master).next in
    let sends = submits o at c.master s kept none is in
    subst (λ m. IfSome m (IsNew d messages)) (sym sends.3)
    (subst (λ n. IsNew d messages (submit_of n d.master.ticket sends.0)) (ordered_names o at c.master).own (submit_is_new d messages s sends.0 next all sends.1 sends.2))

-- what gives the spawn of a record up may be sent
abort_is_new : (c : Controllers) (messages : List Message) (s : ℕ) (r : SpawnRec) → All (IsInOrder c) messages → record_of c.master.records s ≡ Some r → IsNew c messages (abort_of c.master.name r)
abort_is_new c messages s r all found =
    new_message c messages _ all
    (record {
      spawn = r;
      recorded = ap (record_of c.master.records) (number_is c.master.records s r found) ∙ found;
      from = refl;
      to = refl;
      says = refl;
      for_master = tt;
      for_worker = tt;
      sound = tt;
    })
    tt

pub ordered_sends : (o : Order) (at : ℕ) (c : Controllers) (messages : List Message) → IsConsistent c.master → order_refusal o c.master ≡ None → IsConsistent (allowed_step o at c.master).next → All (IsInOrder (with_master c (allowed_step o at c.master).next)) messages
    → IfSome (allowed_step o at c.master).sent (IsNew (with_master c (allowed_step o at c.master).next) messages)
ordered_sends (order.Edit e) at c messages kept none next all = tt
ordered_sends (order.Spawn node worker copies) at c messages kept none next all = part_is_sent (order.Spawn node worker copies) at c messages (next_number c.master.records) kept none next all refl
ordered_sends (order.Resend s) at c messages kept none next all = part_is_sent (order.Resend s) at c messages s kept none next all refl
ordered_sends (order.Withdraw s) at c messages kept none next all =
    let sends = asks (order.Withdraw s) at c.master s none refl in
    subst (λ m. IfSome m (IsNew c messages)) (sym sends.3) (abort_is_new c messages s sends.0 all sends.1)

-- ---- messages

pub taken_later : (m : Message) (at : ℕ) (c : Controllers) → IsConsistent c.master → IsValidBody m.body → AreLater c (with_master c (take_step m at c.master).next)
taken_later m at c kept valid =
    record {
      name = (taken_by_master_names m at c.master).own;
      records = λ s r found.
          elim (message_keeps_spawns m at c.master s r valid kept found) [
            | inl merges ↦ record { next = merged_record r; found = merges.2; worker = refl; since = refl; same = λ out. absurd (true≢false (sym out)); part = λ out. absurd (true≢false (sym out)) }
            | inr others ↦ elim others [
              | inl frees ↦ record { next = withdrawn_record r; found = frees.2; worker = refl; since = refl; same = λ out. absurd (true≢false (sym out)); part = λ out. absurd (true≢false (sym out)) }
              | inr stays ↦ record { next = r; found = stays.0; worker = refl; since = refl; same = λ out. refl; part = stays.1 }
            ]
          ];
      ended = λ n s e there ended. (e, there, inl refl);
    }
