use Rattle.std.proofs.Common.{◌≡◌, ◌∙◌, cond, Some, sym, ap}
use Rattle.std.specs.Option.{option_map}
use Rattle.ticket_items.specs.declared.spawn_status.SpawnStatus.TheVariants.{SpawnedRO, SpawnedRW}
use Rattle.spawn.proofs.Shown.{under}
use Rattle.spawn.specs.IdSet.{is_in}
use Rattle.spawn.specs.Marking.{in_order}
use Rattle.spawn.specs.OutTables.{numbers_in}
use Rattle.spawn.proofs.tables.marking.mark_of.Goals as goal
use Rattle.spawn.proofs.tables.marking.mark_of.Goals.{then-has, else-has}

pub returns : goal.returns
returns c =
    let copies = c.args.copies.now in
    let x = c.args.id.now in
    let known : numbers_in copies.numbers x ≡ Some c.in-Some.numbers.now.items =
    sym (ap (option_map (λ v. v.items)) (c.in-Some.ensures.value ∙ ap (λ y. under y copies.numbers) c.as_str.ensures.value)) in
    let there : c.has.result ≡ is_in copies.changed x = c.has.ensures in
    let status : c.if-has.status ≡ cond (is_in copies.changed x) SpawnedRW SpawnedRO = elim c.if-has.branch [
      | then-has w ↦ w.status-is ∙ sym (ap (λ b. cond b SpawnedRW SpawnedRO) (sym there ∙ w.if-has.true))
      | else-has w ↦ w.status-is ∙ sym (ap (λ b. cond b SpawnedRW SpawnedRO) (sym there ∙ w.if-has.false))
    ] in
    ap (λ i. Some record { id = i; status = c.if-has.status; spawn_ids = c.in_ok-in_order.field-0 }) c.in_ok-copy.ensures
    ∙ ap (λ s. Some record { id = x; status = s; spawn_ids = c.in_ok-in_order.field-0 }) status
    ∙ ap (λ ns. Some record { id = x; status = cond (is_in copies.changed x) SpawnedRW SpawnedRO; spawn_ids = ns }) (c.in_ok-in_order.ensures ∙ ap in_order c.as_slice.ensures.value)
    ∙ sym (ap (option_map (λ ns. record { id = x; status = cond (is_in copies.changed x) SpawnedRW SpawnedRO; spawn_ids = in_order ns })) known)
