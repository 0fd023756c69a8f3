use Rattle.std.proofs.Common.{◌∙◌, ◌<◌, ◌==◌, length, subst, rules, sym, ap}
use Rattle.courier.proofs.Keeping.{IsConsistent-put, at-read, has-room, idle-empty}
use Rattle.courier.specs.Destination.{IsPaced, with_item}
use Rattle.courier.specs.Table.{destination_at}
use Rattle.courier.proofs.courier.Courier.put.Goals as goal

pub add-requires : goal.add-requires
add-requires c = λ begins. has-room _ _ c.args.line c.self.invariant (search rules) (idle-empty (destination_at c.self.inside.lines.items c.args.line) (ap (λ d. length d.items == 0) (sym (at-read _ c.args.line c.index-3.result.now (search rules) c.index-3.ensures)) ∙ sym c.is_empty-begins.ensures.value ∙ begins))

pub invariant_of-self-2 : goal.invariant_of-self-2
invariant_of-self-2 c =
    let ds = c.self.inside.lines.items in
    let line = c.args.line in
    let within : line < length ds = search rules in
    let pushed = c.in_ok-push.ensures.ok ∙ ap (with_item c.args.item) (at-read ds line c.index_mut.result.now within c.index_mut.ensures.value) in
    let begins = c.is_empty-begins.ensures.value ∙ ap (λ d. length d.items == 0) (at-read ds line c.index-3.result.now within c.index-3.ensures) in
    let due = c.due_time-due.ensures.value ∙ ap (λ d. d.due) (at-read ds line c.index-2.result.now within c.index-2.ensures) in
    rw pushed (IsConsistent-put ds line c.args.item c.is_empty-begins.result _ _ _ within (subst IsPaced pushed c.in_ok-push.ensures.paced) c.self.invariant begins (ap (λ due. record { due = due; line = line }) due) c.add.ensures)
