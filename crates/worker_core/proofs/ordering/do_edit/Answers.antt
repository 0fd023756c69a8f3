use Rattle.std.proofs.Common.{◌≡◌, None, IfSome, sym, subst}
use Rattle.ticket_tree.specs.Part.{refusal_of_part}
use Rattle.worker_core.proofs.Refusals.{edit_free, of_open}
use Rattle.worker_core.proofs.ordering.do_edit.Goals as goal

pub edit_held-requires-clause-plain : goal.edit_held-requires-clause-plain
edit_held-requires-clause-plain c = (edit_free c.args.edit c.args.entry.now c.requires).plain

pub edit_held-requires-clause-free : goal.edit_held-requires-clause-free
edit_held-requires-clause-free c =
    let e = c.args.edit in
    let x = c.args.entry.now in
    let free = edit_free e x c.requires in
    subst (λ o. IfSome o (λ p. refusal_of_part e p ≡ None)) (sym (of_open x free.part free.opened).1) free.free
