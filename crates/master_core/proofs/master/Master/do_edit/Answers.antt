use Rattle.std.proofs.Common.{◌≡◌, ◌∙◌, None, ap, sym}
use Rattle.master_core.proofs.InStep.{edit_in_step}
use Rattle.master_core.proofs.Refusals.{edit_free}
use Rattle.master_core.specs.Master.{state}
use Rattle.master_core.specs.Orders.{edit_refusal}
use Rattle.master_core.proofs.master.Master.do_edit.Goals as goal

pub apply_held-requires : goal.apply_held-requires
apply_held-requires c =
    let w = state c.self.inside.name c.self.inside.workers c.self.inside.ticket c.self.inside.records.items in
    (edit_free c.args.edit w (ap (edit_refusal c.args.edit) c.self.view_is ∙ sym c.edit_refusal.ensures ∙ c.in-None.is)).rows

pub invariant_of-self-in-None : goal.invariant_of-self-in-None
invariant_of-self-in-None c =
    let w = state c.self.inside.name c.self.inside.workers c.self.inside.ticket c.self.inside.records.items in
    let free : edit_refusal c.args.edit w ≡ None = ap (edit_refusal c.args.edit) c.self.view_is ∙ sym c.edit_refusal.ensures ∙ c.in-None.is in
    rw c.in_ok-apply_held-in-None.ensures.ok (edit_in_step c.args.edit c.args.at w c.self.inside.holders c.self.invariant free)
