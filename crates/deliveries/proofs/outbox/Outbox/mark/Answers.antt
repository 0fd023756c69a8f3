use Rattle.std.proofs.Common.{◌∙◌, ap, sym}
use Rattle.std.specs.Option.{is_some, option_copied_mut}
use Rattle.deliveries.proofs.Keys.{progress_after-some}
use Rattle.deliveries.proofs.outbox.Outbox.mark.Goals as goal

pub returns-in-Some-get_mut : goal.returns-in-Some-get_mut
returns-in-Some-get_mut c =
    let to = c.in-Some.progress in
    let some = ap is_some (sym c.get_mut.ensures.value ∙ ap option_copied_mut c.in-Some-get_mut.is) in
    let written = (c.get_mut.follows.holds to).3 some in
    rw (← c.self.view_is, c.in-Some.is) (λ s. progress_after-some c.self.inside.spawns.entries c.args.spawn s to _ some (written.0 s))
