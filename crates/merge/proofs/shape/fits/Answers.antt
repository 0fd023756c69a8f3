use Rattle.std.proofs.Common.{◌∙◌, sym}
use Rattle.std.proofs.lemmas.Bool.{true≢false}
use Rattle.std.proofs.lemmas.Bool.Decides.{Decides-at}
use Rattle.merge.proofs.Fitting.{fit-Decides, is_part-at, unfit}
use Rattle.merge.proofs.shape.fits.Goals as goal

pub returns-in-None : goal.returns-in-None
returns-in-None c = (λ no. absurd (true≢false (sym no)), λ fits. absurd (unfit c.args.ticket.now c.args.spawn.now c.args.part.now c.rows-came.ensures.valid (sym c.in-None.ensures.known) fits))

pub returns-in-Some : goal.returns-in-Some
returns-in-Some c =
    let t = c.args.ticket.now in
    let r = c.args.spawn.now in
    let p = c.args.part.now in
    Decides-at _ _ (c.is_part.ensures ∙ is_part-at t r p c.in-Some.at c.in-Some.ensures.at) (fit-Decides t r p)
