use Rattle.std.proofs.Common.{◌≡◌, ◌∙◌, true, false, sym, ap}
use Rattle.spawn.specs.declared.records.phase.Phase.TheVariants.{Out}
use Rattle.merge.specs.Alike.{is_fit}
use Rattle.master_core.proofs.FitTests.{fit_told}
use Rattle.master_core.specs.Messages.{return_refusal}
use Rattle.master_core.proofs.taking.return_refusal.Goals as goal

pub returns-then-fits : goal.returns-then-fits
returns-then-fits c =
    let t = c.args.ticket.now in
    let r = c.args.spawn.now in
    let p = c.args.part.now in
    let fit : is_fit t r p ≡ true = sym (fit_told c.fits.result t r p c.fits.ensures) ∙ c.if-fits.true in
    sym (ap (λ phase. return_refusal phase (is_fit t r p)) c.in-Out.is ∙ ap (return_refusal Out) fit)

pub returns-else-fits : goal.returns-else-fits
returns-else-fits c =
    let t = c.args.ticket.now in
    let r = c.args.spawn.now in
    let p = c.args.part.now in
    let unfit : is_fit t r p ≡ false = sym (fit_told c.fits.result t r p c.fits.ensures) ∙ c.if-fits.false in
    sym (ap (λ phase. return_refusal phase (is_fit t r p)) c.in-Out.is ∙ ap (return_refusal Out) unfit)
