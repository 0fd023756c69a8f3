use Rattle.std.proofs.Common.{◌≡◌, ℕ, false, IfSome, Some, refl, subst}
use Rattle.std.specs.Global.{Vec}
use Rattle.shop_day.proofs.Stops.{line_looked, line_stopped}
use Rattle.shop_day.specs.declared.line.Call.TheVariants.{Show}
use Rattle.streams.specs.declared.fault.Fault.TheVariants.{Device}
use Rattle.streams.specs.declared.refused.Refused.TheVariants.{LoadFailed}
use Rattle.shop_day.specs.Files.{shown_of}
use Rattle.shop_day.proofs.doing.shown_outcome.Goals as goal

pub returns-in-Some : goal.returns-in-Some
returns-in-Some g c = line_looked c.args.name c.args.at c.args.shop.now (record { text = c.in-Some.text; refused = false })
    (subst (λ o. IfSome o (λ (t : Vec ℕ). shown_of c.args.shop.now.controllers c.args.name ≡ Some t.items)) c.in-Some.is c.in_ok-text.ensures) refl

pub returns : goal.returns
returns g c = line_stopped (record { call = Show c.args.name; at = c.args.at }) c.args.shop.now (Device LoadFailed) tt
