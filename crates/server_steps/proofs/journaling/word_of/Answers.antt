use Rattle.std.proofs.Common.{None, rules, subst, sym}
use Rattle.journal.specs.What.{order_named}
use Rattle.json_profile.specs.ReadAs.{IsRefusalOf}
use Rattle.server_steps.specs.OrderLines.{IsNameOf}
use Rattle.server_steps.proofs.journaling.word_of.Goals as goal

pub returns-else-eq : goal.returns-else-eq
returns-else-eq c =
    subst (λ coming. IsNameOf coming None) (sym c.in-Order.is)
    (c.in-Err.refusal, search rules, subst (λ bytes. IsRefusalOf order_named bytes c.in-Err.refusal) c.as_slice.ensures.value c.in-Err.ensures.refused)
