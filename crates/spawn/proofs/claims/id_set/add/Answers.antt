use Rattle.std.proofs.Common.{◌∙◌, ◌||◌, ap}
use Rattle.std.specs.Str.{bytes_eq}
use Rattle.ticket_items.proofs.Apart.{contains-inserted}
use Rattle.spawn.proofs.claims.id_set.add.Goals as goal

pub returns : goal.returns
returns c =
    λ f is. record {
      just = λ x. contains-inserted _ _ c.as_str.result c.in_ok-insert.ensures.updates x ∙ ap (λ b. b || bytes_eq c.as_str.result.now x) (is.just x) ∙ ap (λ i. f x || bytes_eq i x) c.as_str.ensures.value;
    }
