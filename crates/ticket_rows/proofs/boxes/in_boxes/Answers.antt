use Rattle.std.proofs.Common.{◌∙◌, ◌++◌, ◌∷◌, [], ap}
use Rattle.std.proofs.lemmas.List.{map_push}
use Rattle.ticket_rows.specs.Boxed.{contents}
use Rattle.ticket_rows.proofs.boxes.in_boxes.Goals as goal

pub loop-row-preserved : goal.loop-row-preserved
loop-row-preserved c =
    let box = c.in_ok-in_box.field-0 in
    ap contents c.in_ok-push.ensures.items ∙ map_push (λ b. b.value) c.loop-row.boxes.items box
    ∙ ap (λ rs. rs ++ box.value ∷ []) c.loop-row.invariant ∙ ap (λ r. c.loop-row.yielded ++ r ∷ []) c.in_ok-in_box.ensures
