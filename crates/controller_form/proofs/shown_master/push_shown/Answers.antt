use Rattle.std.proofs.Common.{◌∙◌, ◌∷◌, ◌++◌, [], ap, append_assoc}
use Rattle.serde_json.specs.Written.{compact_text}
use Rattle.json_text.specs.Written.{shown_data}
use Rattle.controller_form.proofs.shown_master.push_shown.Goals as goal

pub returns-clause-ok : goal.returns-clause-ok
returns-clause-ok c =
    c.in_ok-push.ensures.items
    ∙ ap (λ t. t ++ 10 ∷ []) (c.in_ok-push_shown_text.ensures ∙ λ i. c.args.text.now.items ++ compact_text (shown_data (c.in_ok-marks.ensures.ok i) (c.ticket.ensures i)))
    ∙ append_assoc c.args.text.now.items _ _
