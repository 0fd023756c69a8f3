use Rattle.std.proofs.Common.{◌∙◌, ◌++◌, true, ap, subst, sym}
use Rattle.file_commands.specs.Listing.{lines_of, other_lines}
use Rattle.file_commands.specs.Opening.{IsHeldBy}
use Rattle.file_commands.proofs.ListedFiles.{one_listed}
use Rattle.file_commands.proofs.listing.kept_list.Goals as goal

pub returns-clause-ok : goal.returns-clause-ok
returns-clause-ok g c =
    let asked = c.args.asked in
    let controller = c.controller.result.now in
    let first = c.in_ok-push.ensures.first ∙ ap (λ t. t ++ lines_of true asked controller) c.new-lists.ensures.first in
    let rest = c.in_ok-push.ensures.rest ∙ ap (λ t. t ++ other_lines asked controller) c.new-lists.ensures.rest in
    record {
      controller = controller;
      is_held = subst (IsHeldBy g.K.Keep.is_honest g.K.Keep.held c.args.keep) (sym c.controller.ensures) c.in_ok-snapshot.ensures.controller;
      listed = ap (λ o. o.text.items) c.without_notes.ensures.output ∙ c.output_unrefused-output.ensures.text
          ∙ one_listed asked controller c.push.new.self.first.items c.push.new.self.rest.items c.in_ok-text.field-0.items c.in_ok-text.ensures first rest;
      accepted = ap (λ o. o.refused) c.without_notes.ensures.output ∙ c.output_unrefused-output.ensures.accepted;
      noted = c.without_notes.ensures.notes;
    }
