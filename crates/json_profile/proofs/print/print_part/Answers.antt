use Rattle.std.proofs.Common.{◌≡◌, true, OnOk}
use Rattle.std.specs.List.{list_all}
use Rattle.ticket_items.specs.Names.{is_name}
use Rattle.json_items.specs.TicketForm.{row_has_names, row_has_texts}
use Rattle.json_items.specs.Ancestors.{ancestor_has_names}
use Rattle.json_items.specs.PartForm.{copies_have_names, copies_have_texts}
use Rattle.json_text.proofs.MemberLaws.{on_ok, on_both}
use Rattle.json_profile.proofs.Printing.{on_three}
use Rattle.json_profile.proofs.PartAgain.{IsKnown, part_again}
use Rattle.json_profile.proofs.Shape.{part_data_plain, part_data_low}
use Rattle.json_profile.proofs.print.print_part.Goals as goal

pub returns : goal.returns
returns c =
    let p = c.args.part.now in
    let done = c.print_part.result in
    let told = c.print_part.ensures in
    let first : OnOk done ((is_name p.job_id ≡ true) × (list_all ancestor_has_names p.ancestors ≡ true) × (list_all row_has_names p.rows ≡ true)) =
    on_three done told.job told.ancestors told.names (λ job ancestors names. (job, ancestors, names)) in
    let second : OnOk done ((list_all row_has_texts p.rows ≡ true) × (copies_have_names p.rw p.ro ≡ true) × (copies_have_texts p.rw p.ro ≡ true)) =
    on_three done told.texts told.copy_names told.copy_texts (λ texts copy_names copy_texts. (texts, copy_names, copy_texts)) in
    let known : OnOk done (IsKnown p) = on_both done first second (λ a b. record { number = told.number; valid = told.valid; job = a.0; ancestors = a.1; names = a.2; texts = b.0; copy_names = b.1; copy_texts = b.2 }) in
    record {
      printed = told.printed;
      again = on_ok done known (part_again p);
      plain = on_ok done known (λ _. part_data_plain p);
      low = on_ok done known (λ _. part_data_low p told.valid.shallow);
    }
