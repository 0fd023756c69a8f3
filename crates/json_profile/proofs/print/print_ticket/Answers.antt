use Rattle.std.proofs.Common.{subst}
use Rattle.std.proofs.lemmas.Bool.{and_from}
use Rattle.json_text.specs.Marked.{no_marks, marked_rows}
use Rattle.json_text.specs.Written.{shown_data}
use Rattle.json_text.specs.Printed.{IsPrinted}
use Rattle.json_text.proofs.MemberLaws.{on_ok}
use Rattle.json_profile.proofs.Printing.{on_three}
use Rattle.json_profile.proofs.RoundTrip.{ticket_again}
use Rattle.json_profile.proofs.Shape.{job_data_plain, shown_data_low}
use Rattle.json_profile.proofs.print.print_ticket.Goals as goal

pub returns : goal.returns
returns c =
    let t = c.args.ticket.now in
    let done = c.print_ticket.result in
    let valid = c.print_ticket.ensures.valid in
    record {
      printed = on_ok done c.print_ticket.ensures.printed (λ p. subst (λ marks. IsPrinted (shown_data marks t) c.args.out.now c.print_ticket.new.out) c.no_marks.ensures p);
      again = on_three done c.print_ticket.ensures.job c.print_ticket.ensures.names c.print_ticket.ensures.texts (λ job names texts. ticket_again t valid (and_from _ _ job names) texts);
      plain = on_ok done c.print_ticket.ensures.job (λ _. job_data_plain t.job_id (marked_rows no_marks t.rows));
      low = on_ok done c.print_ticket.ensures.job (λ _. shown_data_low no_marks t valid.shallow);
    }
