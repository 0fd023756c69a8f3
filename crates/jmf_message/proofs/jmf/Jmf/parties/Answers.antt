use Rattle.std.proofs.Common.{Some, subst, true}
use Rattle.json_items.specs.Validation.{Finds, first_fault, on_both}
use Rattle.ticket_items.specs.Names.{is_name}
use Rattle.jmf_message.proofs.jmf.Jmf.parties.Goals as goal

pub returns : goal.returns
returns c =
    let j = c.self.inside in
    let found = c.zip.ensures is_name (λ _. true) (Some j.sender.now) is_name (λ _. true) (Some j.receiver.now) c.in_ok-sender.ensures c.in_ok-receiver.ensures in
    subst (λ jmf. Finds (first_fault (on_both is_name is_name) (λ x. true)) c.zip.result (Some (jmf.sender, jmf.receiver))) c.self.view_is found
