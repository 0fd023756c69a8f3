use Rattle.std.proofs.Common.{◌∙◌, Ok, Some, ap, ap₂, inr, sym, true}
use Rattle.json_items.specs.Validation.{on_both}
use Rattle.json_items.specs.PartForm.{has_names, has_texts}
use Rattle.ticket_items.specs.Names.{is_name}
use Rattle.jmf_message.specs.Decoded.{body_with, command_of}
use Rattle.jmf_message.proofs.Saying.{IsAsked, handed_on, not_said, read_whole, refused_early, refused_late, with_part}
use Rattle.jmf_message.proofs.decoding.message_with.Goals as goal

pub returns-in_err-checked_family-clause-answers : goal.returns-in_err-checked_family-clause-answers
returns-in_err-checked_family-clause-answers c = λ raw same found.
    let e = c.in_err-checked_family.field-0.0 in
    handed_on c.from_residual.result e _ c.from_residual.ensures.1 (inr (not_said (with_part c.args.jmf.now raw) e (sym c.in_err-checked_family.ensures.value)))

pub returns-in_err-sender-clause-answers : goal.returns-in_err-sender-clause-answers
returns-in_err-sender-clause-answers c = λ raw same found.
    let j = c.args.jmf.now in
    let s = c.in_ok-checked_family.field-0 in
    let asked = c.in_ok-asked.asked in
    let e = c.in_err-sender.field-0.0 in
    let is : IsAsked j raw s asked = record { says = sym c.in_ok-checked_family.ensures.value; asks = ap (λ n. command_of n s) same ∙ sym c.command_of.ensures ∙ c.in_ok-asked.ensures.ok_part } in
    let wrong = c.in_err-sender.ensures (on_both is_name is_name) (λ _. true) (Some (j.sender, j.receiver)) has_names has_texts (Some raw) c.in_ok-parties.ensures found in
    handed_on c.from_residual-in_err-sender.result e _ c.from_residual-in_err-sender.ensures.1 (inr (refused_early j raw s asked e is wrong))

pub returns-in_err-part-clause-answers : goal.returns-in_err-part-clause-answers
returns-in_err-part-clause-answers c = λ raw same found.
    let j = c.args.jmf.now in
    let s = c.in_ok-checked_family.field-0 in
    let asked = c.in_ok-asked.asked in
    let e = c.in_err-part.field-0.0 in
    let is : IsAsked j raw s asked = record { says = sym c.in_ok-checked_family.ensures.value; asks = ap (λ n. command_of n s) same ∙ sym c.command_of.ensures ∙ c.in_ok-asked.ensures.ok_part } in
    let right = c.in_ok-sender.ensures (on_both is_name is_name) (λ _. true) (Some (j.sender, j.receiver)) has_names has_texts (Some raw) c.in_ok-parties.ensures found in
    handed_on c.from_residual-in_err-part.result e _ c.from_residual-in_err-part.ensures.1
    (refused_late j raw s asked ((c.in_ok-sender.sender, c.in_ok-sender.receiver), c.in_ok-sender.part) e is right c.in_err-part.ensures.err)

pub returns-clause-answers : goal.returns-clause-answers
returns-clause-answers c = λ raw same found.
    let j = c.args.jmf.now in
    let s = c.in_ok-checked_family.field-0 in
    let asked = c.in_ok-asked.asked in
    let is : IsAsked j raw s asked = record { says = sym c.in_ok-checked_family.ensures.value; asks = ap (λ n. command_of n s) same ∙ sym c.command_of.ensures ∙ c.in_ok-asked.ensures.ok_part } in
    let right = c.in_ok-sender.ensures (on_both is_name is_name) (λ _. true) (Some (j.sender, j.receiver)) has_names has_texts (Some raw) c.in_ok-parties.ensures found in
    let body = c.body_with.ensures.body ∙ ap (body_with asked) c.in_ok-part.ensures.ok in
    read_whole j raw s asked ((c.in_ok-sender.sender, c.in_ok-sender.receiver), c.in_ok-sender.part) is right c.in_ok-part.ensures.sound
    ∙ ap₂ (λ at b. Ok (record { sender = c.in_ok-sender.sender; receiver = c.in_ok-sender.receiver; at = at; body = b })) (sym c.at.ensures) (sym body)
