-- The definitions, computed on the messages of the shop's example.
use Rattle.std.proofs.Common.{◌≡◌, ℕ, List, Ok, Err, refl}
use Rattle.std.specs.Fmt.{digits}
use Rattle.std.specs.Prelude.{codes}
use Rattle.serde_json.specs.Data.{Data, Members, no_members, member, unsigned, number, string, object}
use Rattle.ticket_items.specs.declared.refusal.Refusal.TheVariants.{NotProfile, WrongMessage}
use Rattle.jmf_message.specs.Decoded.{message_read}
use Rattle.jmf_message.specs.Form.{document_form, is_response, jmf_form}
use Rattle.controller.specs.Words.{message_id}
use Rattle.jmf_message.specs.Written.{message_data}
use Rattle.controller.specs.declared.body.Body.TheVariants as bodies
use Rattle.controller.specs.declared.command.Command.TheVariants.{Submit}
use Rattle.controller.specs.declared.message.Message.{Message}
use Rattle.controller.specs.declared.queue_status.QueueStatus.TheVariants.{Running}

-- ---- the answer of press to the part that it took

abbrev taken : Message
taken = record { sender = codes "press"; receiver = codes "mis"; at = 110; body = bodies.Answer Submit 1 (Ok Running) }

-- what stands behind a response in JMF
abbrev from_press : Members
from_press = member (codes "SenderID") (string (codes "press")) (member (codes "TimeStamp") (number (unsigned 110)) (member (codes "Version") (string (codes "1.5")) no_members))

abbrev answered : Data → Data
answered response = object (member (codes "JMF") (object (member (codes "ReceiverID") (string (codes "mis")) (member (codes "Response") response from_press))) no_members)

-- what stands behind its reason
abbrev codes_of : ℕ → List ℕ → List ℕ → Members
codes_of code kind reference = member (codes "ReturnCode") (number (unsigned code)) (member (codes "Type") (string kind) (member (codes "refID") (string reference) no_members))

abbrev success : List ℕ → List ℕ → ℕ → List ℕ → Data
success reference entry reason kind =
    object (member (codes "ID") (string (codes "Q.S1.a")) (member (codes "QueueEntry") (object (member (codes "QueueEntryID") (string entry) (member (codes "Status") (string (codes "Running")) no_members)))
    (member (codes "Reason") (number (unsigned reason)) (codes_of 0 kind reference))))

abbrev refused : ℕ → ℕ → Data
refused reason code = object (member (codes "ID") (string (codes "Q.S1.a")) (member (codes "Reason") (number (unsigned reason)) (codes_of code (codes "SubmitQueueEntry") (codes "Q.S1"))))

abbrev running : Data
running = success (codes "Q.S1") (codes "S1") 0 (codes "SubmitQueueEntry")

taken_written : message_data taken ≡ answered running
unfolding digits
taken_written = refl

taken_id : message_id taken.body ≡ codes "Q.S1.a"
unfolding digits
taken_id = refl

taken_read : message_read (answered running) ≡ Ok taken
unfolding digits document_form jmf_form is_response
taken_read = refl

refusal_read : message_read (answered (refused 17 1)) ≡ Ok (record taken { body = bodies.Answer Submit 1 (Err 17) })
unfolding digits document_form jmf_form is_response
refusal_read = refl

-- ---- answers that no message gives

refusal_without_reason : message_read (answered (refused 0 1)) ≡ Err WrongMessage
unfolding digits document_form jmf_form is_response
refusal_without_reason = refl

reason_of_four_digits : message_read (answered (refused 1000 1)) ≡ Err WrongMessage
unfolding digits document_form jmf_form is_response
reason_of_four_digits = refl

refusal_with_code_of_success : message_read (answered (refused 17 0)) ≡ Err WrongMessage
unfolding digits document_form jmf_form is_response
refusal_with_code_of_success = refl

success_with_reason : message_read (answered (success (codes "Q.S1") (codes "S1") 1 (codes "SubmitQueueEntry"))) ≡ Err WrongMessage
unfolding digits document_form jmf_form is_response
success_with_reason = refl

entry_of_another_spawn : message_read (answered (success (codes "Q.S1") (codes "S2") 0 (codes "SubmitQueueEntry"))) ≡ Err WrongMessage
unfolding digits document_form jmf_form is_response
entry_of_another_spawn = refl

reference_to_another_spawn : message_read (answered (success (codes "Q.S2") (codes "S1") 0 (codes "SubmitQueueEntry"))) ≡ Err WrongMessage
unfolding digits document_form jmf_form is_response
reference_to_another_spawn = refl

reference_to_no_spawn : message_read (answered (success (codes "Q.S0") (codes "S0") 0 (codes "SubmitQueueEntry"))) ≡ Err WrongMessage
unfolding digits document_form jmf_form is_response
reference_to_no_spawn = refl

reference_of_the_other_type : message_read (answered (success (codes "Q.S1") (codes "S1") 0 (codes "ReturnQueueEntry"))) ≡ Err WrongMessage
unfolding digits document_form jmf_form is_response
reference_of_the_other_type = refl

response_that_is_no_object : message_read (answered (string (codes "Q.S1"))) ≡ Err NotProfile
unfolding document_form jmf_form is_response
response_that_is_no_object = refl
