-- The definitions, computed on a command to give a part up, and on its answer.
use Rattle.std.proofs.Common.{◌≡◌, ℕ, List, Ok, Err, refl}
use Rattle.std.specs.Fmt.{digits}
use Rattle.std.specs.Prelude.{codes}
use Rattle.serde_json.specs.Data.{Data, Members, no_members, member, null, unsigned, number, string, object}
use Rattle.ticket_items.specs.declared.refusal.Refusal.TheVariants.{NotProfile, WrongMessage}
use Rattle.jmf_message.specs.Decoded.{message_read}
use Rattle.jmf_message.specs.Form.{document_form, is_command, is_response, jmf_form}
use Rattle.controller.specs.Words.{message_id}
use Rattle.jmf_message.specs.Written.{message_data}
use Rattle.controller.specs.declared.body.Body.TheVariants as bodies
use Rattle.controller.specs.declared.command.Command.TheVariants.{Abort}
use Rattle.controller.specs.declared.message.Message.{Message}

-- ---- the command of mis to press

abbrev asked : Message
asked = record { sender = codes "mis"; receiver = codes "press"; at = 100; body = bodies.Abort 1 }

-- what stands behind the command in JMF
abbrev to_press : Members
to_press =
    member (codes "ReceiverID") (string (codes "press")) (member (codes "SenderID") (string (codes "mis"))
    (member (codes "TimeStamp") (number (unsigned 100)) (member (codes "Version") (string (codes "1.5")) no_members)))

abbrev jmf : Data → Data
jmf command = object (member (codes "Command") command to_press)

abbrev alone : Data → Data
alone command = object (member (codes "JMF") (jmf command) no_members)

abbrev named : List ℕ → Data
named entry = object (member (codes "QueueEntryID") (string entry) no_members)

abbrev abort : List ℕ → List ℕ → Data
abort id entry =
    object (member (codes "AbortQueueEntryParams") (named entry) (member (codes "ID") (string id) (member (codes "Type") (string (codes "AbortQueueEntry")) no_members)))

asked_written : message_data asked ≡ alone (abort (codes "A.S1") (codes "S1"))
unfolding digits
asked_written = refl

asked_id : message_id asked.body ≡ codes "A.S1"
unfolding digits
asked_id = refl

asked_read : message_read (message_data asked) ≡ Ok asked
unfolding digits document_form jmf_form is_command
asked_read = refl

id_of_another_spawn : message_read (alone (abort (codes "A.S2") (codes "S1"))) ≡ Err WrongMessage
unfolding digits document_form jmf_form is_command
id_of_another_spawn = refl

-- whatever stands as a part beside it
beside_a_part : message_read (object (member (codes "JDF") null (member (codes "JMF") (jmf (abort (codes "A.S1") (codes "S1"))) no_members))) ≡ Err NotProfile
unfolding document_form jmf_form is_command
beside_a_part = refl

-- the params of two commands
two_params : message_read (alone (object (member (codes "AbortQueueEntryParams") (named (codes "S1")) (member (codes "ID") (string (codes "A.S1")) (member (codes "ReturnQueueEntryParams") null (member (codes "Type") (string (codes "AbortQueueEntry")) no_members)))))) ≡ Err NotProfile
unfolding document_form jmf_form is_command
two_params = refl

-- ---- the answer of press, which declines

abbrev declined : Message
declined = record { sender = codes "press"; receiver = codes "mis"; at = 120; body = bodies.Answer Abort 1 (Err 38) }

abbrev from_press : Members
from_press = member (codes "SenderID") (string (codes "press")) (member (codes "TimeStamp") (number (unsigned 120)) (member (codes "Version") (string (codes "1.5")) no_members))

abbrev response : ℕ → Data
response reason =
    object (member (codes "ID") (string (codes "A.S1.a")) (member (codes "Reason") (number (unsigned reason))
    (member (codes "ReturnCode") (number (unsigned 1)) (member (codes "Type") (string (codes "AbortQueueEntry")) (member (codes "refID") (string (codes "A.S1")) no_members)))))

abbrev refused : ℕ → Data
refused reason = object (member (codes "JMF") (object (member (codes "ReceiverID") (string (codes "mis")) (member (codes "Response") (response reason) from_press))) no_members)

declined_written : message_data declined ≡ refused 38
unfolding digits
declined_written = refl

declined_read : message_read (refused 38) ≡ Ok declined
unfolding digits document_form jmf_form is_response
declined_read = refl
