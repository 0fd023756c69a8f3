-- A message that is written is read again.
use Rattle.std.proofs.Common.{◌≡◌, ℕ, ◌==◌, Bool, true, false, List, codes, Option, Some, None, Result, Ok, Err, refl, ap, ◌∙◌}
use Rattle.std.proofs.lemmas.Bool.{and_from}
use Rattle.std.proofs.lemmas.Bool.Decides.{Decides-eqb}
use Rattle.std.proofs.lemmas.Slice.Eq.{bytes_eq-Decides}
use Rattle.std.specs.Option.{option_and_then, option_map, option_map_or}
use Rattle.std.specs.Str.{bytes_eq}
use Rattle.serde_json.specs.Data.{Data, no_members, member, unsigned, number, string, object}
use Rattle.json_items.specs.Validation.{checked_value}
use Rattle.json_source.specs.Read.{◌>>=◌}
use Rattle.json_items.specs.PartDraft.{RawPart}
use Rattle.json_items.specs.PartForm.{part_of_raw}
use Rattle.json_text.specs.PartWritten.{part_data}
use Rattle.ticket_items.proofs.SpawnTexts.{spawn_of-spawn_text}
use Rattle.ticket_items.specs.Names.{is_name}
use Rattle.ticket_items.specs.SpawnId.{is_spawn_number}
use Rattle.ticket_items.specs.declared.refusal.Refusal.TheVariants.{NotProfile}
use Rattle.ticket_tree.specs.Part.{PartCopy}
use Rattle.controller.specs.Words.{may_be_sent, row_of, version}
use Rattle.controller.specs.declared.body.Body.{Body}
use Rattle.controller.specs.declared.body.Body.TheVariants as bodies
use Rattle.controller.specs.declared.command.Command.{Command}
use Rattle.controller.specs.declared.command.Command.TheVariants.{Submit, Return, Abort}
use Rattle.controller.specs.declared.message.Message.{Message}
use Rattle.controller.specs.declared.queue_status.QueueStatus.{QueueStatus}
use Rattle.controller.specs.declared.queue_status.QueueStatus.TheVariants.{Running, Completed, Aborted}
use Rattle.jmf_message.specs.Decoded.{body_of, body_with, body_with_part, draft_read, message_fault, message_read, message_saying, message_with}
use Rattle.jmf_message.specs.Form.{RawJmf, RawMessage, document_form, is_command, is_response, jmf_form, part_beside}
use Rattle.jmf_message.specs.Known.{IsKnown, IsWritten}
use Rattle.jmf_message.specs.Family.{can_be_sent, command_in, command_in_params, confirmed_command, confirmed_family, confirmed_response, response_in, says}
use Rattle.jmf_message.specs.Written.{command_data, family_of, jmf_data, message_data, put_said, response_data, said_data, spawn_said}
use Rattle.jmf_message.specs.declared.family.Family.{Family}
use Rattle.jmf_message.specs.declared.family.Family.TheVariants as said
use Rattle.jmf_message.proofs.PartRead.{IsReadOf, no_fault-back, read_of}
use Rattle.jmf_message.proofs.Saying.{passed}

bytes_eq-same : (xs : List ℕ) → bytes_eq xs xs ≡ true
bytes_eq-same xs = (bytes_eq-Decides xs xs).1 refl

nat_eq-same : (n : ℕ) → (n == n) ≡ true
nat_eq-same n = (Decides-eqb n n).1 refl

-- ---- what is said

is_itself : (sender : List ℕ) (s : Family) → says (said_data sender s) (said_data sender s) ≡ true
is_itself sender (said.Command Submit n) = simp bytes_eq-same
is_itself sender (said.Command Return n) = simp bytes_eq-same
is_itself sender (said.Command Abort n) = simp bytes_eq-same
is_itself sender (said.Answer asked n (Ok status)) = simp bytes_eq-same
is_itself sender (said.Answer asked n (Err reason)) = simp (bytes_eq-same, nat_eq-same)

confirmed_again : (sender : List ℕ) (s : Family) (found : Option Family) → found ≡ Some s → option_and_then (confirmed_family sender (said_data sender s)) found ≡ Some s
confirmed_again sender s found is = ap (option_and_then (confirmed_family sender (said_data sender s))) is ∙ passed _ _ (is_itself sender s)

-- ---- commands

asked_again : (sender : List ℕ) (asked : Command) (n : ℕ) → is_spawn_number n ≡ true → command_in_params asked (command_data sender asked n) ≡ Some (said.Command asked n)
asked_again sender Submit n valid = ap (option_map (said.Command Submit)) (spawn_of-spawn_text n valid)
asked_again sender Return n valid = ap (option_map (said.Command Return)) (spawn_of-spawn_text n valid)
asked_again sender Abort n valid = ap (option_map (said.Command Abort)) (spawn_of-spawn_text n valid)

command_again : (sender : List ℕ) (asked : Command) (n : ℕ) → is_spawn_number n ≡ true → confirmed_command sender asked (command_data sender asked n) ≡ Some (said.Command asked n)
command_again sender asked n valid = confirmed_again sender (said.Command asked n) _ (asked_again sender asked n valid)

-- ---- responses

-- the command and the spawn
answered_again : (asked : Command) (n : ℕ) (told : Result QueueStatus ℕ) → is_spawn_number n ≡ true → command_in (response_data asked n told) ≡ Some (asked, n)
answered_again Submit n (Ok status) valid = ap (λ o. o >>= λ s. Some (Submit, s)) (spawn_of-spawn_text n valid)
answered_again Submit n (Err reason) valid = ap (λ o. o >>= λ s. Some (Submit, s)) (spawn_of-spawn_text n valid)
answered_again Return n (Ok status) valid = ap (λ o. o >>= λ s. Some (Return, s)) (spawn_of-spawn_text n valid)
answered_again Return n (Err reason) valid = ap (λ o. o >>= λ s. Some (Return, s)) (spawn_of-spawn_text n valid)
answered_again Abort n (Ok status) valid = ap (λ o. o >>= λ s. Some (Abort, s)) (spawn_of-spawn_text n valid)
answered_again Abort n (Err reason) valid = ap (λ o. o >>= λ s. Some (Abort, s)) (spawn_of-spawn_text n valid)

-- the result
told_again : (asked : Command) (n : ℕ) (told : Result QueueStatus ℕ) → can_be_sent (said.Answer asked n told) ≡ true → response_in (response_data asked n told) ≡ Some told
told_again asked n (Ok Running) may = refl
told_again asked n (Ok Completed) may = refl
told_again asked n (Ok Aborted) may = refl
told_again asked n (Err reason) may = passed _ _ may

abbrev answer_at : Option (Command × ℕ) → Option (Result QueueStatus ℕ) → Option Family
answer_at answered told = answered >>= λ a. told >>= λ t. Some (said.Answer a.0 a.1 t)

response_again : (sender : List ℕ) (asked : Command) (n : ℕ) (told : Result QueueStatus ℕ) → is_spawn_number n ≡ true → can_be_sent (said.Answer asked n told) ≡ true → confirmed_response sender (response_data asked n told) ≡ Some (said.Answer asked n told)
response_again sender asked n told valid may =
    let d = response_data asked n told in
    confirmed_again sender (said.Answer asked n told) _ (ap (λ o. answer_at o (response_in d)) (answered_again asked n told valid) ∙ ap (answer_at (Some (asked, n))) (told_again asked n told may))

-- ---- JMF objects

abbrev takes_part : Family → Bool
takes_part (said.Command asked spawn) = (row_of asked).has_part
takes_part (said.Answer asked spawn told) = false

abbrev jmf_with : Message → Bool → Option Family → RawJmf
jmf_with m goes found = record { receiver = m.receiver; sender = m.sender; at = m.at; version = version; has_part = goes; said = found }

abbrev jmf_for : Message → RawJmf
jmf_for m = jmf_with m (takes_part (family_of m.body)) (Some (family_of m.body))

-- the JMF object with what is said
abbrev data_saying : Message → Family → Data
data_saying m s =
    object (put_said m.sender s
    (member (codes "ReceiverID") (string m.receiver)
    (member (codes "SenderID") (string m.sender)
    (member (codes "TimeStamp") (number (unsigned m.at))
    (member (codes "Version") (string version) no_members)))))

jmf_saying : (m : Message) (s : Family) → is_spawn_number (spawn_said s) ≡ true → can_be_sent s ≡ true → jmf_form (data_saying m s) ≡ Some (jmf_with m (takes_part s) (Some s))
unfolding jmf_form is_command is_response
jmf_saying m (said.Command Submit n) valid may = ap (λ o. Some (jmf_with m true o)) (command_again m.sender Submit n valid)
jmf_saying m (said.Command Return n) valid may = ap (λ o. Some (jmf_with m true o)) (command_again m.sender Return n valid)
jmf_saying m (said.Command Abort n) valid may = ap (λ o. Some (jmf_with m false o)) (command_again m.sender Abort n valid)
jmf_saying m (said.Answer asked n (Ok status)) valid may = ap (λ o. Some (jmf_with m false o)) (response_again m.sender asked n (Ok status) valid may)
jmf_saying m (said.Answer asked n (Err reason)) valid may = ap (λ o. Some (jmf_with m false o)) (response_again m.sender asked n (Err reason) valid may)

jmf_again : (m : Message) → is_spawn_number (spawn_said (family_of m.body)) ≡ true → can_be_sent (family_of m.body) ≡ true → jmf_form (jmf_data m) ≡ Some (jmf_for m)
jmf_again m valid may = jmf_saying m (family_of m.body) valid may

-- ---- documents

abbrev raw_for : Message → Option RawPart → RawMessage
raw_for m part = record { jmf = jmf_for m; part = part }

abbrev document_at : Option Data → Option RawJmf → Option RawMessage
document_at part found = found >>= λ jmf. part_beside jmf.has_part part >>= λ p. Some (record { jmf = jmf; part = p })

-- a document that says what it may, and in which nothing is wrong
read_so : (m : Message) (part : Option RawPart) (b : Body) → document_form (message_data m) ≡ Some (raw_for m part) → body_of (raw_for m part) ≡ Some b → message_fault (raw_for m part) ≡ None → message_with (raw_for m part) b ≡ m
    → message_read (message_data m) ≡ Ok m
read_so m part b document says fault same =
    let raw = raw_for m part in
    ap (λ o. option_map_or draft_read o (Err NotProfile)) document ∙ ap (message_saying raw) says ∙ ap (λ f. checked_value f (message_with raw b)) fault ∙ ap Ok same

-- ---- messages without a part

no_fault_alone : (m : Message) → is_name m.sender ≡ true → is_name m.receiver ≡ true → message_fault (raw_for m None) ≡ None
no_fault_alone m sender receiver = no_fault-back _ _ _ (record { names = and_from _ _ (and_from _ _ sender receiver) refl; texts = refl; built = refl })

abort_read : (m : Message) (n : ℕ) → is_name m.sender ≡ true → is_name m.receiver ≡ true → is_spawn_number n ≡ true
    → message_read (message_data (record m { body = bodies.Abort n })) ≡ Ok (record m { body = bodies.Abort n })
unfolding document_form
abort_read m n sender receiver valid =
    let whole = record m { body = bodies.Abort n } in
    read_so whole None (bodies.Abort n) (ap (document_at None) (jmf_again whole valid refl)) refl (no_fault_alone whole sender receiver) refl

answer_read : (m : Message) (asked : Command) (n : ℕ) (told : Result QueueStatus ℕ) → is_name m.sender ≡ true → is_name m.receiver ≡ true → is_spawn_number n ≡ true
    → may_be_sent (bodies.Answer asked n told) ≡ true
    → message_read (message_data (record m { body = bodies.Answer asked n told })) ≡ Ok (record m { body = bodies.Answer asked n told })
unfolding document_form
answer_read m asked n told sender receiver valid may =
    let whole = record m { body = bodies.Answer asked n told } in
    read_so whole None (bodies.Answer asked n told) (ap (document_at None) (jmf_again whole valid may)) refl (no_fault_alone whole sender receiver) refl

-- ---- and with one

no_fault_beside : (m : Message) (p : PartCopy) (found : IsReadOf (part_data p) p) → is_name m.sender ≡ true → is_name m.receiver ≡ true → message_fault (raw_for m (Some found.raw)) ≡ None
no_fault_beside m p found sender receiver =
    no_fault-back _ _ _ (record { names = and_from _ _ (and_from _ _ sender receiver) found.faultless.names; texts = found.faultless.texts; built = found.faultless.built })

-- the part is that of the spawn
beside : (p : PartCopy) (found : IsReadOf (part_data p) p) (asked : Command) → body_with_part found.raw (said.Command asked p.spawn_id) ≡ Some (body_with asked (part_of_raw found.raw))
beside p found asked = ap (option_map (λ a. body_with a (part_of_raw found.raw))) (passed _ asked (ap (λ q. q.spawn_id == p.spawn_id) found.same ∙ nat_eq-same p.spawn_id))

submit_read : (m : Message) (p : PartCopy) → is_name m.sender ≡ true → is_name m.receiver ≡ true → is_spawn_number p.spawn_id ≡ true → IsWritten p
    → message_read (message_data (record m { body = bodies.Submit p })) ≡ Ok (record m { body = bodies.Submit p })
unfolding document_form
submit_read m p sender receiver valid written =
    let found = read_of (part_data p) p written.again in
    let whole = record m { body = bodies.Submit p } in
    let b = bodies.Submit (part_of_raw found.raw) in
    let document = ap (document_at (Some (part_data p))) (jmf_again whole valid refl) ∙ ap (λ o. option_map Some o >>= λ part. Some (raw_for whole part)) found.drafted in
    read_so whole (Some found.raw) b document (beside p found Submit) (no_fault_beside whole p found sender receiver) (ap (λ q. record m { body = bodies.Submit q }) found.same)

return_read : (m : Message) (p : PartCopy) → is_name m.sender ≡ true → is_name m.receiver ≡ true → is_spawn_number p.spawn_id ≡ true → IsWritten p
    → message_read (message_data (record m { body = bodies.Return p })) ≡ Ok (record m { body = bodies.Return p })
unfolding document_form
return_read m p sender receiver valid written =
    let found = read_of (part_data p) p written.again in
    let whole = record m { body = bodies.Return p } in
    let b = bodies.Return (part_of_raw found.raw) in
    let document = ap (document_at (Some (part_data p))) (jmf_again whole valid refl) ∙ ap (λ o. option_map Some o >>= λ part. Some (raw_for whole part)) found.drafted in
    read_so whole (Some found.raw) b document (beside p found Return) (no_fault_beside whole p found sender receiver) (ap (λ q. record m { body = bodies.Return q }) found.same)

again_at : (m : Message) (b : Body) → is_name m.sender ≡ true → is_name m.receiver ≡ true → is_spawn_number (spawn_said (family_of b)) ≡ true → IsKnown b → may_be_sent b ≡ true
    → message_read (message_data (record m { body = b })) ≡ Ok (record m { body = b })
again_at m (bodies.Submit p) sender receiver valid known may = submit_read m p sender receiver valid known
again_at m (bodies.Return p) sender receiver valid known may = return_read m p sender receiver valid known
again_at m (bodies.Abort n) sender receiver valid known may = abort_read m n sender receiver valid
again_at m (bodies.Answer asked n told) sender receiver valid known may = answer_read m asked n told sender receiver valid may

pub message_again : (m : Message) → is_name m.sender ≡ true → is_name m.receiver ≡ true → is_spawn_number (spawn_said (family_of m.body)) ≡ true → IsKnown m.body → may_be_sent m.body ≡ true → message_read (message_data m) ≡ Ok m
message_again m sender receiver valid known may = again_at m m.body sender receiver valid known may
