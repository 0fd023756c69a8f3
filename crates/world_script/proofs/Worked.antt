-- The definitions computed on small answers and scripts.
use Rattle.std.proofs.Common.{◌≡◌, ℕ, List, [], ◌∷◌, ◌++◌, Option, Some, None, Result, Ok, Err}
use Rattle.std.proofs.Common.{refl}
use Rattle.std.specs.Fmt.{digits}
use Rattle.std.specs.Option.{option_map}
use Rattle.std.specs.Prelude.{codes, replicate}
use Rattle.serde_json.proofs.OnLiterals.{serde_json_on_literals}
use Rattle.serde_json.specs.Read.{read}
use Rattle.ticket_items.specs.declared.node_row.NodeRow.{NodeRow}
use Rattle.ticket_items.specs.declared.refusal.Refusal.{Refusal}
use Rattle.ticket_items.specs.declared.refusal.Refusal.TheVariants.{BadId, BadText, DuplicateId}
use Rattle.ticket_items.specs.declared.refusal.Refusal.TheVariants.{NotHeld, NotProfile, SameName}
use Rattle.ticket_items.specs.declared.refusal.Refusal.TheVariants.{ReservedStatus, UnknownWorker}
use Rattle.json_items.specs.TicketDraft.{own_row, ticket_form}
use Rattle.controller_form.specs.Openings.ShopForm.{shop_form}
use Rattle.json_items.specs.TicketForm.{node_has_names, pools_have_names, row_has_texts}
use Rattle.json_items.specs.Edits.{adding_form, edit_form, note_form}
use Rattle.world_items.specs.declared.reply.Reply.TheVariants as reply
use Rattle.world_items.specs.declared.master_order.Order.TheVariants as master
use Rattle.world_items.specs.declared.worker_order.Order.TheVariants as worker
use Rattle.controller_form.specs.Orders.MasterForm as master_form
use Rattle.controller_form.specs.Orders.KnownSpawn.{known_form}
use Rattle.controller_form.specs.Orders.WorkerForm as worker_form
use Rattle.world_items.specs.declared.answer.Answer.{Answer}
use Rattle.world_items.specs.declared.event.Event.{Event}
use Rattle.world_items.specs.declared.stop.Stop.{Stop}
use Rattle.world_items.specs.declared.stop.Stop.TheVariants.{Run, BeforeSave, BeforeSend}
use Rattle.world_items.specs.declared.what.What.{What}
use Rattle.world_items.specs.declared.what.What.TheVariants.{MasterOrder, WorkerOrder, Deliver, Restart}
use Rattle.world_items.specs.declared.word.Word.{Word}
use Rattle.world_items.specs.declared.word.Word.TheVariants.{Did, Refused, Stopped, Restarted, NoMessage}
use Rattle.world_script.specs.AnswerText.{answer_text}
use Rattle.world_script.specs.EventForm.{event_form, what_form, order_form}
use Rattle.world_script.specs.EventForm.{deliver_form, restart_form}
use Rattle.world_script.specs.Script.{script_form, script_read}
use Rattle.world_script.specs.declared.script.Script.{Script}

-- ---- answers

abbrev sends : Word → ℕ → Answer
sends word k = record { word = word; number = Some k }

abbrev says : Word → Answer
says word = record { word = word; number = None }

spawned : answer_text (sends (Did (reply.Spawned 1)) 1) ≡ codes "Spawned S1 #1"
unfolding digits
spawned = refl

taken : answer_text (sends (Did (reply.Taken 12)) 10) ≡ codes "Taken S12 #10"
unfolding digits
taken = refl

acked : answer_text (says (Did (reply.Acked 1))) ≡ codes "Acked S1"
unfolding digits
acked = refl

asked : answer_text (sends (Did (reply.Asked 1)) 2) ≡ codes "Asked S1 #2"
unfolding digits
asked = refl

declined : answer_text (sends (Did (reply.Declined 1)) 3) ≡ codes "Declined S1 #3"
unfolding digits
declined = refl

ended : answer_text (sends (Did (reply.Ended 1)) 4) ≡ codes "Ended S1 #4"
unfolding digits
ended = refl

freed : answer_text (says (Did (reply.Freed 1))) ≡ codes "Freed S1"
unfolding digits
freed = refl

edited : answer_text (says (Did reply.Edited)) ≡ codes "Edited"
edited = refl

not_held : answer_text (says (Refused (NotHeld 1))) ≡ codes "Refused 12 NotHeld S1"
unfolding digits
not_held = refl

unknown_worker : answer_text (says (Refused UnknownWorker)) ≡ codes "Refused 15 UnknownWorker"
unfolding digits
unknown_worker = refl

-- a refusal that is answered by a message
refusal_sent : answer_text (sends (Refused DuplicateId) 3) ≡ codes "Refused 2 DuplicateId #3"
unfolding digits
refusal_sent = refl

stopped : answer_text (says Stopped) ≡ codes "Stopped"
stopped = refl

restarted : answer_text (says Restarted) ≡ codes "Restarted"
restarted = refl

no_message : answer_text (says NoMessage) ≡ codes "NoMessage"
no_message = refl

-- ---- scripts

-- a script of a master `mis` and a ticket of one node at this Status
abbrev text_at : List ℕ → List ℕ → List ℕ → List ℕ
text_at status workers events =
    codes "{\"Events\":[" ++ events ++ codes "],\"Master\":\"mis\",\"Ticket\":{\"ID\":\"n0\","
    ++ codes "\"JobID\":\"J1\",\"JobPartID\":\"p0\",\"Status\":\"" ++ status
    ++ codes "\",\"Type\":\"Product\"},\"Workers\":[" ++ workers ++ codes "]}"

abbrev text : List ℕ → List ℕ → List ℕ
text workers events = text_at (codes "Waiting") workers events

abbrev product : NodeRow
product =
    record {
      id = codes "n0";
      depth = 1;
      kind = codes "Product";
      job_part = codes "p0";
      status = codes "Waiting";
      attrs = [];
      resources = [];
      links = [];
      audits = [];
    }

abbrev script : List (List ℕ) → List Event → Script
script workers events =
    record {
      master = codes "mis";
      workers = workers;
      ticket = record { job_id = codes "J1"; rows = product ∷ [] };
      events = events;
    }

abbrev event : What → ℕ → Stop → Event
event what at stop = record { what = what; at = at; stop = stop }

-- what a text is read as
abbrev read_as : List ℕ → Option (Result Script Refusal)
read_as bytes = option_map script_read (read bytes)

abbrev resend : List ℕ
resend =
    codes "{\"At\":1,\"Event\":\"Order\",\"Order\":{\"Order\":\"Resend\",\"SpawnID\":\"S1\"},"

abbrev press : List ℕ
press = codes "\"press\""

nothing_happens : read_as (text [] []) ≡ Some (Ok (script [] []))
unfolding serde_json_on_literals script_form shop_form ticket_form own_row node_has_names pools_have_names
    row_has_texts
nothing_happens = refl

-- the same order to the master and to a worker, and to one that the script doesn't name
order_to_each : read_as (text press (resend ++ codes "\"To\":\"mis\"},"
    ++ resend ++ codes "\"Stop\":\"BeforeSave\",\"To\":\"press\"},"
    ++ resend ++ codes "\"Stop\":\"Run\",\"To\":\"fold\"}"))
    ≡ Some (Ok (script (codes "press" ∷ [])
    (event (MasterOrder (master.Resend 1)) 1 Run
    ∷ event (WorkerOrder (codes "press") (worker.Resend 1)) 1 BeforeSave
    ∷ event (WorkerOrder (codes "fold") (worker.Resend 1)) 1 Run ∷ [])))
unfolding serde_json_on_literals script_form shop_form ticket_form own_row node_has_names pools_have_names
    row_has_texts event_form what_form order_form master_form.master_order_form
    known_form worker_form.worker_order_form
order_to_each = refl

-- a message that is delivered, and a restart
delivery_and_restart : read_as (text press
    (codes "{\"At\":0,\"Deliver\":18446744073709551615,\"Event\":\"Deliver\","
    ++ codes "\"Stop\":\"BeforeSend\"},"
    ++ codes "{\"At\":2,\"Event\":\"Restart\",\"To\":\"mis\"}"))
    ≡ Some (Ok (script (codes "press" ∷ [])
    (event (Deliver 18446744073709551615) 0 BeforeSend
    ∷ event (Restart (codes "mis")) 2 Run ∷ [])))
unfolding serde_json_on_literals script_form shop_form ticket_form own_row node_has_names pools_have_names
    row_has_texts event_form what_form deliver_form restart_form
delivery_and_restart = refl

-- ---- refusals

-- a member that an event doesn't have, and a word that none has
unknown_member : read_as (text press
    (codes "{\"At\":1,\"By\":\"mis\",\"Event\":\"Restart\",\"To\":\"mis\"}"))
    ≡ Some (Err NotProfile)
unfolding serde_json_on_literals script_form shop_form ticket_form own_row event_form what_form
    restart_form
unknown_member = refl

unknown_stop : read_as (text press
    (codes "{\"At\":1,\"Event\":\"Restart\",\"Stop\":\"run\",\"To\":\"mis\"}"))
    ≡ Some (Err NotProfile)
unfolding serde_json_on_literals script_form shop_form ticket_form own_row event_form
unknown_stop = refl

unknown_event : read_as (text press (codes "{\"At\":1,\"Event\":\"Stop\",\"To\":\"mis\"}"))
    ≡ Some (Err NotProfile)
unfolding serde_json_on_literals script_form shop_form ticket_form own_row event_form what_form
unknown_event = refl

-- a worker's order to the master
finish_to_master : read_as (text press
    (codes "{\"At\":1,\"Event\":\"Order\",\"Order\":{\"Order\":\"Finish\",\"SpawnID\":\"S1\","
    ++ codes "\"Status\":\"Completed\"},\"To\":\"mis\"}"))
    ≡ Some (Err NotProfile)
unfolding serde_json_on_literals script_form shop_form ticket_form own_row event_form what_form
    order_form master_form.master_order_form
finish_to_master = refl

-- a note of the master's node
abbrev note : List ℕ → List ℕ
note words =
    codes "{\"At\":1,\"Event\":\"Order\",\"Order\":{\"Edit\":{\"Edit\":\"Note\",\"Node\":\"n0\","
    ++ codes "\"Text\":\"" ++ words ++ codes "\"},\"Order\":\"Edit\"},\"To\":\"mis\"}"

-- a text of one byte too many
abbrev too_long : List ℕ
too_long = replicate 1025 97

long_note : read_as (text press (note too_long)) ≡ Some (Err BadText)
unfolding serde_json_on_literals script_form shop_form ticket_form own_row node_has_names pools_have_names
    row_has_texts event_form what_form order_form master_form.master_order_form
    master_form.edit_form edit_form adding_form note_form
long_note = refl

-- a name that is none comes before it, also behind it
name_before_text : read_as (text press
    (note too_long ++ codes ",{\"At\":2,\"Event\":\"Restart\",\"To\":\"0\"}"))
    ≡ Some (Err BadId)
unfolding serde_json_on_literals script_form shop_form ticket_form own_row node_has_names pools_have_names
    row_has_texts event_form what_form order_form restart_form
    master_form.master_order_form master_form.edit_form edit_form
    adding_form note_form
name_before_text = refl

-- a SpawnID that names no spawn
no_spawn : read_as (text press
    (codes "{\"At\":1,\"Event\":\"Order\",\"Order\":{\"Order\":\"Resend\",\"SpawnID\":\"S0\"},"
    ++ codes "\"To\":\"press\"}"))
    ≡ Some (Err BadId)
unfolding serde_json_on_literals script_form shop_form ticket_form own_row node_has_names pools_have_names
    row_has_texts event_form what_form order_form worker_form.worker_order_form
    known_form
no_spawn = refl

-- a worker of the master's name, and two of one name
worker_of_the_masters_name : read_as (text (codes "\"mis\"") []) ≡ Some (Err SameName)
unfolding serde_json_on_literals script_form shop_form ticket_form own_row node_has_names pools_have_names
    row_has_texts
worker_of_the_masters_name = refl

two_workers_of_one_name : read_as (text (press ++ codes "," ++ press) []) ≡ Some (Err SameName)
unfolding serde_json_on_literals script_form shop_form ticket_form own_row node_has_names pools_have_names
    row_has_texts
two_workers_of_one_name = refl

-- what is wrong with the ticket comes before it
status_before_name : read_as (text_at (codes "Spawned") (codes "\"mis\"") [])
    ≡ Some (Err ReservedStatus)
unfolding serde_json_on_literals script_form shop_form ticket_form own_row node_has_names pools_have_names
    row_has_texts
status_before_name = refl

-- no JSON
no_json : read_as (codes "{") ≡ None
unfolding serde_json_on_literals
no_json = refl
