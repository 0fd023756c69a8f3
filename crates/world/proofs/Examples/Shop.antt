-- The definitions computed on a small shop: a product whose printing takes paper and makes sheets, and whose cutting takes the sheets; a master, a press and a bindery.
use Rattle.std.proofs.Common.{◌≡◌, ℕ, true, false, List, [], ◌∷◌, Some, None, refl}
use Rattle.std.specs.Option.{option_map}
use Rattle.std.specs.Prelude.{codes}
use Rattle.ticket_rows.specs.Ticket.{Job}
use Rattle.ticket_items.specs.declared.edit.Edit.TheVariants.{SetStatus, SetResStatus}
use Rattle.ticket_items.specs.declared.link.Link.{Link}
use Rattle.ticket_items.specs.declared.node_row.NodeRow.{NodeRow}
use Rattle.ticket_items.specs.declared.refusal.Refusal.TheVariants.{Acknowledged, IsRoot, NotHeld, NotLinked, NotOpen, NotOut, UnknownEntry, UnknownWorker}
use Rattle.ticket_items.specs.declared.resource.Resource.{Resource}
use Rattle.ticket_items.specs.declared.usage.Usage.TheVariants.{Input, Output}
use Rattle.world_items.specs.declared.reply.Reply.TheVariants as reply
use Rattle.master_core.specs.Master.{may_change}
use Rattle.world_items.specs.declared.master_order.Order.TheVariants as master
use Rattle.worker_core.specs.Worker as worker
use Rattle.world_items.specs.declared.end.End.TheVariants.{Completed}
use Rattle.world_items.specs.declared.worker_order.Order.{Order}
use Rattle.world_items.specs.declared.worker_order.Order.TheVariants as worker_order
use Rattle.worker_core.specs.declared.stage.Stage.TheVariants as stage
use Rattle.world.specs.Happening.{after_all, answers_to}
use Rattle.world.specs.State.{State, opening, worker_of}
use Rattle.world_items.specs.declared.answer.Answer.{Answer}
use Rattle.world_items.specs.declared.event.Event.{Event}
use Rattle.world_items.specs.declared.stop.Stop.{Stop}
use Rattle.world_items.specs.declared.stop.Stop.TheVariants.{Run, BeforeSave, BeforeSend}
use Rattle.world_items.specs.declared.what.What.{What}
use Rattle.world_items.specs.declared.what.What.TheVariants.{MasterOrder, WorkerOrder, Deliver, Restart}
use Rattle.world_items.specs.declared.word.Word.{Word}
use Rattle.world_items.specs.declared.word.Word.TheVariants.{Did, Refused, Stopped, Restarted, NoMessage}

abbrev paper : Resource
paper = record { id = codes "r1"; name = codes "Media"; class = codes "Consumable"; status = codes "Available"; attrs = [] }

abbrev sheets : Resource
sheets = record { id = codes "r2"; name = codes "Component"; class = codes "Quantity"; status = codes "Unavailable"; attrs = [] }

abbrev node : List ℕ → ℕ → List ℕ → List ℕ → List Resource → List Link → NodeRow
node id depth kind job_part pool links =
    record { id = id; depth = depth; kind = kind; job_part = job_part; status = codes "Waiting"; attrs = []; resources = pool; links = links; audits = [] }

abbrev printing_links : List Link
printing_links = record { rref = codes "r1"; usage = Input } ∷ record { rref = codes "r2"; usage = Output } ∷ []

abbrev pub job : Job
job =
    record {
      job_id = codes "J1";
      rows = node (codes "n0") 1 (codes "Product") (codes "p0") (paper ∷ sheets ∷ []) []
          ∷ node (codes "n1") 2 (codes "ConventionalPrinting") (codes "p1") [] printing_links
          ∷ node (codes "n2") 2 (codes "Cutting") (codes "p2") [] (record { rref = codes "r2"; usage = Input } ∷ []) ∷ [];
    }

abbrev pub shop : State
shop = opening (codes "mis") (codes "press" ∷ codes "bind" ∷ []) job

-- ---- events and answers

abbrev pub event : What → ℕ → Stop → Event
event what at stop = record { what = what; at = at; stop = stop }

abbrev pub print_at : ℕ → Stop → Event
print_at at stop = event (MasterOrder (master.Spawn (codes "n1") (codes "press") (codes "r2" ∷ []))) at stop

abbrev pub deliver : ℕ → ℕ → Event
deliver k at = event (Deliver k) at Run

abbrev pub press : Order → ℕ → Event
press o at = event (WorkerOrder (codes "press") o) at Run

abbrev pub sends : Word → ℕ → Answer
sends word k = record { word = word; number = Some k }

abbrev pub says : Word → Answer
says word = record { word = word; number = None }

-- ---- repeats

-- a part goes out and comes back, and each message comes again
abbrev pub once_and_again : List Event
once_and_again =
    print_at 100 Run ∷ deliver 1 110 ∷ deliver 1 111 ∷ press (worker_order.Finish 1 Completed) 120 ∷ deliver 4 130 ∷ deliver 1 140 ∷ deliver 5 150 ∷ deliver 2 160
    ∷ press (worker_order.Edit 1 (SetStatus (codes "n1") (codes "Waiting"))) 170 ∷ []

repeats : answers_to once_and_again shop
    ≡ sends (Did (reply.Spawned 1)) 1 ∷ sends (Did (reply.Taken 1)) 2 ∷ sends (Did (reply.Again 1)) 3 ∷ sends (Did (reply.Finished 1)) 4 ∷ sends (Did (reply.Merged 1)) 5 ∷ sends (Did (reply.Again 1)) 6 ∷ says (Did (reply.Acked 1)) ∷ says (Did (reply.Noted 1))
    ∷ says (Refused NotOpen) ∷ []
repeats = refl

-- the master may change the node then, and the press may not
abbrev at_the_end : State
at_the_end = after_all once_and_again shop

master_may : may_change at_the_end.controllers.master (codes "n1") ≡ true
master_may = refl

press_may : option_map (λ (w : worker.State). worker.may_change w.entries 1 (codes "n1")) (worker_of at_the_end.controllers.workers (codes "press")) ≡ Some false
press_may = refl

-- and has given up its part, whatever comes then
press_entries : option_map (λ (w : worker.State). w.entries) (worker_of at_the_end.controllers.workers (codes "press"))
    ≡ Some (record { spawn_id = 1; phase = stage.Closed Completed; part = None; at = 120 } ∷ [])
press_entries = refl

abbrev pub given_up : List Event
given_up = press (worker_order.Resend 1) 180 ∷ deliver 5 190 ∷ deliver 1 200 ∷ deliver 4 210 ∷ []

after_that : answers_to given_up at_the_end
    ≡ says (Refused Acknowledged) ∷ says (Did (reply.Acked 1)) ∷ sends (Did (reply.Again 1)) 7 ∷ sends (Did (reply.Already 1)) 8 ∷ []
after_that = refl

-- ---- two spawns

-- the part of the second comes back first
two : answers_to
    (print_at 100 Run ∷ event (MasterOrder (master.Spawn (codes "n2") (codes "bind") [])) 101 Run ∷ deliver 1 110 ∷ deliver 2 111 ∷ press (worker_order.Edit 1 (SetResStatus (codes "r2") (codes "Available"))) 120
    ∷ event (WorkerOrder (codes "bind") (worker_order.Finish 2 Completed)) 130 Run ∷ deliver 5 131 ∷ press (worker_order.Finish 1 Completed) 140 ∷ deliver 7 141 ∷ []) shop
    ≡ sends (Did (reply.Spawned 1)) 1 ∷ sends (Did (reply.Spawned 2)) 2 ∷ sends (Did (reply.Taken 1)) 3 ∷ sends (Did (reply.Taken 2)) 4 ∷ says (Did reply.Edited) ∷ sends (Did (reply.Finished 2)) 5 ∷ sends (Did (reply.Merged 2)) 6
    ∷ sends (Did (reply.Finished 1)) 7 ∷ sends (Did (reply.Merged 1)) 8 ∷ []
two = refl

-- ---- refusals

refusals : answers_to
    (event (MasterOrder (master.Spawn (codes "n0") (codes "press") [])) 100 Run ∷ event (MasterOrder (master.Spawn (codes "n2") (codes "bind") (codes "r1" ∷ []))) 100 Run ∷ print_at 100 Run ∷ print_at 101 Run
    ∷ event (MasterOrder (master.Spawn (codes "n2") (codes "bind") (codes "r2" ∷ []))) 102 Run ∷ event (MasterOrder (master.Spawn (codes "n2") (codes "fold") [])) 103 Run ∷ event (MasterOrder (master.Resend 7)) 104 Run
    ∷ event (MasterOrder (master.Edit (SetResStatus (codes "r2") (codes "InUse")))) 105 Run ∷ press (worker_order.Resend 1) 106 ∷ []) shop
    ≡ says (Refused IsRoot) ∷ says (Refused NotLinked) ∷ sends (Did (reply.Spawned 1)) 1 ∷ says (Refused (NotHeld 1)) ∷ says (Refused (NotHeld 1)) ∷ says (Refused UnknownWorker) ∷ says (Refused NotOut) ∷ says (Refused (NotHeld 1))
    ∷ says (Refused UnknownEntry) ∷ []
refusals = refl

-- ---- stops and restarts

-- a step that is lost
lost_step : answers_to (print_at 100 BeforeSave ∷ deliver 1 101 ∷ print_at 102 Run ∷ event (Restart (codes "mis")) 103 Run ∷ print_at 104 Run ∷ []) shop
    ≡ says Stopped ∷ says NoMessage ∷ sends (Did (reply.Spawned 1)) 1 ∷ says Restarted ∷ says (Refused (NotHeld 1)) ∷ []
lost_step = refl

-- a message that is lost, and sent again
lost_message : answers_to
    (print_at 100 BeforeSend ∷ event (MasterOrder (master.Resend 1)) 101 Run ∷ event (MasterOrder (master.Resend 1)) 102 Run ∷ deliver 1 103 ∷ deliver 2 104 ∷ event (Restart (codes "press")) 105 Run ∷ deliver 1 106 ∷ []) shop
    ≡ says (Did (reply.Spawned 1)) ∷ sends (Did (reply.Sent 1)) 1 ∷ sends (Did (reply.Sent 1)) 2 ∷ sends (Did (reply.Taken 1)) 3 ∷ sends (Did (reply.Again 1)) 4 ∷ says Restarted ∷ sends (Did (reply.Again 1)) 5 ∷ []
lost_message = refl

-- a part that comes back is put in once, also where the first time was lost
one_merge : answers_to
    (print_at 100 Run ∷ deliver 1 110 ∷ press (worker_order.Finish 1 Completed) 120 ∷ event (Deliver 3) 130 BeforeSave ∷ deliver 3 131 ∷ deliver 3 132 ∷ deliver 3 133 ∷ press (worker_order.Resend 1) 134 ∷ []) shop
    ≡ sends (Did (reply.Spawned 1)) 1 ∷ sends (Did (reply.Taken 1)) 2 ∷ sends (Did (reply.Finished 1)) 3 ∷ says Stopped ∷ sends (Did (reply.Merged 1)) 4 ∷ sends (Did (reply.Already 1)) 5 ∷ sends (Did (reply.Already 1)) 6 ∷ sends (Did (reply.Sent 1)) 7 ∷ []
one_merge = refl

-- names that no controller has, and the message of number 0
nobody : answers_to
    (print_at 100 BeforeSend ∷ deliver 1 101 ∷ event (MasterOrder (master.Resend 1)) 102 Run ∷ deliver 1 103 ∷ event (Restart (codes "fold")) 104 BeforeSave ∷ event (WorkerOrder (codes "mis") (worker_order.Resend 1)) 105 BeforeSave
    ∷ event (Deliver 0) 106 BeforeSave ∷ []) shop
    ≡ says (Did (reply.Spawned 1)) ∷ says NoMessage ∷ sends (Did (reply.Sent 1)) 1 ∷ sends (Did (reply.Taken 1)) 2 ∷ says (Refused UnknownWorker) ∷ says (Refused UnknownWorker) ∷ says NoMessage ∷ []
nobody = refl
