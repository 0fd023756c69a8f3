-- Withdrawals computed on the small shop: of a part that the press hasn't taken, and of one that it works on. On the controllers and in the replay.
use Rattle.std.proofs.Common.{◌≡◌, ℕ, List, [], ◌∷◌, ◌++◌, Option, Some, None, refl}
use Rattle.std.specs.Option.{option_map}
use Rattle.std.specs.Prelude.{codes, map}
use Rattle.ticket_items.specs.SpawnId.{spawn_text}
use Rattle.ticket_items.specs.declared.audit.Audit.{Audit}
use Rattle.ticket_items.specs.declared.audit.Audit.TheVariants as audit
use Rattle.ticket_items.specs.declared.edit.Edit.TheVariants.{SetStatus}
use Rattle.ticket_items.specs.declared.refusal.Refusal.TheVariants.{NotHeld, NotOpen, NotOut, UnknownEntry}
use Rattle.ticket_rows.specs.Ticket.{row_of}
use Rattle.world_items.specs.declared.reply.Reply.TheVariants as reply
use Rattle.world_items.specs.declared.master_order.Order.TheVariants as master
use Rattle.worker_core.specs.Worker as worker_state
use Rattle.world_items.specs.declared.worker_order.Order.TheVariants as worker
use Rattle.worker_core.specs.declared.stage.Stage.TheVariants as stage
use Rattle.world.proofs.Examples.Shop.{deliver, event, job, press, print_at, says, sends, shop}
use Rattle.world.specs.Happening as world
use Rattle.plain_shop.specs.Replay.{TaggedShop, after_all, answers_to, opening}
use Rattle.plain_shop.specs.SeenTicket.{ticket_seen}
use Rattle.plain_shop.specs.Shop.{Away, Declined, Done, Merged, Phase, PlainState, Withdrawn}
use Rattle.plain_shop.specs.Marks.{shop_marks}
use Rattle.world.specs.Showing.{shows}
use Rattle.plain_shop.specs.Steps.{Abort, Return, Submit, ToAbort, ToReturn, ToSubmit}
use Rattle.world.specs.State.{worker_of}
use Rattle.world_items.specs.declared.answer.Answer.{Answer}
use Rattle.world_items.specs.declared.event.Event.{Event}
use Rattle.world_items.specs.declared.stop.Stop.TheVariants.{Run}
use Rattle.world_items.specs.declared.what.What.TheVariants.{MasterOrder}
use Rattle.world_items.specs.declared.word.Word.TheVariants.{Did, Refused}

abbrev first : TaggedShop
first = opening (codes "mis") (codes "press" ∷ codes "bind" ∷ []) job

abbrev withdraw_at : ℕ → Event
withdraw_at at = event (MasterOrder (master.Withdraw 1)) at Run

abbrev start_printing : ℕ → Event
start_printing at = event (MasterOrder (master.Edit (SetStatus (codes "n1") (codes "InProgress")))) at Run

abbrev printing_started : ℕ → Event
printing_started at = press (worker.Edit 1 (SetStatus (codes "n1") (codes "InProgress"))) at

-- how far the spawns have come, and what the ticket tells
abbrev phases_of : TaggedShop → List Phase
phases_of p = map (λ a. a.phase) p.shop.spawns

abbrev audits_of : List ℕ → PlainState → Option (List Audit)
audits_of n p = option_map (λ r. r.audits) (row_of (ticket_seen p).rows n)

abbrev status_of : List ℕ → PlainState → Option (List ℕ)
status_of n p = option_map (λ r. r.status) (row_of (ticket_seen p).rows n)

-- ---- before the part is taken

abbrev asked : List Event
asked = print_at 100 Run ∷ withdraw_at 101 ∷ []

abbrev declined : List Event
declined = deliver 2 120 ∷ deliver 1 121 ∷ printing_started 122 ∷ deliver 4 123 ∷ start_printing 124 ∷ []

abbrev freed : List Event
freed =
    deliver 3 125 ∷ deliver 3 126 ∷ event (MasterOrder (master.Resend 1)) 127 Run ∷ start_printing 128
    ∷ print_at 129 Run ∷ deliver 1 130 ∷ []

abbrev asked_answers : List Answer
asked_answers = sends (Did (reply.Spawned 1)) 1 ∷ sends (Did (reply.Asked 1)) 2 ∷ []

abbrev declined_answers : List Answer
declined_answers =
    sends (Did (reply.Declined 1)) 3 ∷ sends (Did (reply.Declined 1)) 4 ∷ says (Refused UnknownEntry)
    ∷ says (Did (reply.Noted 1)) ∷ says (Refused (NotHeld 1)) ∷ []

abbrev freed_answers : List Answer
freed_answers =
    says (Did (reply.Freed 1)) ∷ says (Did (reply.Noted 1)) ∷ says (Refused NotOut) ∷ says (Did reply.Edited)
    ∷ sends (Did (reply.Spawned 2)) 5 ∷ sends (Did (reply.Declined 1)) 6 ∷ []

on_asking : world.answers_to asked shop ≡ asked_answers
on_asking = refl

on_declining : world.answers_to declined (world.after_all asked shop) ≡ declined_answers
on_declining = refl

on_freeing : world.answers_to freed (world.after_all declined (world.after_all asked shop)) ≡ freed_answers
on_freeing = refl

-- in the replay
abbrev when_asked : TaggedShop
when_asked = after_all asked first

abbrev when_declined : TaggedShop
when_declined = after_all declined when_asked

abbrev when_freed : TaggedShop
when_freed = after_all freed when_declined

asking : answers_to asked first ≡ asked_answers
asking = refl

declining : answers_to declined when_asked ≡ declined_answers
declining = refl

freeing : answers_to freed when_declined ≡ freed_answers
freeing = refl

asked_phases : phases_of when_asked ≡ Away ∷ []
asked_phases = refl

declined_phases : phases_of when_declined ≡ Declined ∷ []
declined_phases = refl

freed_phases : phases_of when_freed ≡ Withdrawn ∷ Away ∷ []
freed_phases = refl

freed_audits : audits_of (codes "n0") when_freed.shop
    ≡ Some (audit.Spawned 100 (codes "n1") (spawn_text 1) (codes "r1" ∷ []) (codes "r2" ∷ []) (codes "Waiting")
    ∷ audit.Notification 125 (codes "Withdrawn " ++ spawn_text 1)
    ∷ audit.Spawned 129 (codes "n1") (spawn_text 2) (codes "r1" ∷ []) (codes "r2" ∷ []) (codes "InProgress") ∷ [])
freed_audits = refl

freed_tags : when_freed.tags ≡ Submit 1 ∷ Abort 1 ∷ ToAbort 1 ∷ ToSubmit 1 ∷ Submit 2 ∷ ToSubmit 1 ∷ []
freed_tags = refl

-- what is shown of the spawns while the first is declined, and once it is withdrawn
declined_nodes : (shop_marks when_declined.shop).nodes ≡ codes "n1" ∷ []
declined_nodes = refl

withdrawn_marks : shop_marks (after_all (deliver 3 125 ∷ []) when_declined).shop ≡ record { nodes = []; resources = [] }
withdrawn_marks = refl

-- the controllers show the same
declined_shown : phases_of (shows (world.after_all declined (world.after_all asked shop))) ≡ Declined ∷ []
declined_shown = refl

freed_shown : phases_of (shows (world.after_all freed (world.after_all declined (world.after_all asked shop)))) ≡ Withdrawn ∷ Away ∷ []
freed_shown = refl

tags_shown : (shows (world.after_all freed (world.after_all declined (world.after_all asked shop)))).tags ≡ Submit 1 ∷ Abort 1 ∷ ToAbort 1 ∷ ToSubmit 1 ∷ Submit 2 ∷ ToSubmit 1 ∷ []
tags_shown = refl

press_entries : option_map (λ (w : worker_state.State). w.entries) (worker_of (world.after_all declined (world.after_all asked shop)).controllers.workers (codes "press"))
    ≡ Some (record { spawn_id = 1; phase = stage.Declined; part = None; at = 120 } ∷ [])
press_entries = refl

-- ---- while the part is worked on

abbrev ended : List Event
ended = print_at 100 Run ∷ deliver 1 110 ∷ withdraw_at 115 ∷ deliver 3 120 ∷ printing_started 121 ∷ deliver 4 122 ∷ []

abbrev back : List Event
back = press (worker.Resend 1) 123 ∷ deliver 5 130 ∷ deliver 3 131 ∷ withdraw_at 132 ∷ []

abbrev ended_answers : List Answer
ended_answers =
    sends (Did (reply.Spawned 1)) 1 ∷ sends (Did (reply.Taken 1)) 2 ∷ sends (Did (reply.Asked 1)) 3 ∷ sends (Did (reply.Ended 1)) 4
    ∷ says (Refused NotOpen) ∷ says (Did (reply.Noted 1)) ∷ []

abbrev back_answers : List Answer
back_answers =
    sends (Did (reply.Sent 1)) 5 ∷ sends (Did (reply.Merged 1)) 6 ∷ sends (Did (reply.Again 1)) 7 ∷ says (Refused NotOut) ∷ []

on_ending : world.answers_to ended shop ≡ ended_answers
on_ending = refl

on_coming_back : world.answers_to back (world.after_all ended shop) ≡ back_answers
on_coming_back = refl

abbrev when_ended : TaggedShop
when_ended = after_all ended first

abbrev when_back : TaggedShop
when_back = after_all back when_ended

ending : answers_to ended first ≡ ended_answers
ending = refl

coming_back : answers_to back when_ended ≡ back_answers
coming_back = refl

ended_phases : phases_of when_ended ≡ Done ∷ []
ended_phases = refl

back_phases : phases_of when_back ≡ Merged ∷ []
back_phases = refl

back_status : status_of (codes "n1") when_back.shop ≡ Some (codes "Aborted")
back_status = refl

back_tags : when_back.tags ≡ Submit 1 ∷ ToSubmit 1 ∷ Abort 1 ∷ ToAbort 1 ∷ Return 1 ∷ ToReturn 1 ∷ ToAbort 1 ∷ []
back_tags = refl

ended_shown : phases_of (shows (world.after_all ended shop)) ≡ Done ∷ []
ended_shown = refl

back_shown : phases_of (shows (world.after_all back (world.after_all ended shop))) ≡ Merged ∷ []
back_shown = refl

status_back : status_of (codes "n1") (shows (world.after_all back (world.after_all ended shop))).shop ≡ Some (codes "Aborted")
status_back = refl
