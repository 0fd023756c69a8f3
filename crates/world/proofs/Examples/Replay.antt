-- The replay computed on the small shop: the same events as on its controllers, and what the ticket then tells.
use Rattle.std.proofs.Common.{◌≡◌, ℕ, List, [], ◌∷◌, Option, Some, None, refl}
use Rattle.std.specs.Option.{option_map}
use Rattle.std.specs.Prelude.{codes, map}
use Rattle.ticket_items.specs.SpawnId.{spawn_text}
use Rattle.ticket_items.specs.declared.audit.Audit.{Audit}
use Rattle.ticket_items.specs.declared.audit.Audit.TheVariants as audit
use Rattle.ticket_items.specs.declared.edit.Edit.TheVariants.{SetResStatus}
use Rattle.ticket_items.specs.declared.marks.Marks.{Marks}
use Rattle.ticket_items.specs.declared.refusal.Refusal.TheVariants.{Acknowledged, NotHeld, NotOpen}
use Rattle.ticket_items.specs.declared.res_mark.ResMark.{ResMark}
use Rattle.ticket_items.specs.declared.spawn_status.SpawnStatus.{SpawnStatus}
use Rattle.ticket_items.specs.declared.spawn_status.SpawnStatus.TheVariants.{SpawnedRO, SpawnedRW}
use Rattle.ticket_rows.specs.Homes.{resource_of}
use Rattle.ticket_rows.specs.Ticket.{row_of}
use Rattle.world_items.specs.declared.reply.Reply.TheVariants as reply
use Rattle.spawn.specs.Marking.{marks}
use Rattle.world_items.specs.declared.holder.Holder.TheVariants.{Master, Spawn}
use Rattle.world_items.specs.declared.master_order.Order.TheVariants as master
use Rattle.world_items.specs.declared.end.End.TheVariants.{Completed}
use Rattle.world_items.specs.declared.worker_order.Order.TheVariants as worker
use Rattle.world.proofs.Examples.Shop.{deliver, event, given_up, job, once_and_again, press, print_at, says, sends, shop}
use Rattle.world.specs.Happening as world
use Rattle.plain_shop.specs.Replay.{TaggedShop, after_all, answers_to, opening}
use Rattle.plain_shop.specs.SeenTicket.{ticket_seen}
use Rattle.plain_shop.specs.Shop.{Closed, Merged, Open, Phase, PlainState}
use Rattle.plain_shop.specs.Marks.{shop_marks}
use Rattle.world.specs.Showing.{shows}
use Rattle.plain_shop.specs.Steps.{Return, Submit, ToReturn, ToSubmit}
use Rattle.world.specs.State.{State}
use Rattle.world_items.specs.declared.event.Event.{Event}
use Rattle.world_items.specs.declared.stop.Stop.TheVariants.{Run, BeforeSave}
use Rattle.world_items.specs.declared.what.What.TheVariants.{MasterOrder, WorkerOrder, Deliver}
use Rattle.world_items.specs.declared.word.Word.TheVariants.{Did, NoMessage, Refused, Stopped}

abbrev first : TaggedShop
first = opening (codes "mis") (codes "press" ∷ codes "bind" ∷ []) job

-- what the master sees: the ticket in the beginning, the audits of a node, and the Status of a resource
the_ticket : ticket_seen first.shop ≡ job
the_ticket = refl

abbrev audits_of : List ℕ → PlainState → Option (List Audit)
audits_of n p = option_map (λ r. r.audits) (row_of (ticket_seen p).rows n)

abbrev status_of : List ℕ → PlainState → Option (List ℕ)
status_of x p = option_map (λ r. r.status) (resource_of (ticket_seen p).rows x)

-- how far the spawns have come
abbrev phases_of : TaggedShop → List Phase
phases_of p = map (λ a. a.phase) p.shop.spawns

-- ---- a spawn

abbrev one_spawn : List Event
one_spawn =
    print_at 100 Run ∷ event (MasterOrder (master.Edit (SetResStatus (codes "r2") (codes "InUse")))) 101 Run
    ∷ event (MasterOrder (master.Edit (SetResStatus (codes "r1") (codes "InUse")))) 102 Run ∷ event (MasterOrder (master.Resend 1)) 103 Run ∷ []

spawn_answers : answers_to one_spawn first
    ≡ sends (Did (reply.Spawned 1)) 1 ∷ says (Refused (NotHeld 1)) ∷ says (Did reply.Edited) ∷ sends (Did (reply.Sent 1)) 2 ∷ []
spawn_answers = refl

spawn_audit : audits_of (codes "n0") (after_all one_spawn first).shop
    ≡ Some (audit.Spawned 100 (codes "n1") (spawn_text 1) (codes "r1" ∷ []) (codes "r2" ∷ []) (codes "Waiting") ∷ [])
spawn_audit = refl

-- ---- two spawns

abbrev bind_is_back : List Event
bind_is_back =
    print_at 100 Run ∷ event (MasterOrder (master.Spawn (codes "n2") (codes "bind") [])) 101 Run ∷ deliver 1 110 ∷ deliver 2 111
    ∷ press (worker.Edit 1 (SetResStatus (codes "r2") (codes "Available"))) 120 ∷ event (WorkerOrder (codes "bind") (worker.Finish 2 Completed)) 130 Run ∷ deliver 5 131 ∷ []

abbrev both_are_back : List Event
both_are_back = press (worker.Finish 1 Completed) 140 ∷ deliver 7 141 ∷ []

two_answers : answers_to bind_is_back first
    ≡ sends (Did (reply.Spawned 1)) 1 ∷ sends (Did (reply.Spawned 2)) 2 ∷ sends (Did (reply.Taken 1)) 3 ∷ sends (Did (reply.Taken 2)) 4 ∷ says (Did reply.Edited)
    ∷ sends (Did (reply.Finished 2)) 5 ∷ sends (Did (reply.Merged 2)) 6 ∷ []
two_answers = refl

last_answers : answers_to both_are_back (after_all bind_is_back first) ≡ sends (Did (reply.Finished 1)) 7 ∷ sends (Did (reply.Merged 1)) 8 ∷ []
last_answers = refl

-- the sheets midway, and at the end
midway : status_of (codes "r2") (after_all bind_is_back first).shop ≡ Some (codes "Unavailable")
midway = refl

at_the_end : status_of (codes "r2") (after_all both_are_back (after_all bind_is_back first)).shop ≡ Some (codes "Available")
at_the_end = refl

-- what is shown of two spawns of one resource, of which the first may change it and the second reads it
abbrev both_are_out : List Event
both_are_out = print_at 100 Run ∷ event (MasterOrder (master.Spawn (codes "n2") (codes "bind") [])) 101 Run ∷ []

abbrev shows_mark : List ℕ → SpawnStatus → List ℕ → ResMark
shows_mark x status spawns = record { id = x; status = status; spawn_ids = spawns }

abbrev marks_at_first : Marks
marks_at_first =
    record {
      nodes = codes "n1" ∷ codes "n2" ∷ [];
      resources = shows_mark (codes "r1") SpawnedRO (1 ∷ []) ∷ shows_mark (codes "r2") SpawnedRW (1 ∷ 2 ∷ []) ∷ [];
    }

marks_out : shop_marks (after_all both_are_out first).shop ≡ marks_at_first
marks_out = refl

-- once the second is back the first alone is shown, and at the end none
abbrev marks_midway : Marks
marks_midway =
    record {
      nodes = codes "n1" ∷ [];
      resources = shows_mark (codes "r1") SpawnedRO (1 ∷ []) ∷ shows_mark (codes "r2") SpawnedRW (1 ∷ []) ∷ [];
    }

marks_back : shop_marks (after_all bind_is_back first).shop ≡ marks_midway
marks_back = refl

no_marks : shop_marks (after_all both_are_back (after_all bind_is_back first)).shop ≡ record { nodes = []; resources = [] }
no_marks = refl

-- the master shows the same
abbrev masters_marks : State → Marks
masters_marks w = marks w.controllers.master.ticket.rows w.controllers.master.records

masters_out : masters_marks (world.after_all both_are_out shop) ≡ marks_at_first
masters_out = refl

masters_back : masters_marks (world.after_all bind_is_back shop) ≡ marks_midway
masters_back = refl

-- ---- repeats

repeats : answers_to once_and_again first
    ≡ sends (Did (reply.Spawned 1)) 1 ∷ sends (Did (reply.Taken 1)) 2 ∷ sends (Did (reply.Again 1)) 3 ∷ sends (Did (reply.Finished 1)) 4 ∷ sends (Did (reply.Merged 1)) 5 ∷ sends (Did (reply.Again 1)) 6
    ∷ says (Did (reply.Acked 1)) ∷ says (Did (reply.Noted 1)) ∷ says (Refused NotOpen) ∷ []
repeats = refl

-- the press has given up its part, as its controller shows
given_up_answers : answers_to given_up (after_all once_and_again first)
    ≡ says (Refused Acknowledged) ∷ says (Did (reply.Acked 1)) ∷ sends (Did (reply.Again 1)) 7 ∷ sends (Did (reply.Already 1)) 8 ∷ []
given_up_answers = refl

closed_phases : phases_of (after_all once_and_again first) ≡ Closed ∷ []
closed_phases = refl

closed_shown : phases_of (shows (world.after_all once_and_again shop)) ≡ Closed ∷ []
closed_shown = refl

-- ---- a merge that is lost once

abbrev lost_merge : List Event
lost_merge =
    print_at 100 Run ∷ deliver 1 110 ∷ press (worker.Finish 1 Completed) 120 ∷ event (Deliver 3) 130 BeforeSave ∷ deliver 3 131 ∷ deliver 3 132 ∷ deliver 3 133
    ∷ press (worker.Resend 1) 134 ∷ deliver 0 135 ∷ deliver 8 136 ∷ []

merge_answers : answers_to lost_merge first
    ≡ sends (Did (reply.Spawned 1)) 1 ∷ sends (Did (reply.Taken 1)) 2 ∷ sends (Did (reply.Finished 1)) 3 ∷ says Stopped ∷ sends (Did (reply.Merged 1)) 4 ∷ sends (Did (reply.Already 1)) 5
    ∷ sends (Did (reply.Already 1)) 6 ∷ sends (Did (reply.Sent 1)) 7 ∷ says NoMessage ∷ says NoMessage ∷ []
merge_answers = refl

merge_tags : (after_all lost_merge first).tags ≡ Submit 1 ∷ ToSubmit 1 ∷ Return 1 ∷ ToReturn 1 ∷ ToReturn 1 ∷ ToReturn 1 ∷ Return 1 ∷ []
merge_tags = refl

-- the parent has one audit of the spawn and one of the merge
merge_audits : audits_of (codes "n0") (after_all lost_merge first).shop
    ≡ Some (audit.Spawned 100 (codes "n1") (spawn_text 1) (codes "r1" ∷ []) (codes "r2" ∷ []) (codes "Waiting") ∷ audit.Merged 131 (codes "n1") (spawn_text 1) (codes "r2" ∷ []) ∷ [])
merge_audits = refl

-- the press holds what it was given until then, and the master again after it
held_meanwhile : (after_all one_spawn first).shop.holder (codes "r2") ≡ Some (Spawn 1)
held_meanwhile = refl

held_again : (after_all lost_merge first).shop.holder (codes "r2") ≡ Some Master
held_again = refl

nobody_holds : (after_all lost_merge first).shop.holder (codes "r9") ≡ None
nobody_holds = refl

-- ---- beside the controllers

abbrev all_ids : List (List ℕ)
all_ids = codes "n0" ∷ codes "n1" ∷ codes "n2" ∷ codes "r1" ∷ codes "r2" ∷ codes "r9" ∷ []

-- what two shops have in common, for the ids that stand and one that doesn't
pub record Agree (p q : TaggedShop) : Type 0 where
  pub tags : p.tags ≡ q.tags
  pub tree : p.shop.tree ≡ q.shop.tree
  pub ticket : ticket_seen p.shop ≡ ticket_seen q.shop
  pub now : map p.shop.now all_ids ≡ map q.shop.now all_ids
  pub holder : map p.shop.holder all_ids ≡ map q.shop.holder all_ids
  pub spawns : p.shop.spawns ≡ q.shop.spawns

-- the controllers answer events as the replay does, and show what it leaves
abbrev AreReplayed : List Event → Type 0
AreReplayed events = (world.answers_to events shop ≡ answers_to events first) × Agree (shows (world.after_all events shop)) (after_all events first)

all_agree : {p q : TaggedShop} → p.tags ≡ q.tags → p.shop.tree ≡ q.shop.tree → ticket_seen p.shop ≡ ticket_seen q.shop → map p.shop.now all_ids ≡ map q.shop.now all_ids → map p.shop.holder all_ids ≡ map q.shop.holder all_ids
    → p.shop.spawns ≡ q.shop.spawns → Agree p q
all_agree tags tree ticket now holder spawns = record { tags = tags; tree = tree; ticket = ticket; now = now; holder = holder; spawns = spawns }

one_is_replayed : AreReplayed one_spawn
one_is_replayed = (refl, all_agree refl refl refl refl refl refl)

-- the sheets midway, as they are and as the master sees them: in the replay, and as the controllers show them
abbrev now_and_seen : TaggedShop → Option (List ℕ) × Option (List ℕ)
now_and_seen p = (option_map (λ r. r.status) (p.shop.now (codes "r2")), option_map (λ r. r.status) (p.shop.seen (codes "r2")))

midway_sheets : now_and_seen (after_all bind_is_back first) ≡ (Some (codes "Available"), Some (codes "Unavailable"))
midway_sheets = refl

midway_shown : now_and_seen (shows (world.after_all bind_is_back shop)) ≡ (Some (codes "Available"), Some (codes "Unavailable"))
midway_shown = refl

-- how far the spawns have come then
midway_phases : phases_of (after_all bind_is_back first) ≡ Open ∷ Merged ∷ []
midway_phases = refl

phases_shown : phases_of (shows (world.after_all bind_is_back shop)) ≡ Open ∷ Merged ∷ []
phases_shown = refl

-- and the messages of a merge that is lost once
tags_shown : (shows (world.after_all lost_merge shop)).tags ≡ Submit 1 ∷ ToSubmit 1 ∷ Return 1 ∷ ToReturn 1 ∷ ToReturn 1 ∷ ToReturn 1 ∷ Return 1 ∷ []
tags_shown = refl
