-- The audits that tell of merges: at the node above one that was spawned, once its part is put in.
use Rattle.std.specs.Prelude.{◌≡◌, ℕ, ◌==◌, Bool, false, List, [], ◌++◌, count_by}
use Rattle.std.specs.Prelude.{if◌then◌else◌, Option, Some}
use Rattle.std.specs.List.{list_any}
use Rattle.std.specs.Option.{option_and_then, option_map_or}
use Rattle.ticket_items.specs.SpawnId as texts
use Rattle.ticket_items.specs.declared.audit.Audit.{Audit}
use Rattle.ticket_items.specs.declared.audit.Audit.TheVariants as audit
use Rattle.ticket_rows.specs.Place.{Row, nodes_in, row_in, up}
use Rattle.ticket_rows.specs.Ticket.{Job}
use Rattle.world_items.specs.declared.reply.Reply.{Reply}
use Rattle.world_items.specs.declared.reply.Reply.TheVariants.{Merged}
use Rattle.plain_shop.specs.Shop.{PlainState, spawn_of}
use Rattle.world_items.specs.declared.answer.Answer.{Answer}
use Rattle.world_items.specs.declared.word.Word.{Word}
use Rattle.world_items.specs.declared.word.Word.TheVariants.{Did}

-- ---- what tells that the part of a spawn was put in

abbrev pub audit_tells : ℕ → Audit → Bool
audit_tells s (audit.Merged at node id rw) = option_map_or (λ t. t == s) (texts.spawn_of id) false
audit_tells s a = false

abbrev pub reply_tells : ℕ → Reply → Bool
reply_tells s (Merged t) = t == s
reply_tells s reply = false

abbrev pub word_tells : ℕ → Word → Bool
word_tells s (Did reply) = reply_tells s reply
word_tells s word = false

abbrev pub answer_tells : ℕ → Answer → Bool
answer_tells s a = word_tells s a.word

-- ---- where audits tell of it

-- what doesn't stand has no audits
abbrev pub audits_of : Option Row → List Audit
audits_of row = option_map_or (λ r. r.audits) row []

-- the audits of a row went on, and of those that came so many tell that the part of a spawn was put
-- in
abbrev pub AuditsGrow : ℕ → ℕ → Option Row → Option Row → Type 0
AuditsGrow s times old new =
    (more : List Audit) × (audits_of new ≡ audits_of old ++ more)
    × (count_by (audit_tells s) more ≡ times)

-- the node above the one that was spawned
abbrev pub above_of : ℕ → PlainState → Option (List ℕ)
above_of s p = option_and_then (λ a. up (nodes_in p.tree) a.node) (spawn_of s p)

-- past the audits of the ticket in the beginning, those above a spawned node tell once that its
-- part was put in if one of the answers does, and else never: as they are seen and as they are now
abbrev pub MergeAuditsMatch : Job → List Answer → PlainState → Type 0
MergeAuditsMatch ticket answers p =
    (s : ℕ) (u : List ℕ) → above_of s p ≡ Some u
    → let times : ℕ = if list_any (answer_tells s) answers then 1 else 0 in
    AuditsGrow s times (row_in ticket.rows u) (p.seen u) × AuditsGrow s times (row_in ticket.rows u) (p.now u)
