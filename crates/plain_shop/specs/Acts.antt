-- What the master and the workers do to a shop.
use Rattle.std.specs.Prelude.{ℕ, ◌==◌, Bool, false, List, [], ◌∷◌, ◌++◌, codes, map}
use Rattle.std.specs.Prelude.{if◌then◌else◌, Option, Some, None}
use Rattle.std.specs.Option.{option_map_or}
use Rattle.std.specs.Str.{bytes_eq}
use Rattle.ticket_items.specs.SpawnId.{spawn_text}
use Rattle.ticket_items.specs.declared.audit.Audit.{Audit}
use Rattle.ticket_items.specs.declared.audit.Audit.TheVariants as audit
use Rattle.ticket_items.specs.declared.edit.Edit.{Edit}
use Rattle.ticket_items.specs.declared.edit.Edit.TheVariants.{SetStatus}
use Rattle.ticket_items.specs.Edit.{added_id}
use Rattle.ticket_rows.specs.Place.{Place, nodes_in, place_at, places, row_in, up}
use Rattle.ticket_rows.specs.Ticket.{Job}
use Rattle.ticket_tree.specs.PlainEdit.{plain_places, plain_rows, stands, with_row_changed}
use Rattle.plain_shop.specs.Claim.{ids_of, is_claimed, linked_ro, linked_rw}
use Rattle.world_items.specs.declared.holder.Holder.{Holder}
use Rattle.world_items.specs.declared.holder.Holder.TheVariants.{Master, Spawn}
use Rattle.world_items.specs.End.{end_word}
use Rattle.world_items.specs.declared.end.End.{End}
use Rattle.plain_shop.specs.Shop.{Away, Closed, Declined, Done, Holders, Merged, Open, Phase, Rows}
use Rattle.plain_shop.specs.Shop.{PlainState, SpawnState, Withdrawn, has_number, next_number}

-- ---- in the beginning

-- the master holds all that stands
abbrev pub all_masters : List Place → Holders
all_masters tree x = if stands tree x then Some Master else None

-- nothing was spawned
abbrev pub opening : List ℕ → List (List ℕ) → Job → PlainState
opening name workers ticket =
    record {
      master = name;
      workers = workers;
      job = ticket.job_id;
      tree = places ticket.rows;
      seen = row_in ticket.rows;
      now = row_in ticket.rows;
      holder = all_masters (places ticket.rows);
      spawns = [];
    }

-- ---- a master's edit

-- the holders, where the master holds what is new
abbrev pub with_new : Option (List ℕ) → Holders → Holders
with_new None holder x = holder x
with_new (Some new) holder x = if bytes_eq new x then Some Master else holder x

-- it is done to what is seen and to what is now alike
abbrev pub after_edit : Edit → ℕ → PlainState → PlainState
after_edit e at p =
    record p {
      tree = plain_places e p.tree;
      seen = plain_rows e at p.seen;
      now = plain_rows e at p.now;
      holder = with_new (added_id e) p.holder;
    }

-- ---- a spawn

-- the rows, with an audit more at the parent of a node
abbrev pub with_parent_audit : List Place → List ℕ → Audit → Rows → Rows
with_parent_audit tree n audit rows =
    option_map_or (λ u. with_row_changed u (λ r. record r { audits = r.audits ++ audit ∷ [] }) rows)
    (up (nodes_in tree) n) rows

-- the next spawn: its resources are a set, in ticket order
abbrev pub next_spawn : List ℕ → List ℕ → List (List ℕ) → PlainState → SpawnState
next_spawn n worker rw p =
    record {
      number = next_number p;
      node = n;
      worker = worker;
      rw = ids_of (linked_rw p.tree n rw);
      phase = Away;
    }

-- the audit that tells of it: the copies to read, those to change, and the Status of the node
abbrev pub spawned_audit : SpawnState → ℕ → PlainState → Audit
spawned_audit a at p =
    audit.Spawned at a.node (spawn_text a.number) (ids_of (linked_ro p.tree a.node a.rw)) a.rw
    (option_map_or (λ r. r.status) (p.seen a.node) [])

-- the holders, where a spawn holds its claim
abbrev pub with_claim : SpawnState → List Place → Holders → Holders
with_claim a tree holder x =
    if option_map_or (is_claimed a.node a.rw) (place_at tree x) false then Some (Spawn a.number)
    else holder x

-- it is on the way and holds its claim, and the parent's audit tells of it
abbrev pub after_sending : SpawnState → ℕ → PlainState → PlainState
after_sending a at p =
    record p {
      seen = with_parent_audit p.tree a.node (spawned_audit a at p) p.seen;
      now = with_parent_audit p.tree a.node (spawned_audit a at p) p.now;
      holder = with_claim a p.tree p.holder;
      spawns = p.spawns ++ a ∷ [];
    }

abbrev pub after_spawn : List ℕ → List ℕ → List (List ℕ) → ℕ → PlainState → PlainState
after_spawn n worker rw at p = after_sending (next_spawn n worker rw p) at p

-- ---- a worker's work

-- the spawns, with that of a number in a phase
abbrev pub in_phase : Phase → ℕ → List SpawnState → List SpawnState
in_phase phase s spawns =
    map (λ (a : SpawnState). if has_number s a then record a { phase = phase } else a) spawns

-- the worker takes a part
abbrev pub after_taking : ℕ → PlainState → PlainState
after_taking s p = record p { spawns = in_phase Open s p.spawns }

-- it edits what is now, and the master doesn't see it
abbrev pub after_work : Edit → ℕ → PlainState → PlainState
after_work e at p = record p { now = plain_rows e at p.now }

-- it ends the work on a part, as the Status of its node then says
abbrev pub after_finish : End → ℕ → SpawnState → PlainState → PlainState
after_finish how at a p =
    record p {
      now = plain_rows (SetStatus a.node (end_word how)) at p.now;
      spawns = in_phase Done a.number p.spawns;
    }

-- ---- a merge

-- whether this holder is a spawn
abbrev pub is_spawn : ℕ → Holder → Bool
is_spawn s Master = false
is_spawn s (Spawn t) = t == s

-- whether a spawn holds an id
abbrev pub is_held_by : ℕ → Holders → List ℕ → Bool
is_held_by s holder x = option_map_or (is_spawn s) (holder x) false

-- the audit that tells of it
abbrev pub merged_audit : SpawnState → ℕ → Audit
merged_audit a at = audit.Merged at a.node (spawn_text a.number) a.rw

-- the rows that are seen, with those that a spawn holds as they are now
abbrev pub put_in : ℕ → PlainState → Rows
put_in s p x = if is_held_by s p.holder x then p.now x else p.seen x

-- the holders, where the master holds what a spawn held
abbrev pub holders_after_return : ℕ → Holders → Holders
holders_after_return s holder x = if is_held_by s holder x then Some Master else holder x

-- what a spawn holds is seen as it is now, the master holds it, and the parent's audit tells of it
abbrev pub after_merge : ℕ → SpawnState → PlainState → PlainState
after_merge at a p =
    record p {
      seen = with_parent_audit p.tree a.node (merged_audit a at) (put_in a.number p);
      now = with_parent_audit p.tree a.node (merged_audit a at) p.now;
      holder = holders_after_return a.number p.holder;
      spawns = in_phase Merged a.number p.spawns;
    }

-- ---- a close

-- the worker gives up the part that was put in
abbrev pub after_close : ℕ → PlainState → PlainState
after_close s p = record p { spawns = in_phase Closed s p.spawns }

-- ---- a withdrawal

-- the worker declines a spawn that it hasn't taken
abbrev pub after_decline : ℕ → PlainState → PlainState
after_decline s p = record p { spawns = in_phase Declined s p.spawns }

-- the audit that tells that the master has taken it back
abbrev pub withdrawn_audit : SpawnState → ℕ → Audit
withdrawn_audit a at = audit.Notification at (codes "Withdrawn " ++ spawn_text a.number)

-- the master holds what a spawn held, and the parent's audit tells of it
abbrev pub after_withdrawal : ℕ → SpawnState → PlainState → PlainState
after_withdrawal at a p =
    record p {
      seen = with_parent_audit p.tree a.node (withdrawn_audit a at) p.seen;
      now = with_parent_audit p.tree a.node (withdrawn_audit a at) p.now;
      holder = holders_after_return a.number p.holder;
      spawns = in_phase Withdrawn a.number p.spawns;
    }
