-- A spawn of the master in a shop: the controllers' step and the shop's agree.
use Rattle.std.proofs.Common.{◌≡◌, ◌∙◌, ◌⊎◌, inl, inr, ℕ, suc, ◌<◌, ◌&&◌, Bool, true, false, cond, List, [], ◌∷◌, ◌++◌, length, map, Option, Some, None, is_some, slice_get, Ok, refl, sym, ap, arith}
use Rattle.std.proofs.lemmas.Bool.{true≢false}
use Rattle.std.proofs.lemmas.List.{length-map, map-append}
use Rattle.std.proofs.lemmas.List.Folds.{find-append}
use Rattle.std.proofs.lemmas.Option.{slice_get_within}
use Rattle.std.specs.List.{All, cons_option, filter, filter_map, list_all}
use Rattle.std.specs.Option.{option_and_then, option_map, option_map_or, option_or}
use Rattle.std.specs.Str.{bytes_eq}
use Rattle.ticket_items.specs.Ids.{mem}
use Rattle.ticket_items.specs.SpawnId.{is_spawn_number, spawn_text}
use Rattle.ticket_items.specs.declared.audit.Audit.{Audit}
use Rattle.ticket_items.specs.declared.audit.Audit.TheVariants as audit
use Rattle.ticket_items.specs.declared.node_row.NodeRow.{NodeRow}
use Rattle.ticket_items.specs.declared.refusal.Refusal.{Refusal}
use Rattle.ticket_items.specs.declared.refusal.Refusal.TheVariants.{UnknownWorker, UnknownNode, IsRoot, UnknownResource, NotLinked, NotHeld, TooManySpawns}
use Rattle.ticket_rows.specs.Homes.{has_resource}
use Rattle.ticket_rows.specs.Place.{Place, Row, node_places, nodes_in, parent, place_at, places, resources_in, row_in, up}
use Rattle.ticket_rows.specs.Ticket.{IsValid, first_of, has_node, row_of, unless}
use Rattle.ticket_rows.proofs.AtHome.{find-passes}
use Rattle.ticket_tree.proofs.ByKind.{found_among, ids_apart}
use Rattle.ticket_tree.proofs.LookUps.{node_is_at_place}
use Rattle.ticket_tree.proofs.OnPlaces.{stands_node, stands_resource}
use Rattle.ticket_tree.proofs.PlainOneRow.{append_of_places, append_of_rows}
use Rattle.ticket_tree.specs.PartView.{part_row}
use Rattle.ticket_tree.specs.PlainEdit.{stands, with_row_changed}
use Rattle.spawn.proofs.Among.{distinct_kept}
use Rattle.spawn.proofs.Tests.{all_as}
use Rattle.spawn.proofs.Chosen.{AllOwn, all_own}
use Rattle.spawn.proofs.GoodCopies.{reads_ids}
use Rattle.spawn.proofs.Lawful.{claim_is_held, parent_is_masters, placed}
use Rattle.spawn.proofs.NewRecord.{new_is_good}
use Rattle.spawn.proofs.Outside.{some_of}
use Rattle.spawn.proofs.PartKept.{allowed}
use Rattle.ticket_tree.proofs.Parents.{one_parent_each}
use Rattle.ticket_tree.specs.Laws.{HasParentAt, IsRootAt}
use Rattle.plain_shop.specs.Claim.{claim, ids_of, is_claimed, linked_outside, linked_ro}
use Rattle.spawn.specs.Records.{is_out}
use Rattle.spawn.specs.Spawning as spawning
use Rattle.spawn.specs.Spawning.{parent_of}
use Rattle.spawn.specs.Table.{holder_at, holding_record, holds}
use Rattle.spawn.specs.declared.records.phase.Phase.TheVariants as recorded
use Rattle.spawn.specs.declared.records.spawn_rec.SpawnRec.{SpawnRec}
use Rattle.world_items.specs.declared.holder.Holder.{Holder}
use Rattle.world_items.specs.declared.holder.Holder.TheVariants.{Master, Spawn}
use Rattle.master_core.proofs.OrderKept.{ordered_kept}
use Rattle.master_core.proofs.Recorded.{found_last, get_front, get_last, number_is}
use Rattle.master_core.proofs.Refusals.{spawn_free}
use Rattle.master_core.specs.Master as master
use Rattle.master_core.specs.Master.{IsNumbered, holder, is_of, record_of}
use Rattle.master_core.specs.Orders as orders
use Rattle.master_core.specs.Orders.{held_refusal, next_record}
use Rattle.world_items.specs.declared.master_order.Order.TheVariants as order
use Rattle.world_items.specs.declared.reply.Reply.TheVariants as reply
use Rattle.worker_core.specs.declared.entry.Entry.{Entry}
use Rattle.world.proofs.Shop.Agreeing.{Agrees}
use Rattle.world.proofs.Messages.MessagesTaken.{entry_recorded}
use Rattle.world.proofs.Master.Edits.{not_masters, order_agrees, touch_as, untouched}
use Rattle.world.proofs.Master.Steps.{with_master}
use Rattle.world.proofs.Shop.Paths.{same_shop}
use Rattle.world.proofs.Worker.Stored.{and_found}
use Rattle.world.specs.Controllers.{Controllers, entry_at}
use Rattle.world.specs.Messages.{AreRecorded, entry_for}
use Rattle.plain_shop.specs.Shop as shop
use Rattle.plain_shop.specs.Shop.{Away, Rows, SpawnState}
use Rattle.plain_shop.specs.Acts.{after_spawn, next_spawn, spawned_audit, with_claim, with_parent_audit}
use Rattle.plain_shop.specs.Steps.{Submit, master_does, spawn_refusal}
use Rattle.world.specs.Showing.{entry_of_spawn, now_shown, part_of_spawn, phase_shown, row_at, seen_shown, shop_shown, spawn_shown}
use Rattle.world.specs.State.{IsConsistent, State}
use Rattle.master_core.specs.Orders.{order_step as ordered_master}
use Rattle.world.specs.Stepping.{master_moved}

-- ---- refusals

-- the number of the next spawn
number_shown : (c : Controllers) → shop.next_number (shop_shown c) ≡ master.next_number c.master.records
number_shown c = ap suc (length-map c.master.records (spawn_shown c))

one_first : (o : Option Refusal) → first_of (o ∷ []) ≡ o
one_first None = refl
one_first (Some e) = refl

all_first : (o : Option Refusal) (rest : List (Option Refusal)) → first_of (o ∷ first_of rest ∷ []) ≡ first_of (o ∷ rest)
all_first None rest = one_first (first_of rest)
all_first (Some e) rest = refl

-- the first of what spawns hold, as each is asked for who holds it
abbrev asked : List Place → List SpawnRec → List ℕ → Option Refusal
asked all recs x = option_map_or held_refusal (option_map (holder_at recs) (place_at all x)) None

held_one : (o : Option SpawnRec) (later : List SpawnRec) (rest : List (Option Refusal)) → option_map (λ (r : SpawnRec). NotHeld r.id) (slice_get later 0) ≡ first_of rest
    → option_map (λ (r : SpawnRec). NotHeld r.id) (slice_get (cons_option o later) 0) ≡ first_of (held_refusal (option_map_or (λ (r : SpawnRec). Spawn r.id) o Master) ∷ rest)
held_one None later rest go = go
held_one (Some r) later rest go = refl

held_first : (all : List Place) (recs : List SpawnRec) (some : List Place) → AllOwn all some → option_map (λ (r : SpawnRec). NotHeld r.id) (slice_get (filter_map (holding_record recs) some) 0) ≡ first_of (map (asked all recs) (ids_of some))
held_first all recs [] own = refl
held_first all recs (p ∷ some) own =
    held_one (holding_record recs p) (filter_map (holding_record recs) some) (map (asked all recs) (ids_of some)) (held_first all recs some own.1)
    ∙ ap (λ o. first_of (option_map_or held_refusal (option_map (holder_at recs) o) None ∷ map (asked all recs) (ids_of some))) (sym own.0)

held_alike : (rows : List NodeRow) (recs : List SpawnRec) (n : List ℕ) (rw : List (List ℕ)) → IsValid rows → spawning.not_held (places rows) recs n rw ≡ first_of (map (asked (places rows) recs) (ids_of (claim (places rows) n rw)))
held_alike rows recs n copies valid =
    let tree = places rows in
    let f = is_claimed n copies in
    held_first tree recs (filter f tree)
    (all_own tree (filter f tree) (λ y p found. found_among f tree y p (ids_apart rows valid) found) (distinct_kept (λ p. p.id) f tree (ids_apart rows valid)))

abbrev tests : Bool → Bool → Bool → Bool → Bool → Option Refusal → ℕ → List (Option Refusal)
tests worker known above resources linked held number =
    unless worker UnknownWorker ∷ unless known UnknownNode ∷ unless above IsRoot ∷ unless resources UnknownResource ∷ unless linked NotLinked ∷ held ∷ unless (is_spawn_number number) TooManySpawns ∷ []

spawn_refused : (n worker : List ℕ) (rw : List (List ℕ)) (c : Controllers) → IsValid c.master.ticket.rows → orders.order_refusal (order.Spawn n worker rw) c.master ≡ spawn_refusal n worker rw (shop_shown c)
spawn_refused n worker copies c valid =
    let m = c.master in
    let rows = m.ticket.rows in
    let tree = places rows in
    let sent = mem worker m.workers in
    let above = is_some (up (nodes_in tree) n) in
    let linked = list_all (λ x. mem x (ids_of (linked_outside tree n))) copies in
    let held = spawning.not_held tree m.records n copies in
    let number = master.next_number m.records in
    let known = list_all (has_resource rows) copies in
    let stand = list_all (stands (resources_in tree)) copies in
    all_first (unless sent UnknownWorker) _
    ∙ ap (λ b. first_of (tests sent b above known linked held number)) (sym (stands_node rows n))
    ∙ ap (λ b. first_of (tests sent (stands (nodes_in tree) n) above b linked held number)) (all_as (has_resource rows) (stands (resources_in tree)) (λ x. sym (stands_resource rows x)) copies)
    ∙ ap (λ o. first_of (tests sent (stands (nodes_in tree) n) above stand linked o number)) (held_alike rows m.records n copies valid)
    ∙ ap (λ k. first_of (tests sent (stands (nodes_in tree) n) above stand linked (first_of (map (asked tree m.records) (ids_of (claim tree n copies)))) k)) (sym (number_shown c))

-- ---- what goes out

-- a spawn of a node to a worker that isn't refused
record IsSent (c : Controllers) (n worker : List ℕ) (rw : List (List ℕ)) (at : ℕ) : Type 0 where
  valid : IsValid c.master.ticket.rows
  numbered : IsNumbered c.master.records
  next : master.IsConsistent (orders.allowed_step (order.Spawn n worker rw) at c.master).next
  known : has_node c.master.ticket.rows n ≡ true
  above : List ℕ
  is_above : up (node_places c.master.ticket.rows) n ≡ Some above
  above_known : has_node c.master.ticket.rows above ≡ true
  no_entry : entry_at c.workers worker (master.next_number c.master.records) ≡ None

pub above_by : (rows : List NodeRow) (n u : List ℕ) (p : Place) → place_at (node_places rows) n ≡ Some p → up (node_places rows) n ≡ Some u → IsRootAt (node_places rows) n p ⊎ HasParentAt (node_places rows) n p → has_node rows u ≡ true
above_by rows n u p there above (inl root) =
    let none : up (node_places rows) n ≡ None = ap (option_and_then parent) there ∙ ap (λ path. slice_get path 1) root.path in
    cc
above_by rows n u p there above (inr child) =
    let same : child.parent.id ≡ u = ap (λ o. option_map_or (λ i. i) o u) (sym child.above ∙ above) in
    sym (stands_node rows u) ∙ ap is_some (ap (place_at (node_places rows)) (sym same) ∙ child.there)

-- an entry has a record, so there is none of the next spawn
no_entry : (c : Controllers) (name : List ℕ) (o : Option Entry) → IsNumbered c.master.records → All (AreRecorded c) c.workers → entry_at c.workers name (master.next_number c.master.records) ≡ o → o ≡ None
no_entry c name None numbered all found = refl
no_entry c name (Some e) numbered all found =
    let records = c.master.records in
    let s = master.next_number records in
    let own = entry_recorded c name s e all found in
    let known = and_found _ (record_of records e.spawn_id) own.2 in
    let place = placed (is_of e.spawn_id) records known.0 known.1 in
    let within : place.place < length records = slice_get_within records place.place known.0 place.there in
    absurd (omega (arith, numbered place.place known.0 place.there, number_is records e.spawn_id known.0 known.1, own.1, within))

sent_of : (c : Controllers) (n worker : List ℕ) (rw : List (List ℕ)) (at : ℕ) → master.IsConsistent c.master → All (AreRecorded c) c.workers → orders.order_refusal (order.Spawn n worker rw) c.master ≡ None → IsSent c n worker rw at
sent_of c n worker copies at kept all none =
    let m = c.master in
    let rows = m.ticket.rows in
    let free = spawn_free m n worker copies none in
    let may = allowed rows m.records (master.next_number m.records) n copies free.1 in
    let above = some_of (up (node_places rows) n) may.1 in
    let there = some_of (place_at (node_places rows) n) (stands_node rows n ∙ may.0) in
    record {
      valid = kept.valid;
      numbered = kept.numbered;
      next = ordered_kept (order.Spawn n worker copies) at m kept none;
      known = may.0;
      above = above.0;
      is_above = above.1;
      above_known = above_by rows n above.0 there.0 there.1 above.1 (one_parent_each rows kept.valid n there.0 there.1);
      no_entry = no_entry c worker (entry_at c.workers worker (master.next_number m.records)) kept.numbered all refl;
    }

-- the record that is new
abbrev new : Controllers → List ℕ → List ℕ → List (List ℕ) → ℕ → SpawnRec
new c n worker rw at = next_record c.master n worker rw at

-- the controllers after it
abbrev later : Controllers → List ℕ → List ℕ → List (List ℕ) → ℕ → Controllers
later c n worker rw at = with_master c (orders.allowed_step (order.Spawn n worker rw) at c.master).next

-- the spawn as the shop has it
abbrev next : Controllers → List ℕ → List ℕ → List (List ℕ) → SpawnState
next c n worker rw = next_spawn n worker rw (shop_shown c)

-- the audit at the parent, as the shop has it
abbrev told_of : Controllers → List ℕ → List ℕ → List (List ℕ) → ℕ → Audit
told_of c n worker rw at = spawned_audit (next c n worker rw) at (shop_shown c)

-- a row with it
abbrev pub with_told : Audit → Row → Row
with_told a r = record r { audits = r.audits ++ a ∷ [] }

-- ---- the audit

status_shown : (rows : List NodeRow) (n : List ℕ) → IsValid rows → has_node rows n ≡ true → spawning.status_of rows n ≡ option_map_or (λ (r : Row). r.status) (row_in rows n) []
status_shown rows n valid known =
    let found = some_of (row_of rows n) known in
    let there = node_is_at_place rows valid n found.0 found.1 in
    ap (λ o. option_map_or (λ (r : NodeRow). r.status) o []) found.1 ∙ sym (ap (λ o. option_map_or (λ (r : Row). r.status) o []) there.row)

audit_shown : (c : Controllers) (n worker : List ℕ) (rw : List (List ℕ)) (at : ℕ) → IsSent c n worker rw at → spawning.spawned_audit c.master.ticket.rows (new c n worker rw at) ≡ told_of c n worker rw at
audit_shown c n worker copies at s =
    let rows = c.master.ticket.rows in
    let r = new c n worker copies at in
    let a = next c n worker copies in
    let good = new_is_good rows r.id n worker copies at s.valid s.known (ap is_some s.is_above) in
    ap (λ k. audit.Spawned at n (spawn_text k) (map (λ x. x.id) r.ro) r.rw (spawning.status_of rows n)) (sym (number_shown c))
    ∙ ap (λ is. audit.Spawned at n (spawn_text a.number) is r.rw (spawning.status_of rows n)) (reads_ids rows r good)
    ∙ ap (λ st. audit.Spawned at n (spawn_text a.number) (ids_of (linked_ro (places rows) n a.rw)) a.rw st) (status_shown rows n s.valid s.known)

-- ---- rows, point by point

-- it is told at the parent
pub told_there : (tree : List Place) (n u : List ℕ) (a : Audit) (rows : Rows) (x : List ℕ) → up (nodes_in tree) n ≡ Some u → with_parent_audit tree n a rows x ≡ with_row_changed u (with_told a) rows x
told_there tree n u a rows x above = ap (λ o. option_map_or (λ v. with_row_changed v (with_told a) rows) o rows x) above

-- what is told of the same rows is the same, and what isn't the parent's stays
pub told_as : (tree : List Place) (n u : List ℕ) (a : Audit) (rows others : Rows) (x : List ℕ) → up (nodes_in tree) n ≡ Some u → rows x ≡ others x → with_parent_audit tree n a rows x ≡ with_parent_audit tree n a others x
told_as tree n u a rows others x above same = told_there tree n u a rows x above ∙ touch_as u (with_told a) rows others x same ∙ sym (told_there tree n u a others x above)

pub told_stays : (tree : List Place) (n u : List ℕ) (a : Audit) (rows : Rows) (x : List ℕ) → up (nodes_in tree) n ≡ Some u → bytes_eq u x ≡ false → with_parent_audit tree n a rows x ≡ rows x
told_stays tree n u a rows x above other = told_there tree n u a rows x above ∙ untouched u (with_told a) rows x other

seen_after : (c : Controllers) (n worker : List ℕ) (rw : List (List ℕ)) (at : ℕ) (x : List ℕ) → IsSent c n worker rw at
    → seen_shown (later c n worker rw at) x ≡ with_parent_audit (places c.master.ticket.rows) n (told_of c n worker rw at) (seen_shown c) x
seen_after c n worker copies at x s =
    let rows = c.master.ticket.rows in
    let made = spawning.spawned_audit rows (new c n worker copies at) in
    let above : parent_of rows n ≡ s.above = ap (λ o. option_map_or (λ v. v) o []) s.is_above in
    append_of_rows (parent_of rows n) made rows s.valid (ap (has_node rows) above ∙ s.above_known) x
    ∙ ap (λ u. with_row_changed u (with_told made) (row_in rows) x) above
    ∙ ap (λ a. with_row_changed s.above (with_told a) (row_in rows) x) (audit_shown c n worker copies at s)
    ∙ sym (told_there (places rows) n s.above (told_of c n worker copies at) (row_in rows) x s.is_above)

-- ---- holders

tree_stays : (c : Controllers) (n worker : List ℕ) (rw : List (List ℕ)) (at : ℕ) → places (later c n worker rw at).master.ticket.rows ≡ places c.master.ticket.rows
tree_stays c n worker copies at = append_of_places _ _ c.master.ticket.rows

-- the new spawn holds what it claims
new_holds : (c : Controllers) (n worker : List ℕ) (rw : List (List ℕ)) (at : ℕ) (x : List ℕ) (p : Place) → IsSent c n worker rw at → place_at (places c.master.ticket.rows) x ≡ Some p → is_claimed n (new c n worker rw at).rw p ≡ true
    → holder (later c n worker rw at).master x ≡ Some (Spawn (master.next_number c.master.records))
new_holds c n worker copies at x p s there claims =
    let d = later c n worker copies at in
    let r = new c n worker copies at in
    let at_x : place_at (places d.master.ticket.rows) x ≡ Some p = ap (λ tree. place_at tree x) (tree_stays c n worker copies at) ∙ there in
    let held = claim_is_held d.master.ticket.rows d.master.records s.next.apart (length c.master.records) r x p (get_last c.master.records r) refl at_x claims in
    ap (option_map (holder_at d.master.records)) at_x ∙ ap (λ o. Some (option_map_or (λ (q : SpawnRec). Spawn q.id) o Master)) held

-- and none held it before
free_before : (c : Controllers) (n worker : List ℕ) (rw : List (List ℕ)) (at : ℕ) (x : List ℕ) (p : Place) (o : Option SpawnRec) → IsSent c n worker rw at → place_at (places c.master.ticket.rows) x ≡ Some p → is_claimed n (new c n worker rw at).rw p ≡ true
    → holding_record c.master.records p ≡ o → o ≡ None
free_before c n worker copies at x p None s there claims held = refl
free_before c n worker copies at x p (Some q) s there claims held =
    let d = later c n worker copies at in
    let r = new c n worker copies at in
    let records = c.master.records in
    let place = placed (holds p) records q held in
    let at_x : place_at (places d.master.ticket.rows) x ≡ Some p = ap (λ tree. place_at tree x) (tree_stays c n worker copies at) ∙ there in
    let q_holds : holds p q ≡ true = find-passes (holds p) records q held in
    let one : place.place ≡ length records = s.next.apart.apart x p place.place (length records) q r at_x (get_front records (r ∷ []) place.place q place.there) (get_last records r) q_holds claims in
    let within : place.place < length records = slice_get_within records place.place q place.there in
    absurd (omega (arith, one, within))

masters_before : (c : Controllers) (n worker : List ℕ) (rw : List (List ℕ)) (at : ℕ) (x : List ℕ) (p : Place) → IsSent c n worker rw at → place_at (places c.master.ticket.rows) x ≡ Some p → is_claimed n (new c n worker rw at).rw p ≡ true → holder c.master x ≡ Some Master
masters_before c n worker copies at x p s there claims =
    ap (option_map (holder_at c.master.records)) there
    ∙ ap (λ o. Some (option_map_or (λ (q : SpawnRec). Spawn q.id) o Master)) (free_before c n worker copies at x p (holding_record c.master.records p) s there claims refl)

-- what it doesn't claim is held as it was
or_else : (o : Option SpawnRec) (r : SpawnRec) (b : Bool) → b ≡ false → option_or o (cond b (Some r) None) ≡ o
or_else None r true e = cc
or_else None r false e = refl
or_else (Some q) r b e = refl

held_before : (recs : List SpawnRec) (r : SpawnRec) (o : Option Place) → is_out r ≡ true → option_map_or (is_claimed r.node r.rw) o false ≡ false → option_map (holder_at (recs ++ r ∷ [])) o ≡ option_map (holder_at recs) o
held_before recs r None out off = refl
held_before recs r (Some p) out off =
    ap (λ o. Some (option_map_or (λ (q : SpawnRec). Spawn q.id) o Master))
    (find-append (holds p) recs (r ∷ []) ∙ or_else (holding_record recs p) r (holds p r) (ap (λ b. b && is_claimed r.node r.rw p) out ∙ off))

holder_before : (c : Controllers) (n worker : List ℕ) (rw : List (List ℕ)) (at : ℕ) (x : List ℕ) → option_map_or (is_claimed n (new c n worker rw at).rw) (place_at (places c.master.ticket.rows) x) false ≡ false → holder (later c n worker rw at).master x ≡ holder c.master x
holder_before c n worker copies at x off =
    let r = new c n worker copies at in
    ap (λ tree. option_map (holder_at (c.master.records ++ r ∷ [])) (place_at tree x)) (tree_stays c n worker copies at)
    ∙ held_before c.master.records r (place_at (places c.master.ticket.rows) x) refl off

-- the master holds the parent
above_is_masters : (c : Controllers) (n worker : List ℕ) (rw : List (List ℕ)) (at : ℕ) → (s : IsSent c n worker rw at) → holder (later c n worker rw at).master s.above ≡ Some Master
above_is_masters c n worker copies at s =
    let d = later c n worker copies at in
    let r = new c n worker copies at in
    let rows = d.master.ticket.rows in
    let above : parent_of rows n ≡ s.above = ap (λ tree. option_map_or (λ v. v) (up (nodes_in tree) n) []) (tree_stays c n worker copies at) ∙ ap (λ o. option_map_or (λ v. v) o []) s.is_above in
    ap (holder d.master) (sym above) ∙ parent_is_masters rows d.master.records s.next.valid s.next.apart (length c.master.records) r (get_last c.master.records r) refl

-- ---- entries

entry_by : (c : Controllers) (r : SpawnRec) (o : Option SpawnRec) (b : Bool) → entry_for c r ≡ None → option_and_then (entry_for c) (option_or o (cond b (Some r) None)) ≡ option_and_then (entry_for c) o
entry_by c r None true none = none
entry_by c r None false none = refl
entry_by c r (Some q) b none = refl

-- the entries are as they were
entry_before : (c : Controllers) (n worker : List ℕ) (rw : List (List ℕ)) (at k : ℕ) → IsSent c n worker rw at → entry_of_spawn (later c n worker rw at) k ≡ entry_of_spawn c k
entry_before c n worker copies at k s =
    let r = new c n worker copies at in
    ap (option_and_then (entry_for c)) (find-append (is_of k) c.master.records (r ∷ [])) ∙ entry_by c r (record_of c.master.records k) (is_of k r) s.no_entry

-- and there is none of the new spawn
entry_new : (c : Controllers) (n worker : List ℕ) (rw : List (List ℕ)) (at : ℕ) → IsSent c n worker rw at → entry_of_spawn (later c n worker rw at) (master.next_number c.master.records) ≡ None
entry_new c n worker copies at s =
    ap (option_and_then (entry_for c)) (found_last c.master.records (new c n worker copies at) s.numbered refl) ∙ s.no_entry

-- ---- what is now

-- the row of what isn't claimed, by its holder
row_before : (c : Controllers) (n worker : List ℕ) (rw : List (List ℕ)) (at : ℕ) (x : List ℕ) (h : Option Holder) → IsSent c n worker rw at → holder (later c n worker rw at).master x ≡ h → holder c.master x ≡ h
    → row_at (later c n worker rw at) x h ≡ with_parent_audit (places c.master.ticket.rows) n (told_of c n worker rw at) (now_shown c) x
row_before c n worker copies at x None s held before =
    seen_after c n worker copies at x s ∙ told_as (places c.master.ticket.rows) n s.above (told_of c n worker copies at) (seen_shown c) (now_shown c) x s.is_above (sym (ap (row_at c x) before))
row_before c n worker copies at x (Some Master) s held before =
    seen_after c n worker copies at x s ∙ told_as (places c.master.ticket.rows) n s.above (told_of c n worker copies at) (seen_shown c) (now_shown c) x s.is_above (sym (ap (row_at c x) before))
row_before c n worker copies at x (Some (Spawn k)) s held before =
    let tree = places c.master.ticket.rows in
    let d = later c n worker copies at in
    let told = told_of c n worker copies at in
    let other = not_masters d.master s.above x k (above_is_masters c n worker copies at s) held in
    ap (λ o. option_map_or (λ p. part_row p x) (option_and_then (λ (e : Entry). e.part) o) (seen_shown d x)) (entry_before c n worker copies at k s)
    ∙ ap (option_map_or (λ p. part_row p x) (part_of_spawn c k)) (seen_after c n worker copies at x s ∙ told_stays tree n s.above told (seen_shown c) x s.is_above other)
    ∙ sym (told_stays tree n s.above told (now_shown c) x s.is_above other ∙ ap (row_at c x) before)

-- ---- both, point by point

record IsSame (c : Controllers) (n worker : List ℕ) (rw : List (List ℕ)) (at : ℕ) (x : List ℕ) : Type 0 where
  holds_it : holder (later c n worker rw at).master x ≡ with_claim (next c n worker rw) (places c.master.ticket.rows) (holder c.master) x
  shows_it : now_shown (later c n worker rw at) x ≡ with_parent_audit (places c.master.ticket.rows) n (told_of c n worker rw at) (now_shown c) x

some_passes : (f : Place → Bool) (o : Option Place) → option_map_or f o false ≡ true → (p : Place) × (o ≡ Some p) × (f p ≡ true)
some_passes f None e = absurd (true≢false (sym e))
some_passes f (Some p) e = (p, refl, e)

same_by : (c : Controllers) (n worker : List ℕ) (rw : List (List ℕ)) (at : ℕ) (x : List ℕ) (b : Bool) → IsSent c n worker rw at → option_map_or (is_claimed n (new c n worker rw at).rw) (place_at (places c.master.ticket.rows) x) false ≡ b → IsSame c n worker rw at x
same_by c n worker copies at x true s on =
    let tree = places c.master.ticket.rows in
    let d = later c n worker copies at in
    let a = next c n worker copies in
    let claimed = some_passes (is_claimed n (new c n worker copies at).rw) (place_at tree x) on in
    let held = new_holds c n worker copies at x claimed.0 s claimed.1 claimed.2 in
    let before = masters_before c n worker copies at x claimed.0 s claimed.1 claimed.2 in
    record {
      holds_it = held ∙ ap (λ k. Some (Spawn k)) (sym (number_shown c)) ∙ sym (ap (λ b. cond b (Some (Spawn a.number)) (holder c.master x)) on);
      shows_it = ap (row_at d x) held ∙ ap (λ o. option_map_or (λ p. part_row p x) (option_and_then (λ (e : Entry). e.part) o) (seen_shown d x)) (entry_new c n worker copies at s)
          ∙ seen_after c n worker copies at x s ∙ told_as tree n s.above (told_of c n worker copies at) (seen_shown c) (now_shown c) x s.is_above (sym (ap (row_at c x) before));
    }
same_by c n worker copies at x false s off =
    let d = later c n worker copies at in
    let a = next c n worker copies in
    let same = holder_before c n worker copies at x off in
    record {
      holds_it = same ∙ sym (ap (λ b. cond b (Some (Spawn a.number)) (holder c.master x)) off);
      shows_it = row_before c n worker copies at x (holder d.master x) s refl (sym same);
    }

-- ---- the whole

spawns_after : (c : Controllers) (n worker : List ℕ) (rw : List (List ℕ)) (at : ℕ) → IsSent c n worker rw at → map (spawn_shown c) (c.master.records ++ new c n worker rw at ∷ []) ≡ map (spawn_shown c) c.master.records ++ next c n worker rw ∷ []
spawns_after c n worker copies at s =
    let r = new c n worker copies at in
    let spawns = map (spawn_shown c) c.master.records in
    map-append (spawn_shown c) c.master.records (r ∷ [])
    ∙ ap (λ (o : Option Entry). spawns ++ record { number = r.id; node = n; worker = worker; rw = r.rw; phase = phase_shown recorded.Out o } ∷ []) s.no_entry
    ∙ ap (λ k. spawns ++ record { number = k; node = n; worker = worker; rw = r.rw; phase = Away } ∷ []) (sym (number_shown c))

spawn_is_shown : (c : Controllers) (n worker : List ℕ) (rw : List (List ℕ)) (at : ℕ) → IsSent c n worker rw at → shop_shown (later c n worker rw at) ≡ after_spawn n worker rw at (shop_shown c)
spawn_is_shown c n worker copies at s =
    let same : (x : List ℕ) → IsSame c n worker copies at x = λ x. same_by c n worker copies at x _ s refl in
    same_shop (shop_shown (later c n worker copies at)) (after_spawn n worker copies at (shop_shown c))
    (record {
      master = refl;
      workers = refl;
      job = refl;
      tree = tree_stays c n worker copies at;
      seen = λ x. seen_after c n worker copies at x s;
      now = λ x. (same x).shows_it;
      holder = λ x. (same x).holds_it;
      spawns = spawns_after c n worker copies at s;
    })

pub master_spawns : (w : State) (n worker : List ℕ) (rw : List (List ℕ)) (at : ℕ) → IsConsistent w
    → Agrees (master_moved w.controllers (ordered_master (order.Spawn n worker rw) at w.controllers.master)) (master_does (order.Spawn n worker rw) at (shop_shown w.controllers))
master_spawns w n worker copies at kept =
    let c = w.controllers in
    order_agrees c _ _ (orders.order_refusal (order.Spawn n worker copies) c.master) (spawn_refusal n worker copies (shop_shown c)) (spawn_refused n worker copies c kept.master.valid)
    (λ none. record {
      reply = ap (λ k. Ok (reply.Spawned k)) (sym (number_shown c));
      next = spawn_is_shown c n worker copies at (sent_of c n worker copies at kept.master kept.recorded none);
      sent = ap (λ k. Some (Submit k)) (sym (number_shown c));
    })
