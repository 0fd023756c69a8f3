-- A spawn that is out, before it ends: what it claims, and the node above it, which the master holds.
use Rattle.std.proofs.Common.{◌≡◌, ◌∙◌, ℕ, Bool, true, false, List, [], Option, Some, None, refl, sym, ap}
use Rattle.std.proofs.lemmas.Bool.{true≢false}
use Rattle.std.proofs.lemmas.Slice.Eq.{bytes_eq-Decides}
use Rattle.std.specs.Option.{option_and_then, option_map_or}
use Rattle.std.specs.Str.{bytes_eq}
use Rattle.ticket_rows.specs.Place.{Place, node_places, parent, place_at, up}
use Rattle.ticket_rows.specs.Ticket.{has_node}
use Rattle.ticket_tree.proofs.Parents.{one_parent_each}
use Rattle.spawn.proofs.Lawful.{parent_is_masters, placed}
use Rattle.spawn.proofs.Outside.{some_of}
use Rattle.plain_shop.specs.Claim.{is_claimed}
use Rattle.spawn.specs.Records.{IsGood, is_out}
use Rattle.spawn.specs.Spawning.{parent_of}
use Rattle.spawn.specs.declared.records.spawn_rec.SpawnRec.{SpawnRec}
use Rattle.world_items.specs.declared.holder.Holder.{Holder}
use Rattle.world_items.specs.declared.holder.Holder.TheVariants as held_by
use Rattle.master_core.specs.Master as master
use Rattle.world.proofs.Runs.Cases.{split}
use Rattle.world.proofs.Master.HeldBySpawn.{good_record, held_claims}
use Rattle.world.proofs.Master.Spawns.{above_by}
use Rattle.world.proofs.Worker.PartHolds.{claims}
use Rattle.world.specs.Controllers.{Controllers}
use Rattle.plain_shop.specs.Acts as acts

-- a record that is out, and the node above that of its spawn
pub record IsOutThere (c : Controllers) (r : SpawnRec) : Type 0 where
  pub kept : master.IsConsistent c.master
  pub recorded : master.record_of c.master.records r.id ≡ Some r
  pub out : is_out r ≡ true
  pub above : List ℕ
  pub is_above : up (node_places c.master.ticket.rows) r.node ≡ Some above

pub good_of : (c : Controllers) (r : SpawnRec) → IsOutThere c r → IsGood c.master.ticket.rows r
good_of c r h = good_record c.master r.id r h.kept h.recorded h.out

pub out_there : (c : Controllers) (r : SpawnRec) → master.IsConsistent c.master → master.record_of c.master.records r.id ≡ Some r → is_out r ≡ true → IsOutThere c r
out_there c r kept recorded out =
    let above = some_of (up (node_places c.master.ticket.rows) r.node) (good_record c.master r.id r kept recorded out).has_parent in
    record { kept = kept; recorded = recorded; out = out; above = above.0; is_above = above.1 }

pub parent_is : (c : Controllers) (r : SpawnRec) → (h : IsOutThere c r) → parent_of c.master.ticket.rows r.node ≡ h.above
parent_is c r h = ap (λ o. option_map_or (λ u. u) o []) h.is_above

-- a node that has one above it stands
stands_below : (tree : List Place) (n u : List ℕ) → up tree n ≡ Some u → (p : Place) × (place_at tree n ≡ Some p)
stands_below tree n u above = by (place_at tree n) refl above
  where
    by : (o : Option Place) → place_at tree n ≡ o → option_and_then parent o ≡ Some u → (p : Place) × (place_at tree n ≡ Some p)
    by None there e = cc
    by (Some p) there e = (p, there)

-- the one above is a node of the ticket
pub above_stands : (c : Controllers) (r : SpawnRec) → (h : IsOutThere c r) → has_node c.master.ticket.rows h.above ≡ true
above_stands c r h =
    let rows = c.master.ticket.rows in
    let there = stands_below (node_places rows) r.node h.above h.is_above in
    above_by rows r.node h.above there.0 there.1 h.is_above (one_parent_each rows h.kept.valid r.node there.0 there.1)

-- ---- what it claims

-- whether the spawn holds what has an id
abbrev pub holds_it : Controllers → SpawnRec → List ℕ → Bool
holds_it c r x = acts.is_held_by r.id (master.holder c.master) x

pub holds_claim : (c : Controllers) (r : SpawnRec) (x : List ℕ) → IsOutThere c r → holds_it c r x ≡ claims c.master.ticket r x
holds_claim c r x h = held_claims c.master r.id r x h.kept h.recorded h.out

pub claimed_place : (r : SpawnRec) (o : Option Place) → option_map_or (is_claimed r.node r.rw) o false ≡ true → (q : Place) × (o ≡ Some q) × (is_claimed r.node r.rw q ≡ true)
claimed_place r None e = absurd (true≢false (sym e))
claimed_place r (Some q) e = (q, refl, e)

-- what a spawn holds isn't the parent of the node
pub parent_free : (c : Controllers) (r : SpawnRec) (x : List ℕ) (t : ℕ) → (h : IsOutThere c r) → master.holder c.master x ≡ Some (held_by.Spawn t) → bytes_eq h.above x ≡ false
parent_free c r x t h held =
    let m = c.master in
    let place = placed (master.is_of r.id) m.records r h.recorded in
    let masters : master.holder m h.above ≡ Some held_by.Master = ap (master.holder m) (sym (parent_is c r h)) ∙ parent_is_masters m.ticket.rows m.records h.kept.valid h.kept.apart place.place r place.there h.out in
    split (bytes_eq h.above x)
    (λ same. not_both (master.holder m x) (ap (master.holder m) (sym ((bytes_eq-Decides h.above x).0 same)) ∙ masters) held)
    (λ other. other)
  where
    not_both : {P : Type 0} (o : Option Holder) → o ≡ Some held_by.Master → o ≡ Some (held_by.Spawn t) → P
    not_both o a b = cc
