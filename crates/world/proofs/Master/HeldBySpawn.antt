-- What a spawn that is out holds is what it claims.
use Rattle.std.proofs.Common.{◌≡◌, ◌∙◌, ℕ, true, false, List, Option, Some, None, refl, sym, ap}
use Rattle.std.proofs.lemmas.Bool.{eq-eqb, eqb-true, true≢false}
use Rattle.std.specs.Option.{option_map, option_map_or}
use Rattle.ticket_rows.specs.Place.{Place, place_at, places}
use Rattle.spawn.proofs.Lawful.{claim_is_held, held_is_claimed, placed}
use Rattle.plain_shop.specs.Claim.{is_claimed}
use Rattle.spawn.specs.Records.{IsGood, is_out}
use Rattle.spawn.specs.Table.{holder_at, holding_record, holds}
use Rattle.spawn.specs.declared.records.spawn_rec.SpawnRec.{SpawnRec}
use Rattle.world_items.specs.declared.holder.Holder.{Holder}
use Rattle.world_items.specs.declared.holder.Holder.TheVariants.{Master, Spawn}
use Rattle.master_core.proofs.Recorded.{number_is}
use Rattle.master_core.specs.Master.{IsConsistent, State, holder, is_of, record_of}
use Rattle.world.proofs.Worker.EndedEntries.{one_record}
use Rattle.world.proofs.Runs.Cases.{same_test}
use Rattle.world.proofs.Worker.PartHolds.{claims}
use Rattle.plain_shop.specs.Acts.{is_held_by, is_spawn}

-- a record that is out is good
pub good_record : (m : State) (s : ℕ) (r : SpawnRec) → IsConsistent m → record_of m.records s ≡ Some r → is_out r ≡ true → IsGood m.ticket.rows r
good_record m s r ok found out =
    let place = placed (is_of s) m.records r found in
    ok.apart.good place.place r place.there out

-- ---- who holds what

spawns_number : (s : ℕ) (o : Option SpawnRec) → is_spawn s (option_map_or (λ (q : SpawnRec). Spawn q.id) o Master) ≡ true → (q : SpawnRec) × (o ≡ Some q) × (q.id ≡ s)
spawns_number s None e = absurd (true≢false (sym e))
spawns_number s (Some q) e = (q, refl, eqb-true q.id s e)

held_at : (m : State) (s : ℕ) (r : SpawnRec) (x : List ℕ) (p : Place) → IsConsistent m → record_of m.records s ≡ Some r → is_out r ≡ true → place_at (places m.ticket.rows) x ≡ Some p → is_spawn s (holder_at m.records p) ≡ is_claimed r.node r.rw p
held_at m s r x p ok found out there =
    let place = placed (is_of s) m.records r found in
    same_test (is_spawn s (holder_at m.records p)) (is_claimed r.node r.rw p)
    (λ held.
    let by = spawns_number s (holding_record m.records p) held in
    let q = by.0 in
    let at = placed (holds p) m.records q by.1 in
    let same : q ≡ r = one_record m.records at.place s q r ok.numbered at.there found (by.2 ∙ sym (number_is m.records s r found)) in
    ap (λ (y : SpawnRec). is_claimed y.node y.rw p) (sym same) ∙ (held_is_claimed m.records q p by.1).1)
    (λ claimed.
    let held : holding_record m.records p ≡ Some r = claim_is_held m.ticket.rows m.records ok.apart place.place r x p place.there out there claimed in
    ap (λ o. is_spawn s (option_map_or (λ (q : SpawnRec). Spawn q.id) o Master)) held ∙ eq-eqb r.id s (number_is m.records s r found))

pub held_claims : (m : State) (s : ℕ) (r : SpawnRec) (x : List ℕ) → IsConsistent m → record_of m.records s ≡ Some r → is_out r ≡ true → is_held_by s (holder m) x ≡ claims m.ticket r x
held_claims m s r x ok found out = by (place_at (places m.ticket.rows) x) refl
  where
    by : (o : Option Place) → place_at (places m.ticket.rows) x ≡ o → option_map_or (is_spawn s) (option_map (holder_at m.records) o) false ≡ option_map_or (is_claimed r.node r.rw) o false
    by None there = refl
    by (Some p) there = held_at m s r x p ok found out there

-- whom a holder is
pub held_spawn : (s : ℕ) (o : Option Holder) → option_map_or (is_spawn s) o false ≡ true → o ≡ Some (Spawn s)
held_spawn s None e = absurd (true≢false (sym e))
held_spawn s (Some Master) e = absurd (true≢false (sym e))
held_spawn s (Some (Spawn t)) e = ap (λ n. Some (Spawn n)) (eqb-true t s e)
