-- A spawn that has ended, so that it isn't out, holds nothing, and the master what it claimed.
use Rattle.std.proofs.Common.{◌≡◌, ◌∙◌, ◌⊎◌, ℕ, zero, suc, ◌&&◌, Bool, true, false, cond, List, []}
use Rattle.std.proofs.Common.{◌∷◌, Option, Some, None, slice_get, slice_set, inl, inr, refl, sym}
use Rattle.std.proofs.Common.{ap, arith}
use Rattle.std.proofs.lemmas.Bool.{true≢false, and_from, and_parts}
use Rattle.std.specs.List.{find}
use Rattle.std.specs.Option.{option_map, option_map_or}
use Rattle.ticket_items.specs.declared.node_row.NodeRow.{NodeRow}
use Rattle.ticket_rows.proofs.AtHome.{find-passes}
use Rattle.ticket_rows.specs.Place.{Place, place_at, places}
use Rattle.spawn.proofs.Lawful.{placed}
use Rattle.spawn.proofs.NewRecord.{good_stays}
use Rattle.plain_shop.specs.Claim.{is_claimed}
use Rattle.spawn.specs.Laws.{EndKeepsApart, EndKeepsOthers, EndedClaimIsMasters, StandApart}
use Rattle.spawn.specs.Records.{is_out}
use Rattle.spawn.specs.Table.{holder_at, holding_record, holds}
use Rattle.world_items.specs.declared.holder.Holder.TheVariants.{Master, Spawn}
use Rattle.spawn.specs.declared.records.spawn_rec.SpawnRec.{SpawnRec}

-- ---- a record put in the place of another

-- a record is the one that was put in, or stands elsewhere as it did
set_found : (xs : List SpawnRec) (k j : ℕ) (v y : SpawnRec)
    → slice_get (slice_set xs k v) j ≡ Some y → (y ≡ v) ⊎ ((j ≡ k → ⊥) × (slice_get xs j ≡ Some y))
set_found [] k j v y e = cc
set_found (x ∷ xs) zero zero v y e = inl (sym (ap (λ o. option_map_or (λ s. s) o v) e))
set_found (x ∷ xs) zero (suc j) v y e = inr (λ same. absurd (omega (arith, same)), e)
set_found (x ∷ xs) (suc k) zero v y e = inr (λ same. absurd (omega (arith, same)), e)
set_found (x ∷ xs) (suc k) (suc j) v y e =
    elim (set_found xs k j v y e) [
      | inl new ↦ inl new
      | inr old ↦ inr (λ same. old.0 (omega (arith, same)), old.1)
    ]

-- what fails before and after isn't missed
pub find_set : (f : SpawnRec → Bool) (xs : List SpawnRec) (k : ℕ) (r v : SpawnRec)
    → slice_get xs k ≡ Some r → f r ≡ false → f v ≡ false → find f (slice_set xs k v) ≡ find f xs
find_set f [] k r v there old new = cc
find_set f (x ∷ xs) zero r v there old new =
    let same : f x ≡ false = ap (λ o. option_map_or f o false) there ∙ old in
    ap (λ b. cond b (Some v) (find f xs)) new ∙ sym (ap (λ b. cond b (Some x) (find f xs)) same)
find_set f (x ∷ xs) (suc k) r v there old new = ap (cond (f x) (Some x)) (find_set f xs k r v there old new)

-- ---- what has ended

-- it holds nothing
pub holds_nothing : (p : Place) (ended : SpawnRec) → is_out ended ≡ false → holds p ended ≡ false
holds_nothing p ended off = ap (λ b. b && is_claimed ended.node ended.rw p) off

ended_out : (r s : SpawnRec) → is_out r ≡ false → s ≡ r → is_out s ≡ true → ⊥
ended_out r s off same out = true≢false (sym out ∙ ap is_out same ∙ off)

ended_holds : (p : Place) (r s : SpawnRec) → is_out r ≡ false → s ≡ r → holds p s ≡ true → ⊥
ended_holds p r s off same held = ended_out r s off same (and_parts (is_out s) (is_claimed s.node s.rw p) held).0

-- no record holds what it claimed
pub none_holds : (o : Option SpawnRec) (rows : List NodeRow) (recs : List SpawnRec) (k : ℕ)
    (r ended : SpawnRec) (x : List ℕ) (p : Place)
    → StandApart rows recs → slice_get recs k ≡ Some r → is_out r ≡ true → is_out ended ≡ false
    → place_at (places rows) x ≡ Some p → is_claimed r.node r.rw p ≡ true
    → holding_record (slice_set recs k ended) p ≡ o → o ≡ None
none_holds None rows recs k r ended x p apart at out off there claims e = refl
none_holds (Some s) rows recs k r ended x p apart at out off there claims e =
    let news = slice_set recs k ended in
    let held = find-passes (holds p) news s e in
    let place = placed (holds p) news s e in
    elim (set_found recs k place.place ended s place.there) [
      | inl new ↦ absurd (ended_holds p ended s off new held)
      | inr old ↦ absurd (old.0 (apart.apart x p place.place k s r there old.1 at held (and_from _ _ out claims)))
    ]

-- ---- the laws

pub end_keeps_apart : EndKeepsApart
end_keeps_apart rows later recs k r ended same apart there out off =
    record {
      good = λ j s at is.
          elim (set_found recs k j ended s at) [
            | inl new ↦ absurd (ended_out ended s off new is)
            | inr old ↦ good_stays rows later s same (apart.good j s old.1 is)
          ];
      apart = λ x q i j s u stands at_s at_u held_s held_u.
          elim (set_found recs k i ended s at_s) [
            | inl new ↦ absurd (ended_holds q ended s off new held_s)
            | inr old_s ↦
                elim (set_found recs k j ended u at_u) [
                  | inl new ↦ absurd (ended_holds q ended u off new held_u)
                  | inr old_u ↦ apart.apart x q i j s u (ap (λ tree. place_at tree x) (sym same) ∙ stands) old_s.1 old_u.1 held_s held_u
                ]
          ];
    }

pub ended_claim_is_masters : EndedClaimIsMasters
ended_claim_is_masters rows later recs k r ended same apart there out off x p stands claims =
    let news = slice_set recs k ended in
    ap (λ tree. option_map (holder_at news) (place_at tree x)) same
    ∙ ap (option_map (holder_at news)) stands
    ∙ ap (λ o. Some (option_map_or (λ s. Spawn s.id) o Master)) (none_holds (holding_record news p) rows recs k r ended x p apart there out off stands claims refl)

others_at : (o : Option Place) (recs : List SpawnRec) (k : ℕ) (r ended : SpawnRec)
    → slice_get recs k ≡ Some r → is_out r ≡ true → is_out ended ≡ false
    → option_map_or (is_claimed r.node r.rw) o false ≡ false
    → option_map (holder_at (slice_set recs k ended)) o ≡ option_map (holder_at recs) o
others_at None recs k r ended there out off claims = refl
others_at (Some p) recs k r ended there out off claims =
    ap (λ o. Some (option_map_or (λ s. Spawn s.id) o Master)) (find_set (holds p) recs k r ended there (ap (λ b. b && is_claimed r.node r.rw p) out ∙ claims) (holds_nothing p ended off))

pub end_keeps_others : EndKeepsOthers
end_keeps_others rows later recs k r ended same there out off x claims =
    ap (λ tree. option_map (holder_at (slice_set recs k ended)) (place_at tree x)) same ∙ others_at (place_at (places rows) x) recs k r ended there out off claims
