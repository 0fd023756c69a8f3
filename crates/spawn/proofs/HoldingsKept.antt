-- The ids that spawns hold are kept in step with a ticket and its records, as a spawn goes out and as
-- it ends.
use Rattle.std.proofs.Common.{◌≡◌, ◌∙◌, ℕ, ◌&&◌, Bool, true, false, cond, List}
use Rattle.std.proofs.Common.{[], ◌∷◌, ◌++◌, Option, Some, None, slice_set, refl}
use Rattle.std.proofs.Common.{sym, ap, subst, Result, Ok, Err, OnOk, OnErr}
use Rattle.std.proofs.lemmas.List.Folds.{find-append}
use Rattle.std.specs.Option.{option_and_then, option_map, option_map_or, option_or}
use Rattle.ticket_rows.specs.Place.{Place, place_at, places}
use Rattle.ticket_items.specs.declared.node_row.NodeRow.{NodeRow}
use Rattle.spawn.proofs.Ended.{find_set, holds_nothing, none_holds}
use Rattle.spawn.proofs.KeptApart.{free, wanted_too}
use Rattle.spawn.proofs.NoneHeld.{none_held}
use Rattle.plain_shop.specs.Claim.{is_claimed}
use Rattle.ticket_rows.specs.Ticket.{Job}
use Rattle.ticket_tree.proofs.PlainOneRow.{append_of_places}
use Rattle.spawn.specs.Holdings.{Holdings, IsFree, IsGiven, IsSame, IsTable, claims, holding_spawn}
use Rattle.spawn.specs.HoldingsLaws.{ClaimIsFree, EndKeepsTable, SpawnKeepsTable}
use Rattle.spawn.specs.Records.{is_out}
use Rattle.spawn.specs.Spawning.{job_after_spawn, new_record, parent_of, spawned_audit}
use Rattle.spawn.specs.Table.{as_spawn, holder_at, holding_record, holds}
use Rattle.world_items.specs.declared.holder.Holder.TheVariants.{Master, Spawn}
use Rattle.spawn.specs.declared.records.spawn_rec.SpawnRec.{SpawnRec}

-- ---- a claim given to a spawn, or to none

-- the spawn that holds what stands at a place
abbrev spawn_at : List SpawnRec → Place → Option ℕ
spawn_at recs p = as_spawn (holder_at recs p)

-- the records later, where this spawn, or none, has what the claim has, and all else has its own
record Gives (tree : List Place) (recs news : List SpawnRec) (r : SpawnRec) (who : Option ℕ) : Type 0 where
  own : (x : List ℕ) (p : Place) → place_at tree x ≡ Some p → is_claimed r.node r.rw p ≡ true → spawn_at news p ≡ who
  others : (x : List ℕ) (p : Place) → place_at tree x ≡ Some p → is_claimed r.node r.rw p ≡ false → spawn_at news p ≡ spawn_at recs p

given_by : (b : Bool) (tree : List Place) (recs news : List SpawnRec) (r : SpawnRec)
    (who : Option ℕ) (x : List ℕ) (p : Place)
    → Gives tree recs news r who → place_at tree x ≡ Some p → is_claimed r.node r.rw p ≡ b
    → cond b who (spawn_at recs p) ≡ spawn_at news p
given_by true tree recs news r who x p gives there claimed = sym (gives.own x p there claimed)
given_by false tree recs news r who x p gives there claimed = sym (gives.others x p there claimed)

given_place : (o : Option Place) (rows : List NodeRow) (recs news : List SpawnRec) (r : SpawnRec)
    (who : Option ℕ) (h : Holdings) (x : List ℕ)
    → Gives (places rows) recs news r who → IsTable rows recs h → place_at (places rows) x ≡ o
    → cond (claims rows r x) who (holding_spawn h x)
    ≡ option_and_then as_spawn (option_map (holder_at news) o)
given_place None rows recs news r who h x gives table there =
    ap (λ o. cond (option_map_or (is_claimed r.node r.rw) o false) who (holding_spawn h x)) there
    ∙ table.same x ∙ ap (λ o. option_and_then as_spawn (option_map (holder_at recs) o)) there
given_place (Some p) rows recs news r who h x gives table there =
    ap (λ o. cond (option_map_or (is_claimed r.node r.rw) o false) who (holding_spawn h x)) there
    ∙ ap (cond (is_claimed r.node r.rw p) who) (table.same x ∙ ap (λ o. option_and_then as_spawn (option_map (holder_at recs) o)) there)
    ∙ given_by (is_claimed r.node r.rw p) (places rows) recs news r who x p gives there refl

claim_kept : (rows later : List NodeRow) (recs news : List SpawnRec) (r : SpawnRec)
    (who : Option ℕ) (h after : Holdings)
    → places later ≡ places rows → Gives (places rows) recs news r who → IsTable rows recs h
    → IsGiven (claims rows r) who h after → IsTable later news after
claim_kept rows later recs news r who h after still gives table given =
    record {
      same = λ x. given.each x ∙ given_place (place_at (places rows) x) rows recs news r who h x gives table refl
          ∙ ap (λ tree. option_and_then as_spawn (option_map (holder_at news) (place_at tree x))) (sym still);
    }

-- ---- a spawn

abbrev whose : Option SpawnRec → Option ℕ
whose o = as_spawn (option_map_or (λ s. Spawn s.id) o Master)

last_holds : (o : Option SpawnRec) (r : SpawnRec) (b : Bool) → whose o ≡ None → b ≡ true
    → whose (option_or o (cond b (Some r) None)) ≡ Some r.id
last_holds None r true none on = refl
last_holds None r false none on = cc
last_holds (Some s) r b none on = cc

or_else : (o : Option SpawnRec) (r : SpawnRec) (b : Bool) → b ≡ false
    → option_or o (cond b (Some r) None) ≡ o
or_else None r true off = cc
or_else None r false off = refl
or_else (Some s) r b off = refl

-- a place of a claim that is free has no spawn
free_at : (rows : List NodeRow) (recs : List SpawnRec) (r : SpawnRec) (h : Holdings) (x : List ℕ)
    (p : Place)
    → IsTable rows recs h → IsFree (claims rows r) h → place_at (places rows) x ≡ Some p
    → is_claimed r.node r.rw p ≡ true → spawn_at recs p ≡ None
free_at rows recs r h x p table free there claimed =
    sym (table.same x ∙ ap (λ o. option_and_then as_spawn (option_map (holder_at recs) o)) there)
    ∙ free.none x (ap (λ o. option_map_or (is_claimed r.node r.rw) o false) there ∙ claimed)

pub spawn_keeps_table : SpawnKeepsTable
spawn_keeps_table rows later recs r h after still out table free given =
    claim_kept rows later recs (recs ++ r ∷ []) r (Some r.id) h after still
    (record {
      own = λ x p there claimed. ap whose (find-append (holds p) recs (r ∷ []))
          ∙ last_holds (holding_record recs p) r (holds p r) (free_at rows recs r h x p table free there claimed) (ap (λ b. b && is_claimed r.node r.rw p) out ∙ claimed);
      others = λ x p there off. ap whose (find-append (holds p) recs (r ∷ []) ∙ or_else (holding_record recs p) r (holds p r) (ap (λ b. b && is_claimed r.node r.rw p) out ∙ off));
    }) table given

-- one that isn't out changes nothing
pub none_keeps_table : (rows : List NodeRow) (recs : List SpawnRec) (r : SpawnRec) (h : Holdings)
    → is_out r ≡ false → IsTable rows recs h → IsTable rows (recs ++ r ∷ []) h
none_keeps_table rows recs r h off table =
    record {
      same = λ x. table.same x ∙ ap (option_and_then as_spawn) (place (place_at (places rows) x));
    }
  where
    place : (o : Option Place) → option_map (holder_at recs) o ≡ option_map (holder_at (recs ++ r ∷ [])) o
    place None = refl
    place (Some p) = ap (λ o. Some (option_map_or (λ (s : SpawnRec). Spawn s.id) o Master)) (sym (find-append (holds p) recs (r ∷ []) ∙ or_else (holding_record recs p) r (holds p r) (ap (λ b. b && is_claimed r.node r.rw p) off)))

pub claim_is_free : ClaimIsFree
claim_is_free rows recs number n worker ids time h none table =
    record { none = λ x claimed. by (place_at (places rows) x) x refl claimed }
  where
    r : SpawnRec
    r = new_record rows number n worker ids time

    by : (o : Option Place) (x : List ℕ) → place_at (places rows) x ≡ o
        → option_map_or (is_claimed r.node r.rw) o false ≡ true → holding_spawn h x ≡ None
    by None x there claimed = cc
    by (Some p) x there claimed =
        let held : holding_record recs p ≡ None = none_held (is_claimed n ids) recs (places rows) x p (free rows recs number n ids none) there (wanted_too rows number n worker ids time p claimed) in
        table.same x ∙ ap (λ o. option_and_then as_spawn (option_map (holder_at recs) o)) there ∙ ap whose held

-- whether it goes out or fails, which changes nothing
pub tried_keeps_table : {X E : Type 0} (result : Result X E) (t later : Job)
    (recs news : List SpawnRec) (r : SpawnRec) (h after : Holdings)
    → is_out r ≡ true → IsTable t.rows recs h → IsFree (claims t.rows r) h
    → OnOk result (later ≡ job_after_spawn t r) → OnOk result (news ≡ recs ++ r ∷ [])
    → OnOk result (IsGiven (claims t.rows r) (Some r.id) h after)
    → OnErr result (later ≡ t) → OnErr result (news ≡ recs) → OnErr result (IsSame h after)
    → IsTable later.rows news after
tried_keeps_table (Ok x) t later recs news r h after out table free made put given _ _ _ =
    subst (λ (u : Job). IsTable u.rows news after) (sym made)
    (subst (λ rs. IsTable (job_after_spawn t r).rows rs after) (sym put)
    (spawn_keeps_table t.rows (job_after_spawn t r).rows recs r h after (append_of_places (parent_of t.rows r.node) (spawned_audit t.rows r) t.rows) out table free given))
tried_keeps_table (Err e) t later recs news r h after out table free _ _ _ still same alike =
    subst (λ (u : Job). IsTable u.rows news after) (sym still) (subst (λ rs. IsTable t.rows rs after) (sym same) (record { same = λ x. alike.each x ∙ table.same x }))

-- ---- the end of a spawn

pub end_keeps_table : EndKeepsTable
end_keeps_table rows later recs k r ended h after still apart at out off table given =
    claim_kept rows later recs (slice_set recs k ended) r None h after still
    (record {
      own = λ x p there claims'. ap whose (none_holds (holding_record (slice_set recs k ended) p) rows recs k r ended x p apart at out off there claims' refl);
      others = λ x p there free'. ap whose (find_set (holds p) recs k r ended at (ap (λ b. b && is_claimed r.node r.rw p) out ∙ free') (holds_nothing p ended off));
    }) table
    (moved given)
  where
    moved : IsGiven (claims later r) None h after → IsGiven (claims rows r) None h after
    moved is = record { each = λ x. is.each x ∙ ap (λ tree. cond (option_map_or (is_claimed r.node r.rw) (place_at tree x) false) None (holding_spawn h x)) still }
