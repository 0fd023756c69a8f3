-- Who holds an id, by the node at which it stands.
use Rattle.std.proofs.Common.{◌≡◌, ◌∙◌, ℕ, ◌&&◌, ◌||◌, Bool, true, false, cond, List, [], ◌∷◌}
use Rattle.std.proofs.Common.{Bor, Option, Some, None, is_some, subst, refl, sym, ap}
use Rattle.std.proofs.lemmas.Bool.{or_parts}
use Rattle.std.specs.Bool.{then_some}
use Rattle.std.specs.List.{find, list_any}
use Rattle.std.specs.Option.{option_and_then, option_copied, option_map, option_map_or}
use Rattle.std.specs.Str.{bytes_eq}
use Rattle.ticket_items.proofs.Apart.{or_false}
use Rattle.ticket_rows.proofs.AtHome.{mem-ids, holds}
use Rattle.ticket_rows.proofs.Below.{mem-node_ids}
use Rattle.ticket_tree.proofs.OnPlaces.{stands_somewhere, has_resource-any}
use Rattle.ticket_items.proofs.AtKey.{any_key}
use Rattle.ticket_rows.specs.Homes.{home_of, entry_of}
use Rattle.ticket_items.specs.Ids.{mem}
use Rattle.ticket_rows.specs.Place.{Place, places, node_places, place_at, is_below}
use Rattle.ticket_rows.specs.Ticket.{IsValid, has_node, ids}
use Rattle.ticket_items.specs.declared.node_row.NodeRow.{NodeRow}
use Rattle.spawn.proofs.Standing.{StandsAt, node_stands, resource_stands}
use Rattle.spawn.specs.Records.{is_out}
use Rattle.spawn.specs.Table.{as_spawn, stand_of, holder_at, holder_of, spawn_with}
use Rattle.world_items.specs.declared.holder.Holder.{Holder}
use Rattle.world_items.specs.declared.holder.Holder.TheVariants.{Master, Spawn}
use Rattle.spawn.specs.declared.records.spawn_rec.SpawnRec.{SpawnRec}

-- ---- the node at which a known id stands

same_some : {X : Type 0} (x y d : X) → Some x ≡ Some y → x ≡ y
same_some x y d e = ap (λ o. option_map_or (λ z. z) o d) e

stands_by : (known : Bool) (rows : List NodeRow) (x h : List ℕ) → IsValid rows
    → has_node rows x ≡ known → cond known (Some x) (home_of rows x) ≡ Some h → StandsAt rows x h
stands_by true rows x h valid known at = subst (λ i. StandsAt rows x i) (same_some x h x at) (node_stands rows x valid known)
stands_by false rows x h valid known at = resource_stands rows x h valid at

pub stands_at : (rows : List NodeRow) (x h : List ℕ) → IsValid rows → stand_of rows x ≡ Some h
    → StandsAt rows x h
stands_at rows x h valid at = stands_by (has_node rows x) rows x h valid refl at

-- ---- what a known id's holder is

pub find_as : {X : Type 0} (f g : X → Bool) → ((x : X) → f x ≡ g x) → (xs : List X)
    → find f xs ≡ find g xs
find_as f g same [] = refl
find_as f g same (x ∷ xs) = ap (λ b. cond b (Some x) (find f xs)) (same x) ∙ ap (cond (g x) (Some x)) (find_as f g same xs)

-- the spawns that are out and claim what stands under x at h
abbrev pub claims_at : List NodeRow → List ℕ → List ℕ → SpawnRec → Bool
claims_at rows x h r = is_out r && (is_below (node_places rows) h r.node || mem x r.rw)

pub held : (rows : List NodeRow) (recs : List SpawnRec) (x h : List ℕ) → IsValid rows
    → stand_of rows x ≡ Some h
    → holder_of rows recs x
    ≡ Some (option_map_or (λ r. Spawn r.id) (find (claims_at rows x h) recs) Master)
held rows recs x h valid at =
    let stands = stands_at rows x h valid at in
    ap (option_map (holder_at recs)) stands.there
    ∙ ap (λ o. Some (option_map_or (λ r. Spawn r.id) o Master))
    (find_as (λ r. is_out r && (mem r.node stands.place.path || mem stands.place.id r.rw)) (claims_at rows x h) (λ r. ap (λ b. is_out r && (b || mem stands.place.id r.rw)) (stands.below_as r.node) ∙ ap (λ i. is_out r && (is_below (node_places rows) h r.node || mem i r.rw)) stands.id) recs)

-- ---- an unknown id has no holder

pub any_or : {X : Type 0} (f g : X → Bool) (xs : List X) → list_any f xs ≡ false → list_any g xs ≡ false
    → list_any (λ x. f x || g x) xs ≡ false
any_or f g [] p q = refl
any_or f g (x ∷ xs) p q =
    let one = or_parts (f x) (list_any f xs) p in
    let two = or_parts (g x) (list_any g xs) q in
    or_false _ _ (or_false _ _ one.0 two.0) (any_or f g xs one.1 two.1)

none_of : {X : Type 0} (o : Option X) → is_some o ≡ false → o ≡ None
none_of None h = refl
none_of (Some x) h = cc

none_stands : (tree : List Place) (x : List ℕ) → is_some (place_at tree x) ≡ false
    → place_at tree x ≡ None
none_stands tree x h = none_of (place_at tree x) h

unknown_by : (known : Bool) (rows : List NodeRow) (x : List ℕ) → has_node rows x ≡ known
    → cond known (Some x) (home_of rows x) ≡ None
    → (has_node rows x ≡ false) × (home_of rows x ≡ None)
unknown_by true rows x known at = cc
unknown_by false rows x known at = (known, at)

no_entry : {X : Type 0} (o : Option (X × List ℕ)) → option_map (λ e. e.1) o ≡ None
    → is_some o ≡ false
no_entry None h = refl
no_entry (Some e) h = cc

unknown : (rows : List NodeRow) (x : List ℕ) → stand_of rows x ≡ None → mem x (ids rows) ≡ false
unknown rows x at =
    let parts = unknown_by (has_node rows x) rows x refl at in
    let nodes : list_any (λ r. bytes_eq r.id x) rows ≡ false = any_key (λ r. r.id) x rows ∙ mem-node_ids rows x ∙ parts.0 in
    let pools : list_any (holds x) rows ≡ false = has_resource-any rows x ∙ no_entry (entry_of rows x) parts.1 in
    mem-ids x rows ∙ any_or (λ r. bytes_eq r.id x) (holds x) rows nodes pools

pub unheld : (rows : List NodeRow) (recs : List SpawnRec) (x : List ℕ) → stand_of rows x ≡ None
    → holder_of rows recs x ≡ None
unheld rows recs x at = ap (option_map (holder_at recs)) (none_stands (places rows) x (stands_somewhere rows x ∙ unknown rows x at))

-- ---- whether an id is known

known_by : (o : Option (List ℕ)) (rows : List NodeRow) (x : List ℕ) → IsValid rows
    → stand_of rows x ≡ o → is_some o ≡ mem x (ids rows)
known_by None rows x valid at = sym (unknown rows x at)
known_by (Some h) rows x valid at = sym (ap is_some (stands_at rows x h valid at).there) ∙ stands_somewhere rows x

pub copied_some : {X : Type 0} (o : Option (Bor X)) → is_some o ≡ is_some (option_copied o)
copied_some None = refl
copied_some (Some x) = refl

pub stands_known : (rows : List NodeRow) (x : List ℕ) → IsValid rows
    → is_some (stand_of rows x) ≡ mem x (ids rows)
stands_known rows x valid = known_by (stand_of rows x) rows x valid refl

-- what a known id is held by, where no spawn holds it
unspawned_at : (o : Option Place) (rows : List NodeRow) (recs : List SpawnRec) (x : List ℕ)
    → place_at (places rows) x ≡ o → spawn_with rows recs x ≡ None
    → then_some (is_some o) Master ≡ option_map (holder_at recs) o
unspawned_at None rows recs x at none = refl
unspawned_at (Some p) rows recs x at none = ap Some (master (holder_at recs p) (sym (ap (λ o. option_and_then as_spawn (option_map (holder_at recs) o)) at) ∙ none))
  where
    master : (h : Holder) → as_spawn h ≡ None → Master ≡ h
    master Master e = refl
    master (Spawn s) e = cc

pub masters : (rows : List NodeRow) (recs : List SpawnRec) (x : List ℕ)
    → spawn_with rows recs x ≡ None
    → then_some (mem x (ids rows)) Master ≡ holder_of rows recs x
masters rows recs x none =
    ap (λ b. then_some b Master) (sym (stands_somewhere rows x)) ∙ unspawned_at (place_at (places rows) x) rows recs x refl none

-- and where one does
spawned_by : (o : Option Holder) (s : ℕ) → option_and_then as_spawn o ≡ Some s → Some (Spawn s) ≡ o
spawned_by None s e = cc
spawned_by (Some Master) s e = cc
spawned_by (Some (Spawn t)) s e = ap (λ o. Some (Spawn (option_map_or (λ n. n) o s))) (sym e)

pub spawns : (rows : List NodeRow) (recs : List SpawnRec) (x : List ℕ) (s : ℕ)
    → spawn_with rows recs x ≡ Some s → Some (Spawn s) ≡ holder_of rows recs x
spawns rows recs x s e = spawned_by (holder_of rows recs x) s e
