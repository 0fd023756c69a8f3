-- Claims of spawns that are out stay apart as the master edits what it holds.
use Rattle.std.proofs.Common.{◌≡◌, ◌∙◌, ℕ, ◌&&◌, ◌||◌, not, Bool, true, false, cond, List, [], ◌∷◌, map, Option, Some, None, is_some, slice_get, inl, inr, refl, sym, ap}
use Rattle.std.specs.List.{filter}
use Rattle.std.specs.Option.{option_map_or, option_and_then}
use Rattle.std.specs.Str.{bytes_eq}
use Rattle.ticket_items.proofs.Apart.{bytes_eq-same}
use Rattle.ticket_items.specs.Ids.{mem, are_distinct}
use Rattle.ticket_rows.specs.Edit.{edited_rows}
use Rattle.ticket_rows.specs.Place.{Place, below, is_node, named_thing_at, node_places, parent, place_at, places}
use Rattle.ticket_rows.specs.Ticket.{IsValid}
use Rattle.ticket_items.specs.declared.node_row.NodeRow.{NodeRow}
use Rattle.ticket_tree.proofs.ByKind.{found_among, found_by_kind, ids_apart, place_of_node}
use Rattle.ticket_tree.proofs.Parents.{one_parent_each}
use Rattle.ticket_tree.proofs.StaysValid.{edit_is_valid}
use Rattle.spawn.proofs.EditKeeps.{edit_keeps_claims}
use Rattle.plain_shop.specs.Claim.{claim, ids_of, is_claimed, linked_outside}
use Rattle.spawn.specs.Laws.{EditKeepsApart}
use Rattle.spawn.specs.Records.{IsGood, is_out}
use Rattle.spawn.specs.declared.records.spawn_rec.SpawnRec.{SpawnRec}

-- ---- what is found among those that pass

passes_at : (here named : Bool) (f : Place → Bool) (x : List ℕ) (q p : Place) (tree : List Place) → f q ≡ here → bytes_eq q.id x ≡ named → place_at (cond here (q ∷ filter f tree) (filter f tree)) x ≡ Some p
    → (place_at (filter f tree) x ≡ Some p → f p ≡ true) → f p ≡ true
passes_at true true f x q p tree e n found go = ap (λ o. option_map_or f o (f q)) (sym found ∙ ap (λ b. cond b (Some q) (place_at (filter f tree) x)) n) ∙ e
passes_at true false f x q p tree e n found go = go (sym (ap (λ b. cond b (Some q) (place_at (filter f tree) x)) n) ∙ found)
passes_at false named f x q p tree e n found go = go found

found_passes : (f : Place → Bool) (tree : List Place) (x : List ℕ) (p : Place) → place_at (filter f tree) x ≡ Some p → f p ≡ true
found_passes f [] x p found = cc
found_passes f (q ∷ tree) x p found = passes_at (f q) (bytes_eq q.id x) f x q p tree refl refl found (found_passes f tree x p)

-- what is found and passes stands in the other tree too, where the same pass in both
found_in_both : (f : Place → Bool) (a b : List Place) (x : List ℕ) (p : Place) → are_distinct (map (λ q. q.id) a) ≡ true → filter f a ≡ filter f b → place_at b x ≡ Some p → f p ≡ true → place_at a x ≡ Some p
found_in_both f a b x p apart same there passes = found_among f a x p apart (ap (λ tree. place_at tree x) same ∙ found_by_kind f b x p passes there)

-- ---- a good record stays good

some_of : (o : Option Place) → is_some (option_and_then parent o) ≡ true → (p : Place) × (o ≡ Some p)
some_of None h = cc
some_of (Some p) h = (p, refl)

or_first : (a b : Bool) → a ≡ true → (a || b) ≡ true
or_first a b e = ap (λ c. c || b) e

-- a node stands below itself
below_itself : (rows : List NodeRow) (n : List ℕ) (p : Place) → IsValid rows → place_at (node_places rows) n ≡ Some p → below n p ≡ true
below_itself rows n p valid there =
    elim (one_parent_each rows valid n p there) [
      | inl root ↦ ap (mem n) root.path ∙ or_first (bytes_eq n n) _ (bytes_eq-same n)
      | inr under ↦ ap (mem n) under.path ∙ or_first (bytes_eq n n) _ (bytes_eq-same n)
    ]

-- a record whose claim, and what is linked outside its node, are the same in other rows
good_in_both : (rows later : List NodeRow) (r : SpawnRec) → IsValid rows → IsValid later → claim (places later) r.node r.rw ≡ claim (places rows) r.node r.rw
    → linked_outside (places later) r.node ≡ linked_outside (places rows) r.node → IsGood rows r → IsGood later r
good_in_both rows later r valid valid_later claimed outside good =
    let at = some_of (place_at (node_places rows) r.node) good.has_parent in
    let claims : is_claimed r.node r.rw at.0 ≡ true = or_first (below r.node at.0) _ (below_itself rows r.node at.0 valid at.1) in
    let there = found_in_both (is_claimed r.node r.rw) (places later) (places rows) r.node at.0 (ids_apart later valid_later) claimed (place_of_node rows r.node at.0 valid at.1) claims in
    let node = found_by_kind is_node (places later) r.node at.0 (found_passes is_node (places rows) r.node at.0 at.1) there in
    record {
      has_parent = ap (λ o. is_some (option_and_then parent o)) (node ∙ sym at.1) ∙ good.has_parent;
      rw = good.rw ∙ ap (λ tree. ids_of (filter (λ p. mem p.id r.rw) tree)) (sym outside);
      ro = good.ro ∙ ap (λ tree. map named_thing_at (filter (λ p. not (mem p.id r.rw)) tree)) (sym outside);
    }

-- ---- the whole

and_first : (a b : Bool) → (a && b) ≡ true → a ≡ true
and_first true b e = refl
and_first false b e = e

and_second : (a b : Bool) → (a && b) ≡ true → b ≡ true
and_second true b e = e
and_second false b e = cc

pub edit_keeps_apart : EditKeepsApart
edit_keeps_apart rows recs e time valid free held apart =
    let later = edited_rows e time rows in
    let valid_later = edit_is_valid e time rows valid free in
    let keeps : (k : ℕ) (r : SpawnRec) → slice_get recs k ≡ Some r → is_out r ≡ true → (claim (places later) r.node r.rw ≡ claim (places rows) r.node r.rw) × (linked_outside (places later) r.node ≡ linked_outside (places rows) r.node) =
    λ k r at out. edit_keeps_claims rows recs e time valid free held k r at out (apart.good k r at out) in
    record {
      good = λ k r at out. good_in_both rows later r valid valid_later (keeps k r at out).0 (keeps k r at out).1 (apart.good k r at out);
      apart = λ x p j k r q there at_r at_q held_r held_q.
          let before = found_in_both (is_claimed r.node r.rw) (places rows) (places later) x p (ids_apart rows valid) (sym (keeps j r at_r (and_first (is_out r) _ held_r)).0) there (and_second (is_out r) _ held_r) in
          apart.apart x p j k r q before at_r at_q held_r held_q;
    }
