-- A record passes the test of good ones just where it is good.
use Rattle.std.proofs.Common.{◌≡◌, ◌∙◌, ℕ, zero, suc, ◌||◌, Bool, true, false, not, List, []}
use Rattle.std.proofs.Common.{◌∷◌, Some, slice_get, Decides, refl, sym, ap}
use Rattle.std.proofs.lemmas.Bool.{true≢false, and_from, and_parts}
use Rattle.std.proofs.lemmas.Bool.Decides.{Decides-and, Decides-like}
use Rattle.std.proofs.lemmas.Slice.Eq.{bytes_eq-Decides}
use Rattle.std.specs.Option.{option_map_or}
use Rattle.ticket_items.specs.declared.node_row.NodeRow.{NodeRow}
use Rattle.ticket_items.specs.declared.resource.Resource.{Resource}
use Rattle.ticket_rows.specs.Place.{Place, Thing, named_thing, named_thing_at, node, places, resource}
use Rattle.ticket_rows.specs.Place.{resource_thing}
use Rattle.ticket_tree.proofs.PlainOneRow.{name_in, class_in}
use Rattle.spawn.proofs.SameCopies.{ids-Decides, pairs-Decides}
use Rattle.plain_shop.specs.Claim.{ids_of, linked_rw, linked_ro}
use Rattle.spawn.specs.Records.{IsGood, is_out}
use Rattle.spawn.specs.Stored.{are_good, is_copy, is_good, is_thing}
use Rattle.spawn.specs.declared.records.spawn_rec.SpawnRec.{SpawnRec}

-- ---- copies

thing-Decides : (x : Resource) (th : Thing) → Decides (is_thing x th) (resource_thing x ≡ th)
thing-Decides x (node kind job_part links) = (λ h. cc, λ e. cc)
thing-Decides x (resource name class) =
    Decides-like _ (λ (name', class'). cc) (λ e. (ap name_in e, ap class_in e)) (Decides-and _ _ (bytes_eq-Decides x.name name) (bytes_eq-Decides x.class class))

copy-Decides : (x : Resource) (p : Place) → Decides (is_copy x p) (named_thing x ≡ named_thing_at p)
copy-Decides x p =
    Decides-like _ (λ (id, thing). cc) (λ e. (ap (λ t. t.0) e, ap (λ t. t.1) e))
    (Decides-and _ _ (bytes_eq-Decides x.id p.id) (thing-Decides x p.thing))

-- ---- a record

pub good-Decides : (rows : List NodeRow) (r : SpawnRec) → Decides (is_good rows r) (IsGood rows r)
good-Decides rows r =
    Decides-like _ (λ ((above, rw), ro). record { has_parent = above; rw = rw; ro = ro }) (λ good. ((good.has_parent, good.rw), good.ro))
    (Decides-and _ _ (Decides-and _ _ (λ h. h, λ h. h) (ids-Decides r.rw (ids_of (linked_rw (places rows) r.node r.rw)))) (pairs-Decides is_copy named_thing named_thing_at copy-Decides r.ro (linked_ro (places rows) r.node r.rw)))

-- ---- those that are out

either : (a b : Bool) → (not a || b) ≡ true → a ≡ true → b ≡ true
either true b h e = h
either false b h e = absurd (true≢false (sym e))

or_good : (a b : Bool) → (a ≡ true → b ≡ true) → (not a || b) ≡ true
or_good true b go = go refl
or_good false b go = refl

same_some : (x y : SpawnRec) → Some x ≡ Some y → x ≡ y
same_some x y e = ap (λ o. option_map_or (λ s. s) o x) e

pub good_each : (rows : List NodeRow) (recs : List SpawnRec) → are_good rows recs ≡ true → (k : ℕ)
    (r : SpawnRec)
    → slice_get recs k ≡ Some r → is_out r ≡ true → IsGood rows r
good_each rows [] all k r at out = cc
good_each rows (q ∷ recs) all zero r at out =
    let own = (and_parts (not (is_out q) || is_good rows q) (are_good rows recs) all).0 in
    let same : q ≡ r = same_some q r at in
    (good-Decides rows r).0 (either (is_out r) (is_good rows r) (ap (λ (s : SpawnRec). not (is_out s) || is_good rows s) (sym same) ∙ own) out)
good_each rows (q ∷ recs) all (suc k) r at out = good_each rows recs (and_parts (not (is_out q) || is_good rows q) (are_good rows recs) all).1 k r at out

pub all_good : (rows : List NodeRow) (recs : List SpawnRec)
    → ((k : ℕ) (r : SpawnRec) → slice_get recs k ≡ Some r → is_out r ≡ true → IsGood rows r)
    → are_good rows recs ≡ true
all_good rows [] each = refl
all_good rows (q ∷ recs) each =
    and_from (not (is_out q) || is_good rows q) (are_good rows recs) (or_good (is_out q) (is_good rows q) (λ out. (good-Decides rows q).1 (each 0 q refl out))) (all_good rows recs (λ k r at out. each (suc k) r at out))
