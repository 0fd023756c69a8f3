-- What is below nests less.
use Rattle.std.proofs.Common.{◌≡◌, ℕ, ◌<◌, ◌≤◌, List, [], ◌∷◌, length, get_or, map, Option, Some, Ordering, Less, Equal, Greater, zero, suc, ap, subst, arith}
use Rattle.std.proofs.lemmas.Option.{same_Some}
use Rattle.std.specs.Cmp.Lexicographic.{slice_cmp}
use Rattle.std.specs.Ordering.{nat_cmp, match_ordering}
use Rattle.serde_json.specs.Data.{Data, Items, Members, no_members, member, null, boolean, number, string, array, object, depth, items_depth, members_depth}
use Rattle.serde_json.specs.Find.{as_array, get, get_member}
use Rattle.serde_json.specs.View.{items_of}

-- ---- what stands under a name

depth_at : (o : Ordering) (d : Data) (found : Option Data) (n : ℕ) → depth d ≤ n → ((e : Data) → found ≡ Some e → depth e ≤ n) → (e : Data) → match_ordering o found (Some d) found ≡ Some e → depth e ≤ n
depth_at Less d found n here others e is = others e is
depth_at Equal d found n here others e is = subst (λ x. depth x ≤ n) (same_Some d e is) here
depth_at Greater d found n here others e is = others e is

depth-get_member : (name : List ℕ) (ms : Members) (e : Data) → get_member name ms ≡ Some e → depth e ≤ members_depth ms
depth-get_member name no_members e is = cc
depth-get_member name (member k d ms) e is = depth_at (slice_cmp nat_cmp name k) d (get_member name ms) (members_depth (member k d ms)) (omega arith) (λ x found. let below = depth-get_member name ms x found in omega arith) e is

pub depth-get : (name : List ℕ) (d e : Data) → get name d ≡ Some e → depth e < depth d
depth-get name null e is = cc
depth-get name (boolean b) e is = cc
depth-get name (number m) e is = cc
depth-get name (string s) e is = cc
depth-get name (array ds) e is = cc
depth-get name (object ms) e is = let below = depth-get_member name ms e is in omega arith

-- ---- the items of a list

pub depth-as_array : (d : Data) (ds : Items) → as_array d ≡ Some ds → items_depth ds < depth d
depth-as_array null ds is = cc
depth-as_array (boolean b) ds is = cc
depth-as_array (number m) ds is = cc
depth-as_array (string s) ds is = cc
depth-as_array (array items) ds is = let same : items_depth items ≡ items_depth ds = ap items_depth (let e : items ≡ ds = cc in e) in omega arith
depth-as_array (object ms) ds is = cc

module _ {V : Type 0} (content : V → Data) where
  pub depth-item : (values : List V) (i : ℕ) (v : V) → i < length values → v ≡ get_or values i v → depth (content v) ≤ items_depth (items_of (map content values))
  depth-item [] i v within is = absurd (omega arith)
  depth-item (x ∷ values) zero v within is = let same : depth (content v) ≡ depth (content x) = ap (λ y. depth (content y)) is in omega arith
  depth-item (x ∷ values) (suc i) v within is = let later = depth-item values i v (omega arith) is in omega arith

  pub depth-child : (d : Data) (values : List V) (i : ℕ) (v : V) → as_array d ≡ Some (items_of (map content values)) → i < length values → v ≡ get_or values i v → depth (content v) < depth d
  depth-child d values i v items within is =
      let inside = depth-item values i v within is in
      let all = depth-as_array d (items_of (map content values)) items in
      omega arith
