-- Items of a tree, and its members as they are found by their names.
use Rattle.std.proofs.Common.{◌≡◌, ◌∙◌, ℕ, ◌+◌, ◌<◌, ◌≤◌, List, [], ◌∷◌, length, drop, get_or, map, Some, Global, Ordering, Less, Equal, Greater, refl, sym, ap, Bor, Vec, rules}
use Rattle.std.proofs.lemmas.List.{drop_more, drop_all}
use Rattle.std.specs.BTreeMap.{insert_entry}
use Rattle.std.specs.Ordering.{match_ordering}
use Rattle.json.specs.Json as json
use Rattle.json.specs.Value.{items_view, members_view, value_view}
use Rattle.json.specs.declared.value.Value.{Value as Tree, Array, the_lemmas}
use Rattle.serde_json.specs.Data.{item, Members, member, put}
use Rattle.serde_json.specs.Find.{as_array}
use Rattle.serde_json.specs.View.{items_of}
use Rattle.json_source.specs.Tree.{data_of, entries_data, items_data, members_data, tree_data}
use Rattle.json_source.proofs.Pairs.{Entry, lent_cmp}
use Rattle.json_source.proofs.Objects.{Member}

-- an array by its items
pub tree-Array : (ts : Vec (Tree Global) Global) → value_view (Array ts) ≡ json.array (items_view ts.items)
tree-Array ts = search (rules, the_lemmas)

pub data_items : (ts : List (Tree Global)) → items_of (map tree_data ts) ≡ items_data (items_view ts)
data_items [] = refl
data_items (t ∷ ts) = ap (item (tree_data t)) (data_items ts)

-- the items of an array, as data
pub array_items : (t : Tree Global) (ts : Vec (Tree Global) Global) → t ≡ Array ts → as_array (tree_data t) ≡ Some (items_of (map tree_data ts.items))
array_items t ts is = ap (λ j. as_array (data_of j)) (ap value_view is ∙ tree-Array ts) ∙ sym (ap Some (data_items ts.items))

-- ---- by their names

put_at : (o : Ordering) (k : Bor (List ℕ)) (t : Bor (Tree Global)) (e : Entry) (es : List Entry) → entries_data (insert_entry lent_cmp es k t) ≡ put k.now (tree_data t.now) (entries_data es)
    → entries_data (match_ordering o ((k, t) ∷ e ∷ es) ((e.0, t) ∷ es) (e ∷ insert_entry lent_cmp es k t))
    ≡ match_ordering o (member k.now (tree_data t.now) (entries_data (e ∷ es))) (member e.0.now (tree_data t.now) (entries_data es)) (member e.0.now (tree_data e.1.now) (put k.now (tree_data t.now) (entries_data es)))
put_at Less k t e es later = refl
put_at Equal k t e es later = refl
put_at Greater k t e es later = ap (member e.0.now (tree_data e.1.now)) later

-- one is put to those that were found
entry_put : (es : List Entry) (k : Bor (List ℕ)) (t : Bor (Tree Global)) → entries_data (insert_entry lent_cmp es k t) ≡ put k.now (tree_data t.now) (entries_data es)
entry_put [] k t = refl
entry_put (e ∷ es) k t = put_at (lent_cmp k e.0) k t e es (entry_put es k t)

-- one member more
pub one_found : (all : List Member) (i : ℕ) (m : Member) (k : Bor (List ℕ)) (t : Bor (Tree Global)) (old new : List Entry) (whole : Members) → members_data (members_view (drop i all)) (entries_data old) ≡ whole → i < length all → m ≡ get_or all i m
    → k.now ≡ m.0.now → t.now ≡ m.1 → new ≡ insert_entry lent_cmp old k t → members_data (members_view (drop (i + 1) all)) (entries_data new) ≡ whole
one_found all i m k t old new whole so_far within is named same added =
    let cut : drop i all ≡ m ∷ drop (i + 1) all = drop_more all i m within ∙ ap (λ x. x ∷ drop (i + 1) all) (sym is) in
    let put_so : entries_data new ≡ put m.0.now (tree_data m.1) (entries_data old) =
    ap entries_data added ∙ entry_put old k t ∙ ap (λ n. put n (tree_data t.now) (entries_data old)) named ∙ ap (λ x. put m.0.now (tree_data x) (entries_data old)) same in
    ap (members_data (members_view (drop (i + 1) all))) put_so ∙ sym (ap (λ ms. members_data (members_view ms) (entries_data old)) cut) ∙ so_far

pub all_found : (all : List Member) (i : ℕ) (found whole : Members) → members_data (members_view (drop i all)) found ≡ whole → length all ≤ i → found ≡ whole
all_found all i found whole so_far past = sym (ap (λ ms. members_data (members_view ms) found) (drop_all i all past)) ∙ so_far
