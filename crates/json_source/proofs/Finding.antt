-- Members of a tree, and what of them is found in its data.
use Rattle.std.proofs.Common.{◌≡◌, ◌∙◌, ℕ, ◌+◌, ◌<◌, ◌≤◌, Bool, true, false, ◌&&◌, List, ◌∷◌, length, drop, get_or, map, cond, Option, Some, None, Ordering, Less, Equal, Greater, option_map, refl, sym, ap, Bor, Global, bytes_eq, true≢false, rules}
use Rattle.std.proofs.lemmas.List.{drop_more, drop_all}
use Rattle.std.specs.List.{list_any}
use Rattle.std.proofs.lemmas.Slice.Eq.{bytes_eq-Decides}
use Rattle.std.proofs.lemmas.Map.Text.{is_eq-slice_cmp}
use Rattle.std.specs.Cmp.Lexicographic.{slice_cmp}
use Rattle.std.specs.Ordering.{nat_cmp, match_ordering, is_eq}
use Rattle.json.specs.Find as tree
use Rattle.json.specs.Json as json
use Rattle.json.specs.Value.{members_view, value_view}
use Rattle.json.specs.declared.value.Value.{Value as Tree}
use Rattle.serde_json.specs.Data.{Data, Members, no_members, member, put}
use Rattle.serde_json.specs.Find.{get, get_member}
use Rattle.serde_json.proofs.Views.{get_member-put, get_member-put_other}
use Rattle.ticket_items.specs.Ids.{mem}
use Rattle.json_source.specs.Read.{are_among, has_only}
use Rattle.json_source.proofs.MemberLemmas.{mem-borrowed}
use Rattle.json_source.proofs.Objects.{Member}
use Rattle.json_source.specs.Tree.{data_of, members_data, names_among, tree_data}

-- ---- what stands under a name

-- what was found, or else before
abbrev pub or_else : Option Data → Option Data → Option Data
or_else None earlier = earlier
or_else (Some d) earlier = Some d

put_found : (name k : List ℕ) (d : Data) (found : Members) (same : Bool) → bytes_eq k name ≡ same → get_member name (put k d found) ≡ cond same (Some d) (get_member name found)
put_found name k d found true is = let e = (bytes_eq-Decides k name).0 is in ap (λ n. get_member n (put k d found)) (sym e) ∙ get_member-put k d found
put_found name k d found false is = get_member-put_other name k d found (λ e. true≢false (sym ((bytes_eq-Decides k name).1 (sym e)) ∙ is))

found_step : (name : List ℕ) (later : Option json.Json) (k : List ℕ) (j : json.Json) (found : Members) (same : Bool) → bytes_eq k name ≡ same
    → or_else (option_map data_of later) (get_member name (put k (data_of j) found)) ≡ or_else (option_map data_of (tree.later_or later (cond same (Some j) None))) (get_member name found)
found_step name (Some x) k j found same is = refl
found_step name None k j found true is = put_found name k (data_of j) found true is
found_step name None k j found false is = put_found name k (data_of j) found false is

-- the last of that name, or what was found before
pub found_in : (name : List ℕ) (ms : json.Members) (found : Members) → get_member name (members_data ms found) ≡ or_else (option_map data_of (tree.get_member name ms)) (get_member name found)
found_in name json.no_members found = refl
found_in name (json.member k j ms) found = found_in name ms (put k (data_of j) found) ∙ found_step name (tree.get_member name ms) k j found (bytes_eq k name) refl

or_none : (o : Option json.Json) → or_else (option_map data_of o) None ≡ option_map data_of o
or_none None = refl
or_none (Some j) = refl

pub get_data : (name : List ℕ) (j : json.Json) → option_map data_of (tree.get name j) ≡ get name (data_of j)
get_data name json.null = refl
get_data name (json.boolean b) = refl
get_data name (json.number s) = search (rules)
get_data name (json.string s) = refl
get_data name (json.array js) = refl
get_data name (json.object ms) = sym (found_in name ms no_members ∙ or_none (tree.get_member name ms))

-- ---- which members there are

twice : (a b : Bool) → a && b ≡ (a && (a && b))
twice true b = refl
twice false b = refl

swapped : (a b c : Bool) → a && (b && c) ≡ (b && (a && c))
swapped true true c = refl
swapped true false c = refl
swapped false true c = refl
swapped false false c = refl

regrouped : (a b c : Bool) → a && (b && c) ≡ ((b && a) && c)
regrouped true true c = refl
regrouped true false c = refl
regrouped false true c = refl
regrouped false false c = refl

equal_text : (k l : List ℕ) → slice_cmp nat_cmp k l ≡ Equal → k ≡ l
equal_text k l is = (bytes_eq-Decides k l).0 (sym (is_eq-slice_cmp k l) ∙ ap is_eq is)

among_put_at : (o : Ordering) (names : List (List ℕ)) (k l : List ℕ) (d e : Data) (ms : Members) → slice_cmp nat_cmp k l ≡ o → are_among names (put k d ms) ≡ (mem k names && are_among names ms)
    → are_among names (match_ordering o (member k d (member l e ms)) (member l d ms) (member l e (put k d ms))) ≡ (mem k names && (mem l names && are_among names ms))
among_put_at Less names k l d e ms is later = refl
among_put_at Equal names k l d e ms is later = twice (mem l names) (are_among names ms) ∙ ap (λ x. mem x names && (mem l names && are_among names ms)) (sym (equal_text k l is))
among_put_at Greater names k l d e ms is later = ap (λ b. mem l names && b) later ∙ swapped (mem l names) (mem k names) (are_among names ms)

among_put : (names : List (List ℕ)) (k : List ℕ) (d : Data) (ms : Members) → are_among names (put k d ms) ≡ (mem k names && are_among names ms)
among_put names k d no_members = refl
among_put names k d (member l e ms) = among_put_at (slice_cmp nat_cmp k l) names k l d e ms refl (among_put names k d ms)

among_members : (names : List (List ℕ)) (ms : json.Members) (found : Members) → are_among names (members_data ms found) ≡ (names_among names ms && are_among names found)
among_members names json.no_members found = refl
among_members names (json.member k j ms) found =
    among_members names ms (put k (data_of j) found) ∙ ap (λ b. names_among names ms && b) (among_put names k (data_of j) found) ∙ regrouped (names_among names ms) (mem k names) (are_among names found)

and_true : (a : Bool) → a && true ≡ a
and_true true = refl
and_true false = refl

pub has_only_object : (names : List (List ℕ)) (ms : json.Members) → has_only names (data_of (json.object ms)) ≡ names_among names ms
has_only_object names ms = among_members names ms no_members ∙ and_true (names_among names ms)

-- ---- the members so far

pub all_tree : (r : Option (Bor (Tree Global))) → option_map (λ t. tree_data t.now) r ≡ option_map data_of (option_map (λ t. value_view t.now) r)
all_tree None = refl
all_tree (Some t) = refl

-- whether the members from a place on are among names, by the first of them
pub next_among : (names : List (Bor (List ℕ))) (all : List Member) (i : ℕ) (m : Member) (test : Bool) → i < length all → m ≡ get_or all i m → test ≡ list_any (λ n. bytes_eq n.now m.0.now) names
    → names_among (map (λ n. n.now) names) (members_view (drop i all)) ≡ (test && names_among (map (λ n. n.now) names) (members_view (drop (i + 1) all)))
next_among names all i m test within is tested =
    let cut : drop i all ≡ m ∷ drop (i + 1) all = drop_more all i m within ∙ ap (λ x. x ∷ drop (i + 1) all) (sym is) in
    ap (λ ms. names_among (map (λ n. n.now) names) (members_view ms)) cut
    ∙ ap (λ b. b && names_among (map (λ n. n.now) names) (members_view (drop (i + 1) all))) (mem-borrowed m.0.now names ∙ sym tested)

pub none_left : (names : List (List ℕ)) (all : List Member) (i : ℕ) → length all ≤ i → names_among names (members_view (drop i all)) ≡ true
none_left names all i past = ap (λ ms. names_among names (members_view ms)) (drop_all i all past)
