-- Arrays and objects that are read, item by item and member by member, as their data.
use Rattle.std.proofs.Common.{◌≡◌, ◌∙◌, ℕ, ◌-◌, ◌<◌, ◌≤◌, List, [], ◌∷◌, ◌++◌, length, Option, Some, None, Global, refl, sym, ap, subst, arith}
use Rattle.std.specs.Option.{option_map, option_map_or}
use Rattle.json.specs.Token.{Token}
use Rattle.json.specs.Json as json
use Rattle.json.specs.Json.{after_end_array, items, members, parse_map, read_key, value}
use Rattle.json.specs.Value.{items_view, members_view}
use Rattle.json.specs.declared.value.Value.{Value as Tree}
use Rattle.json.proofs.Grammar.{read_key-shorter}
use Rattle.serde_json.specs.Data.{Num, null, number, Items, no_items, item, Members, no_members, put}
use Rattle.serde_json.specs.Read.{converted, number_of, of_items, of_json, of_members}
use Rattle.json_source.specs.Tree.{data_of, items_data, members_data, tree_data}
use Rattle.json_source.proofs.Converted.{item_read, item_refused, items_over, key_refused, member_read, member_refused, members_over}
use Rattle.json_source.proofs.Objects.{Member}

-- ---- numbers

-- the number that a text is
pub in_range : (text : List ℕ) (n : Num) (rest : List Token) → Some n ≡ number_of text → converted of_json (Some (json.number text, rest)) ≡ Some (data_of (json.number text), rest)
in_range text n rest is = ap (λ o. option_map (λ d. (d, rest)) (option_map number o)) (sym is) ∙ ap (λ o. Some (option_map_or number o null, rest)) is

-- a text that is none
pub out_of_range : (text : List ℕ) (rest : List Token) → number_of text ≡ None → converted of_json (Some (json.number text, rest)) ≡ None
out_of_range text rest is = ap (λ o. option_map (λ d. (d, rest)) (option_map number o)) is

-- ---- items

abbrev then_items : List (Tree Global) → Items → Items
then_items [] rest = rest
then_items (t ∷ ts) rest = item (tree_data t) (then_items ts rest)

then_items-none : (ts : List (Tree Global)) → then_items ts no_items ≡ items_data (items_view ts)
then_items-none [] = refl
then_items-none (t ∷ ts) = ap (item (tree_data t)) (then_items-none ts)

then_items-push : (ts : List (Tree Global)) (t : Tree Global) (rest : Items) → then_items ts (item (tree_data t) rest) ≡ then_items (ts ++ t ∷ []) rest
then_items-push [] t rest = refl
then_items-push (u ∷ ts) t rest = ap (item (tree_data u)) (then_items-push ts t rest)

one_more_item : (ts : List (Tree Global)) (t : Tree Global) (r : Option (Items × List Token)) → parse_map (then_items ts) (parse_map (item (tree_data t)) r) ≡ parse_map (then_items (ts ++ t ∷ [])) r
one_more_item ts t None = refl
one_more_item ts t (Some p) = ap (λ js. Some (js, p.1)) (then_items-push ts t p.0)

none_before : (r : Option (Items × List Token)) → r ≡ parse_map (then_items []) r
none_before None = refl
none_before (Some p) = refl

-- the items of an array so far
pub record ItemsSoFar (depth : ℕ) (all : List Token) (found : List (Tree Global)) (left : List Token) : Type 0 where
  pub bound : ℕ
  pub enough : length left ≤ bound
  pub read : converted of_items (items (value depth) (length all) all) ≡ parse_map (then_items found) (converted of_items (items (value depth) bound left))
  pub shorter : length left ≤ length all

pub items_begin : (depth : ℕ) (all : List Token) → ItemsSoFar depth all [] all
items_begin depth all = record {
  bound = length all;
  enough = omega arith;
  read = none_before (converted of_items (items (value depth) (length all) all));
  shorter = omega arith;
}

pub items_more : (depth : ℕ) (all : List Token) (old new : List (Tree Global)) (left rest : List Token) (t : Tree Global) → ItemsSoFar depth all old left → after_end_array left ≡ None
    → converted of_json (value depth left) ≡ Some (tree_data t, rest) → length rest < length left → new ≡ old ++ t ∷ [] → ItemsSoFar depth all new rest
items_more depth all old new left rest t before going here less pushed = subst (λ found. ItemsSoFar depth all found rest) (sym pushed) (record {
  bound = before.bound - 1;
  enough = omega (arith, before.enough, less);
  read = before.read ∙ ap (parse_map (then_items old)) (item_read (value depth) before.bound left rest (tree_data t) (omega (arith, before.enough, less)) going here)
      ∙ one_more_item old t (converted of_items (items (value depth) (before.bound - 1) rest));
  shorter = omega (arith, before.shorter, less);
})

pub items_failed : (depth : ℕ) (all : List Token) (found : List (Tree Global)) (left : List Token) → ItemsSoFar depth all found left → after_end_array left ≡ None
    → converted of_json (value depth left) ≡ None → converted of_items (items (value depth) (length all) all) ≡ None
items_failed depth all found left before going none = before.read ∙ ap (parse_map (then_items found)) (item_refused (value depth) before.bound left going none)

pub items_done : (depth : ℕ) (all : List Token) (found : List (Tree Global)) (left rest : List Token) → ItemsSoFar depth all found left → after_end_array left ≡ Some rest
    → converted of_items (items (value depth) (length all) all) ≡ Some (items_data (items_view found), rest)
items_done depth all found left rest before over =
    before.read ∙ ap (parse_map (then_items found)) (items_over (value depth) before.bound left rest before.enough over)
    ∙ ap (λ js. Some (js, rest)) (then_items-none found)

-- ---- members

members_data-push : (ms : List Member) (m : Member) (found : Members) → members_data (members_view (ms ++ m ∷ [])) found ≡ put m.0.now (tree_data m.1) (members_data (members_view ms) found)
members_data-push [] m found = refl
members_data-push (n ∷ ms) m found = members_data-push ms m (put n.0.now (tree_data n.1) found)

-- the members of an object so far
pub record MembersSoFar (depth : ℕ) (all : List Token) (found : List Member) (left : List Token) : Type 0 where
  pub bound : ℕ
  pub enough : length left ≤ bound
  pub read : converted (λ ms. of_members ms no_members) (members (value depth) (length all) all) ≡ converted (λ ms. of_members ms (members_data (members_view found) no_members)) (members (value depth) bound left)
  pub shorter : length left ≤ length all

pub members_begin : (depth : ℕ) (all : List Token) → MembersSoFar depth all [] all
members_begin depth all = record {
  bound = length all;
  enough = omega arith;
  read = refl;
  shorter = omega arith;
}

pub members_more : (depth : ℕ) (all : List Token) (old new : List Member) (left inner rest : List Token) (m : Member) → MembersSoFar depth all old left → read_key left ≡ Some (Some m.0.now, inner)
    → converted of_json (value depth inner) ≡ Some (tree_data m.1, rest) → length rest < length inner → new ≡ old ++ m ∷ [] → MembersSoFar depth all new rest
members_more depth all old new left inner rest m before named here less pushed =
    let p = value depth in
    let name_less = read_key-shorter left (Some m.0.now) inner named in
    let so_far = members_data (members_view old) no_members in
    subst (λ found. MembersSoFar depth all found rest) (sym pushed) (record {
      bound = before.bound - 1;
      enough = omega (arith, before.enough, less, name_less);
      read = before.read ∙ member_read p so_far before.bound m.0.now left inner rest (tree_data m.1) (omega (arith, before.enough, less, name_less)) named here
          ∙ ap (λ found. converted (λ ms. of_members ms found) (members p (before.bound - 1) rest)) (sym (members_data-push old m no_members));
      shorter = omega (arith, before.shorter, less, name_less);
    })

pub members_no_name : (depth : ℕ) (all : List Token) (found : List Member) (left : List Token) → MembersSoFar depth all found left → read_key left ≡ None
    → converted (λ ms. of_members ms no_members) (members (value depth) (length all) all) ≡ None
members_no_name depth all found left before none = before.read ∙ key_refused (value depth) (members_data (members_view found) no_members) before.bound left none

pub members_failed : (depth : ℕ) (all : List Token) (found : List Member) (left inner : List Token) (name : List ℕ) → MembersSoFar depth all found left → read_key left ≡ Some (Some name, inner)
    → converted of_json (value depth inner) ≡ None → converted (λ ms. of_members ms no_members) (members (value depth) (length all) all) ≡ None
members_failed depth all found left inner name before named none = before.read ∙ member_refused (value depth) (members_data (members_view found) no_members) before.bound name left inner named none

pub members_done : (depth : ℕ) (all : List Token) (found : List Member) (left rest : List Token) → MembersSoFar depth all found left → read_key left ≡ Some (None, rest)
    → converted (λ ms. of_members ms no_members) (members (value depth) (length all) all) ≡ Some (members_data (members_view found) no_members, rest)
members_done depth all found left rest before over =
    before.read ∙ members_over (value depth) (members_data (members_view found) no_members) before.bound left rest before.enough over
