-- Members whose names rise: each is put behind all in front of it.
use Rattle.std.proofs.Common.{◌≡◌, ◌∙◌, ℕ, ◌+◌, ◌<◌, ◌≤◌, Bool, true, false, ◌&&◌, List, [], ◌∷◌, ◌++◌, length, drop, get_or, Some, Result, Ok, Err, IfOk, Vec, Global, Ordering, Less, Equal, Greater, refl, sym, ap, subst, append_assoc, arith, length-drop}
use Rattle.std.proofs.lemmas.List.{drop_more}
use Rattle.std.specs.Cmp.Lexicographic.{nat_list_cmp_total, slice_cmp}
use Rattle.std.specs.List.{AllByRecursion}
use Rattle.std.specs.List.Sorted.{IsStrictlySortedBy}
use Rattle.std.specs.Ordering.{is_lt, match_ordering, nat_cmp, ordering_reverse}
use Rattle.json.specs.Json as json
use Rattle.json.specs.Value.{members_view}
use Rattle.serde_json.specs.Data.{Data, Members, no_members, member, put}
use Rattle.ticket_items.specs.Attrs.{Pairs, IsInOrder}
use Rattle.ticket_items.specs.declared.refusal.Refusal.{Refusal}
use Rattle.json_source.specs.Read.{Gives, lent_pairs, text_pairs}
use Rattle.json_source.specs.Tree.{data_of, is_below, listed_data, members_data, names_rise}
use Rattle.json_source.proofs.Pairs.{LentPair, names_of, texts_in_order}
use Rattle.json_source.proofs.Objects.{Member}

abbrev cmp : List ℕ → List ℕ → Ordering
cmp = slice_cmp nat_cmp

-- ---- the names stand in order

less_of : (o : Ordering) → is_lt o ≡ true → o ≡ Less
less_of Less h = refl
less_of Equal h = cc
less_of Greater h = cc

both : (a b : Bool) → a && b ≡ true → (a ≡ true) × (b ≡ true)
both true b h = (refl, h)
both false b h = cc

-- what is below the first of names that rise is below the others
below_others : (k l : List ℕ) (ks : List (List ℕ)) → cmp k l ≡ Less → AllByRecursion (λ y. cmp l y ≡ Less) ks → AllByRecursion (λ y. cmp k y ≡ Less) ks
below_others k l [] less h = tt
below_others k l (m ∷ ks) less h = (nat_list_cmp_total.trans k l m less h.0, below_others k l ks less h.1)

rising_sorted : (ms : json.Members) → names_rise ms ≡ true → IsStrictlySortedBy cmp (names_of (listed_data ms))
unfolding IsStrictlySortedBy
rising_sorted json.no_members h = tt
rising_sorted (json.member k j json.no_members) h = (tt, tt)
rising_sorted (json.member k j (json.member l i ms)) h =
    let parts = both (is_lt (cmp k l)) (names_rise (json.member l i ms)) h in
    let less = less_of (cmp k l) parts.0 in
    let later = rising_sorted (json.member l i ms) parts.1 in
    ((less, below_others k l (names_of (listed_data ms)) less later.0), later)

-- ---- one behind the other

abbrev behind : Members → Members → Members
behind no_members ms = ms
behind (member k d found) ms = member k d (behind found ms)

behind-none : (found : Members) → behind found no_members ≡ found
behind-none no_members = refl
behind-none (member k d found) = ap (member k d) (behind-none found)

behind-behind : (first second third : Members) → behind (behind first second) third ≡ behind first (behind second third)
behind-behind no_members second third = refl
behind-behind (member k d first) second third = ap (member k d) (behind-behind first second third)

names_of-behind : (first second : Members) → names_of (behind first second) ≡ names_of first ++ names_of second
names_of-behind no_members second = refl
names_of-behind (member k d first) second = ap (λ ks. k ∷ ks) (names_of-behind first second)

of_last : (P : List ℕ → Type 0) (ks : List (List ℕ)) (k : List ℕ) (rest : List (List ℕ)) → AllByRecursion P (ks ++ k ∷ rest) → P k
of_last P [] k rest h = h.0
of_last P (l ∷ ks) k rest h = of_last P ks k rest h.1

put_last : (found : Members) (k : List ℕ) (d : Data) (rest : List (List ℕ)) → IsStrictlySortedBy cmp (names_of found ++ k ∷ rest) → put k d found ≡ behind found (member k d no_members)
unfolding IsStrictlySortedBy
put_last no_members k d rest h = refl
put_last (member l e found) k d rest h =
    let above : cmp k l ≡ Greater = nat_list_cmp_total.antisymm k l ∙ ap ordering_reverse (of_last (λ y. cmp l y ≡ Less) (names_of found) k rest h.0) in
    ap (λ o. match_ordering o (member k d (member l e found)) (member l d found) (member l e (put k d found))) above ∙ ap (member l e) (put_last found k d rest h.1)

put_behind : (ms : json.Members) (found : Members) → IsStrictlySortedBy cmp (names_of found ++ names_of (listed_data ms)) → members_data ms found ≡ behind found (listed_data ms)
put_behind json.no_members found h = sym (behind-none found)
put_behind (json.member k j ms) found h =
    let rest = names_of (listed_data ms) in
    let one = member k (data_of j) no_members in
    let names : names_of (behind found one) ++ rest ≡ names_of found ++ k ∷ rest = ap (λ ks. ks ++ rest) (names_of-behind found one) ∙ append_assoc (names_of found) (k ∷ []) rest in
    ap (members_data ms) (put_last found k (data_of j) rest h) ∙ put_behind ms (behind found one) (subst (IsStrictlySortedBy cmp) (sym names) h) ∙ behind-behind found one (listed_data ms)

-- members whose names rise are put as they stand
pub listed-rising : (ms : json.Members) → names_rise ms ≡ true → listed_data ms ≡ members_data ms no_members
listed-rising ms h = sym (put_behind ms no_members (rising_sorted ms h))

-- so their texts stand in order
rising_texts : (ms : json.Members) (ps : Pairs) → text_pairs (listed_data ms) ≡ Some ps → names_rise ms ≡ true → IsInOrder ps
rising_texts ms ps e h = texts_in_order (listed_data ms) ps e (rising_sorted ms h)

pub given_in_order : (ms : json.Members) (r : Result (Vec LentPair Global) Refusal) → Gives (λ pairs. lent_pairs pairs.items) r (text_pairs (listed_data ms)) → names_rise ms ≡ true → IfOk r (λ pairs. IsInOrder (lent_pairs pairs.items))
given_in_order ms (Ok pairs) gives h = rising_texts ms (lent_pairs pairs.items) gives h
given_in_order ms (Err e) gives h = tt

-- ---- one after another

-- from one member on, by whether its name is below the next one's
pub rise_step : (all : List Member) (i : ℕ) (m n : Member) → i + 1 < length all → m ≡ get_or all i m → n ≡ get_or all (i + 1) n
    → names_rise (members_view (drop i all)) ≡ (is_lt (cmp m.0.now n.0.now) && names_rise (members_view (drop (i + 1) all)))
rise_step all i m n within is then =
    let next : drop (i + 1) all ≡ n ∷ drop (i + 1 + 1) all = drop_more all (i + 1) n within ∙ ap (λ x. x ∷ drop (i + 1 + 1) all) (sym then) in
    let here : drop i all ≡ m ∷ drop (i + 1) all = drop_more all i m (omega arith) ∙ ap (λ x. x ∷ drop (i + 1) all) (sym is) in
    ap (λ ms. names_rise (members_view ms)) here ∙ ap (λ ms. is_below m.0.now (members_view ms) && names_rise (members_view (drop (i + 1) all))) next

rise_one : (ms : List Member) → length ms ≤ 1 → names_rise (members_view ms) ≡ true
rise_one [] h = refl
rise_one (m ∷ []) h = refl
rise_one (m ∷ n ∷ ms) h = absurd (omega arith)

-- the last member is below none
pub rise_end : (all : List Member) (i : ℕ) → length all ≤ i + 1 → names_rise (members_view (drop i all)) ≡ true
rise_end all i past = rise_one (drop i all) (rw (length-drop i all) (omega arith))
