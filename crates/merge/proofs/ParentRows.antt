-- The parent of a node is the last row in front of it that stands higher.
use Rattle.std.proofs.Common.{◌≡◌, ◌∙◌, ℕ, zero, suc, ◌+◌, ◌-◌, ◌≤◌, inl, inr, Bool, true, false}
use Rattle.std.proofs.Common.{cond, List, [], ◌∷◌, ◌++◌, length, drop, reverse, slice_get}
use Rattle.std.proofs.Common.{Option, Some, None, is_some, nat_lt, Result, IfErr, IfNone, refl, sym}
use Rattle.std.proofs.Common.{◌<◌, ap, subst, append_assoc, arith, get_or, take}
use Rattle.std.proofs.lemmas.Bool.{ltb-true, ltb-false}
use Rattle.std.proofs.lemmas.List.{reverse-append, length-drop, take_more}
use Rattle.std.proofs.lemmas.List.Folds.{find-append}
use Rattle.std.specs.List.{find}
use Rattle.std.specs.Option.{option_map, option_map_or, option_or, option_and_then}
use Rattle.ticket_rows.proofs.Below.{Path, Follows, Follows-outline, length-path_of}
use Rattle.ticket_tree.proofs.OnPlaces.{stands_node}
use Rattle.ticket_tree.proofs.Parents.{one_parent_each}
use Rattle.ticket_rows.specs.Place.{Place, node_place, node_places, place_at, up, parent}
use Rattle.ticket_rows.specs.Place.{path_of}
use Rattle.ticket_rows.specs.Edit.{node_refusal}
use Rattle.ticket_rows.specs.Ticket.{IsValid, has_node, unless}
use Rattle.ticket_items.specs.declared.refusal.Refusal.{Refusal}
use Rattle.ticket_items.specs.declared.refusal.Refusal.TheVariants.{UnknownNode, Memory}
use Rattle.ticket_items.specs.declared.node_row.NodeRow.{NodeRow}
use Rattle.spawn.proofs.Ancestry.{root_place}
use Rattle.spawn.proofs.HomesBelow.{tail}
use Rattle.spawn.proofs.AroundAt.{shows}
use Rattle.spawn.proofs.Split.{path_after, follows_front, Around, around}
use Rattle.ticket_tree.specs.At.{IsAt}
use Rattle.ticket_tree.specs.declared.at.At.{At}

-- ---- the last that a test holds of, looked for from the end

pub found_more : {X : Type 0} (test : X → Bool) (xs : List X) (i : ℕ) (x : X)
    → 0 < i → i ≤ length xs → x ≡ get_or xs (i - 1) x
    → find test (reverse (take i xs)) ≡ cond (test x) (Some x) (find test (reverse (take (i - 1) xs)))
found_more test xs i x some within is =
    let before = take (i - 1) xs in
    let one : i ≡ i - 1 + 1 = omega (arith, some) in
    ap (λ n. find test (reverse (take n xs))) one
    ∙ ap (λ ys. find test (reverse ys)) (take_more xs (i - 1) x (omega (arith, some, within)) ∙ ap (λ y. before ++ y ∷ []) (sym is))
    ∙ ap (find test) (reverse-append before (x ∷ []))

-- ---- the last row that stands higher, told from the front

abbrev last_above : ℕ → Option (List ℕ) → List NodeRow → Option (List ℕ)
last_above depth known [] = known
last_above depth known (r ∷ rows) = last_above depth (cond (nat_lt r.depth depth) (Some r.id) known) rows

abbrev pub found_above : ℕ → List NodeRow → Option (List ℕ)
found_above depth rows = option_map (λ r. r.id) (find (λ r. nat_lt r.depth depth) (reverse rows))

or_here : (b : Bool) (o : Option NodeRow) (r : NodeRow) (known : Option (List ℕ))
    → option_or (option_map (λ s. s.id) (option_or o (cond b (Some r) None))) known
    ≡ option_or (option_map (λ s. s.id) o) (cond b (Some r.id) known)
or_here true None r known = refl
or_here true (Some s) r known = refl
or_here false None r known = refl
or_here false (Some s) r known = refl

from_front : (depth : ℕ) (known : Option (List ℕ)) (rows : List NodeRow)
    → option_or (found_above depth rows) known ≡ last_above depth known rows
from_front depth known [] = refl
from_front depth known (r ∷ rows) =
    ap (λ rs. option_or (option_map (λ s. s.id) (find (λ s. nat_lt s.depth depth) rs)) known) (reverse-append (r ∷ []) rows)
    ∙ ap (λ o. option_or (option_map (λ s. s.id) o) known) (find-append (λ s. nat_lt s.depth depth) (reverse rows) (r ∷ []))
    ∙ or_here (nat_lt r.depth depth) (find (λ s. nat_lt s.depth depth) (reverse rows)) r known
    ∙ from_front depth (cond (nat_lt r.depth depth) (Some r.id) known) rows

or_none : {X : Type 0} (o : Option X) → option_or o None ≡ o
or_none None = refl
or_none (Some x) = refl

-- ---- it is the ancestor at that level

get_none : {X : Type 0} (xs : List X) (k : ℕ) → xs ≡ [] → slice_get xs k ≡ None
get_none [] zero e = refl
get_none [] (suc k) e = refl
get_none (x ∷ xs) k e = cc

pub get-drop : {X : Type 0} (n : ℕ) (xs : List X) (k : ℕ)
    → slice_get (drop n xs) k ≡ slice_get xs (n + k)
get-drop zero xs k = ap (slice_get xs) (omega arith)
get-drop (suc n) [] k = get_none [] k refl ∙ sym (get_none [] (suc n + k) refl)
get-drop (suc n) (x ∷ xs) k =
    let next : suc (n + k) ≡ suc n + k = omega arith in
    get-drop n xs k ∙ ap (slice_get (x ∷ xs)) next

-- the ancestor at a level, where the path is that long, is known
abbrev KnowsLevel : ℕ → Path → Option (List ℕ) → Type 0
KnowsLevel level path known = level ≤ length path → known ≡ slice_get path (length path - level)

level_at : (b : Bool) (level : ℕ) (before : Path) (r : NodeRow) (known : Option (List ℕ))
    → nat_lt r.depth (suc level) ≡ b → 1 ≤ r.depth → r.depth ≤ suc (length before)
    → KnowsLevel level before known → KnowsLevel level (path_of before r) (cond b (Some r.id) known)
level_at true level before r known e low high knows within =
    let long : length (path_of before r) ≡ r.depth = length-path_of before r low high in
    let here : length (path_of before r) - level ≡ 0 = omega (arith, long, ltb-true _ _ e) in
    sym (ap (slice_get (path_of before r)) here)
level_at false level before r known e low high knows within =
    let long : length (path_of before r) ≡ r.depth = length-path_of before r low high in
    let deep : suc level ≤ r.depth = ltb-false _ _ e in
    let later : length (path_of before r) - level ≡ suc (r.depth - suc level) = omega (arith, long, deep) in
    let same : (length before - (r.depth - 1)) + (r.depth - suc level) ≡ length before - level = omega (arith, deep, high) in
    knows (omega (arith, deep, high)) ∙ sym (ap (slice_get (path_of before r)) later ∙ get-drop (length before - (r.depth - 1)) before (r.depth - suc level) ∙ ap (slice_get before) same)

knows_last : (level : ℕ) (before : Path) (rows : List NodeRow) (known : Option (List ℕ))
    → Follows before rows → KnowsLevel level before known
    → KnowsLevel level (path_after before rows) (last_above (suc level) known rows)
knows_last level before [] known follows knows = knows
knows_last level before (r ∷ rows) known follows knows =
    knows_last level (path_of before r) rows (cond (nat_lt r.depth (suc level)) (Some r.id) known) follows.2 (level_at (nat_lt r.depth (suc level)) level before r known refl follows.0 follows.1 knows)

-- ---- the parent

pub up_is : (rows : List NodeRow) (n : List ℕ) → IsValid rows → (at : Around rows n)
    → up (node_places rows) n ≡ slice_get at.up 0
up_is rows n valid at = ap (option_and_then parent) (root_place rows n valid at) ∙ ap (λ path. slice_get path 1) at.path

front_above : (rows : List NodeRow) (n : List ℕ) → IsValid rows → (at : Around rows n)
    → found_above at.root.depth at.front ≡ slice_get at.up 0
front_above rows n valid at =
    let path = path_after [] at.front in
    let level : ℕ = length at.up in
    let cut : ℕ = length path - (at.root.depth - 1) in
    let above : drop cut path ≡ at.up = ap tail at.path in
    let short : length path - cut ≡ level = sym (length-drop cut path) ∙ ap length above in
    let follows = follows_front [] at.front ((at.root ∷ at.inner) ++ at.back) (subst (Follows []) (at.whole ∙ append_assoc at.front (at.root ∷ at.inner) at.back) (Follows-outline rows valid.tree)) in
    let within : level ≤ length path = omega (arith, short) in
    let same : length path - level ≡ cut = omega (arith, short, at.level) in
    let first : cut ≡ cut + 0 = omega arith in
    sym (or_none (found_above at.root.depth at.front))
    ∙ from_front at.root.depth None at.front
    ∙ ap (λ d. last_above d None at.front) at.level
    ∙ knows_last level [] at.front None follows (λ _. sym (get_none [] (0 - level) refl)) within
    ∙ ap (slice_get path) same
    ∙ ap (slice_get path) first
    ∙ sym (get-drop cut path 0)
    ∙ ap (λ p. slice_get p 0) above

-- the row that is found in front of a node is its parent
pub parent_is : (rows : List NodeRow) (n : List ℕ) (a : At) → IsValid rows → IsAt rows n a
    → has_node rows n ≡ true → found_above a.depth a.front ≡ up (node_places rows) n
parent_is rows n a valid is known =
    let at = around rows n valid known in
    let seen = shows rows n a valid is at in
    ap (λ d. found_above d a.front) seen.depth ∙ ap (found_above at.root.depth) seen.front ∙ front_above rows n valid at ∙ sym (up_is rows n valid at)

no_place : (o : Option Place) → is_some o ≡ false → option_and_then parent o ≡ None
no_place None h = refl
no_place (Some p) h = cc

-- an unknown node has no parent
pub unknown_parent : (rows : List NodeRow) (n : List ℕ) → has_node rows n ≡ false
    → up (node_places rows) n ≡ None
unknown_parent rows n unknown = no_place (place_at (node_places rows) n) (stands_node rows n ∙ unknown)

parent_on : (o : Option Place) (p : Place) (u : List ℕ) → o ≡ Some p
    → option_and_then parent o ≡ Some u → parent p ≡ Some u
parent_on o p u e f = sym (ap (option_and_then parent) e) ∙ f

none_some : {X : Type 0} {x : X} → None ≡ Some x → ⊥
none_some e = cc

-- a parent stands in the ticket
pub parent_known : (rows : List NodeRow) (n u : List ℕ) → IsValid rows → (at : Around rows n)
    → up (node_places rows) n ≡ Some u → has_node rows u ≡ true
parent_known rows n u valid at above =
    let place = node_place at.root (path_of (path_after [] at.front) at.root) in
    let there = root_place rows n valid at in
    elim (one_parent_each rows valid n place there) [
      | inl root ↦ absurd (none_some (sym (ap (λ path. slice_get path 1) root.path) ∙ parent_on (place_at (node_places rows) n) place u there above))
      | inr child ↦
          let same : child.parent.id ≡ u = ap (λ o. option_map_or (λ i. i) o u) (sym child.above ∙ above) in
          sym (stands_node rows u) ∙ ap is_some (ap (place_at (node_places rows)) (sym same) ∙ child.there)
    ]

-- what is put at a known node is refused only where memory runs out
memory_at : {X : Type 0} (known : Bool) (result : Result X Refusal) → known ≡ true
    → IfNone (unless known UnknownNode) (IfErr result (λ e. e ≡ Memory))
    → IfErr result (λ e. e ≡ Memory)
memory_at true result e h = h
memory_at false result e h = cc

pub memory_alone : {X : Type 0} (result : Result X Refusal) (rows : List NodeRow) (n : List ℕ)
    → has_node rows n ≡ true → IfNone (node_refusal n rows) (IfErr result (λ e. e ≡ Memory))
    → IfErr result (λ e. e ≡ Memory)
memory_alone result rows n known h = memory_at (has_node rows n) result known h
