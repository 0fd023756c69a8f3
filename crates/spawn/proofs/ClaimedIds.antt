-- What a spawn claims, by the ids of the rows below its node and of its copies.
use Rattle.std.proofs.Common.{◌≡◌, ◌∙◌, ◌⊎◌, ℕ, ◌&&◌, ◌||◌, Bool, true, false, cond, List, []}
use Rattle.std.proofs.Common.{◌∷◌, ◌++◌, ◌+◌, ◌<◌, Option, Some, None, inl, inr, is_some, length}
use Rattle.std.proofs.Common.{map, get_or, take, refl, sym, ap}
use Rattle.std.proofs.lemmas.Bool.Decides.{same_from_decides}
use Rattle.std.proofs.lemmas.Bool.{true≢false, and_from, and_parts, or_left, or_right}
use Rattle.std.proofs.lemmas.List.{take_more}
use Rattle.std.proofs.lemmas.Slice.Eq.{bytes_eq-Decides}
use Rattle.std.specs.List.{filter, find, list_any}
use Rattle.std.specs.Option.{option_and_then, option_map, option_map_or}
use Rattle.std.specs.Str.{bytes_eq}
use Rattle.ticket_items.proofs.Apart.{bytes_eq-same, mem-append}
use Rattle.ticket_items.specs.Ids.{mem}
use Rattle.ticket_items.specs.declared.node_row.NodeRow.{NodeRow}
use Rattle.ticket_rows.proofs.Below.{mem-node_ids}
use Rattle.ticket_rows.specs.Place.{Place, below, is_below, node_places, place_at, places}
use Rattle.ticket_rows.specs.Ticket.{IsValid, has_node, ids, ids_of}
use Rattle.ticket_tree.proofs.OnPlaces.{ids_of_places, stands_somewhere}
use Rattle.spawn.proofs.Among.{mem_back, mem_front}
use Rattle.spawn.proofs.ApartMore.{hold_both}
use Rattle.spawn.proofs.Chosen.{AllOwn, all_own}
use Rattle.spawn.proofs.Outside.{inside, none_found, outside}
use Rattle.spawn.proofs.RowsBelow.{rows_below-around}
use Rattle.spawn.proofs.Split.{Around, around, none_below}
use Rattle.spawn.proofs.Standing.{ids_apart, named}
use Rattle.plain_shop.specs.Claim.{is_claimed}
use Rattle.spawn.specs.Holdings.{Holdings, IsFree, IsTable, claimed_ids, claims, holding_spawn}
use Rattle.ticket_tree.proofs.AtNode.{none_below_unknown}
use Rattle.ticket_tree.specs.At.{rows_below}
use Rattle.spawn.specs.Records.{is_out}
use Rattle.spawn.specs.Table.{as_spawn, holder_at, holds}
use Rattle.spawn.specs.declared.records.spawn_rec.SpawnRec.{SpawnRec}
use Rattle.world_items.specs.declared.holder.Holder.TheVariants.{Master, Spawn}

-- ---- a place below a node

known_at : (b : Bool) (rows : List NodeRow) (n : List ℕ) (p : Place) → IsValid rows
    → (at : Around rows n) → mem p.id (ids (at.root ∷ at.inner)) ≡ b
    → place_at (places rows) p.id ≡ Some p → below n p ≡ b
known_at true rows n p valid at e own = inside rows n p.id p valid at e own
known_at false rows n p valid at e own = outside rows n p.id p at e own

below_at : (known : Bool) (rows : List NodeRow) (n : List ℕ) (p : Place) → IsValid rows
    → has_node rows n ≡ known → place_at (places rows) p.id ≡ Some p
    → below n p ≡ mem p.id (ids (rows_below rows n))
below_at true rows n p valid e own =
    let at = around rows n valid e in
    known_at (mem p.id (ids (at.root ∷ at.inner))) rows n p valid at refl own ∙ ap (λ rs. mem p.id (ids rs)) (sym (rows_below-around rows n valid at))
below_at false rows n p valid e own =
    none_found (below n) (places rows) p.id p (none_below n [] rows refl (mem-node_ids rows n ∙ e)) own ∙ ap (λ rs. mem p.id (ids rs)) (sym (none_below_unknown rows n e))

pub below_rows : (rows : List NodeRow) (n : List ℕ) (p : Place) → IsValid rows
    → place_at (places rows) p.id ≡ Some p → below n p ≡ mem p.id (ids (rows_below rows n))
below_rows rows n p valid own = below_at (has_node rows n) rows n p valid refl own

-- ---- by places and by ids

any_own : (all : List Place) (f : Place → Bool) (g : List ℕ → Bool) (tree : List Place)
    → AllOwn all tree → ((p : Place) → place_at all p.id ≡ Some p → f p ≡ g p.id)
    → list_any f tree ≡ list_any g (map (λ p. p.id) tree)
any_own all f g [] own same = refl
any_own all f g (p ∷ tree) own same = ap (λ b. b || list_any f tree) (same p own.0) ∙ ap (λ b. g p.id || b) (any_own all f g tree own.1 same)

-- ---- ids that pass a test

some_passes_at : (here : Bool) (f : List ℕ → Bool) (y : List ℕ) (xs : List (List ℕ)) → f y ≡ here
    → (here || list_any f xs) ≡ true
    → (list_any f xs ≡ true → (x : List ℕ) × (mem x xs ≡ true) × (f x ≡ true))
    → (x : List ℕ) × (mem x (y ∷ xs) ≡ true) × (f x ≡ true)
some_passes_at true f y xs e any go = (y, or_left (bytes_eq y y) (mem y xs) (bytes_eq-same y), e)
some_passes_at false f y xs e any go =
    let later = go any in
    (later.0, or_right (bytes_eq y later.0) (mem later.0 xs) later.1, later.2)

pub some_passes : (f : List ℕ → Bool) (xs : List (List ℕ)) → list_any f xs ≡ true
    → (x : List ℕ) × (mem x xs ≡ true) × (f x ≡ true)
some_passes f [] any = absurd (true≢false (sym any))
some_passes f (y ∷ xs) any = some_passes_at (f y) f y xs refl any (some_passes f xs)

passes_there_at : (here : Bool) (f : List ℕ → Bool) (y x : List ℕ) (xs : List (List ℕ))
    → bytes_eq y x ≡ here → (here || mem x xs) ≡ true → f x ≡ true
    → (mem x xs ≡ true → list_any f xs ≡ true) → (f y || list_any f xs) ≡ true
passes_there_at true f y x xs e there own go = or_left (f y) (list_any f xs) (ap f ((bytes_eq-Decides y x).0 e) ∙ own)
passes_there_at false f y x xs e there own go = or_right (f y) (list_any f xs) (go there)

pub passes_there : (f : List ℕ → Bool) (xs : List (List ℕ)) (x : List ℕ) → mem x xs ≡ true
    → f x ≡ true → list_any f xs ≡ true
passes_there f [] x there own = absurd (true≢false (sym there))
passes_there f (y ∷ xs) x there own = passes_there_at (bytes_eq y x) f y x xs refl there own (λ later. passes_there f xs x later own)

or_either : (a b : Bool) → (a || b) ≡ true → (a ≡ true) ⊎ (b ≡ true)
or_either true b e = inl refl
or_either false b e = inr e

abbrev AreWithin : List (List ℕ) → List (List ℕ) → Type 0
AreWithin inner all = (x : List ℕ) → mem x inner ≡ true → mem x all ≡ true

-- the ids of rows that pass a test are among those of all
within_at : (kept : Bool) (f : NodeRow → Bool) (r : NodeRow) (rows : List NodeRow) (x : List ℕ)
    → (mem x (ids (filter f rows)) ≡ true → mem x (ids rows) ≡ true)
    → mem x (ids (cond kept (r ∷ filter f rows) (filter f rows))) ≡ true
    → mem x (ids (r ∷ rows)) ≡ true
within_at true f r rows x go there =
    elim (or_either (mem x (ids_of r)) (mem x (ids (filter f rows))) (sym (mem-append x (ids_of r) (ids (filter f rows))) ∙ there)) [
      | inl own ↦ mem_front x (ids_of r) (ids rows) own
      | inr later ↦ mem_back x (ids_of r) (ids rows) (go later)
    ]
within_at false f r rows x go there = mem_back x (ids_of r) (ids rows) (go there)

ids_within : (f : NodeRow → Bool) (rows : List NodeRow) → AreWithin (ids (filter f rows)) (ids rows)
ids_within f [] x there = there
ids_within f (r ∷ rows) x there = within_at (f r) f r rows x (ids_within f rows x) there

-- whether one of some passes, which are those of all that a test tells
any_there : (all some : List (List ℕ)) (f g : List ℕ → Bool) → ((x : List ℕ) → mem x some ≡ f x)
    → AreWithin some all → list_any g some ≡ true → list_any (λ x. f x && g x) all ≡ true
any_there all some f g same within any =
    let one = some_passes g some any in
    passes_there (λ x. f x && g x) all one.0 (within one.0 one.1) (and_from (f one.0) (g one.0) (sym (same one.0) ∙ one.1) one.2)

there_any : (all some : List (List ℕ)) (f g : List ℕ → Bool) → ((x : List ℕ) → mem x some ≡ f x)
    → list_any (λ x. f x && g x) all ≡ true → list_any g some ≡ true
there_any all some f g same any =
    let one = some_passes (λ x. f x && g x) all any in
    let parts = and_parts (f one.0) (g one.0) one.2 in
    passes_there g some one.0 (same one.0 ∙ parts.0) parts.1

any_among : (all some : List (List ℕ)) (f g : List ℕ → Bool) → ((x : List ℕ) → mem x some ≡ f x)
    → AreWithin some all → list_any g some ≡ list_any (λ x. f x && g x) all
any_among all some f g same within =
    same_from_decides (list_any g some) (list_any (λ x. f x && g x) all) (any_there all some f g same within, there_any all some f g same) (λ e. e, λ e. e)

-- ---- the ids of a claim

mem_chosen_at : (b here : Bool) (f : List ℕ → Bool) (y x : List ℕ) (xs : List (List ℕ)) → f y ≡ b
    → bytes_eq y x ≡ here → mem x (filter f xs) ≡ (f x && mem x xs)
    → mem x (cond b (y ∷ filter f xs) (filter f xs)) ≡ (f x && (here || mem x xs))
mem_chosen_at true true f y x xs e own go = ap (λ c. c || mem x (filter f xs)) own ∙ sym (ap (λ c. c && true) (ap f (sym ((bytes_eq-Decides y x).0 own)) ∙ e))
mem_chosen_at true false f y x xs e own go = ap (λ c. c || mem x (filter f xs)) own ∙ go
mem_chosen_at false true f y x xs e own go =
    let fails : f x ≡ false = ap f (sym ((bytes_eq-Decides y x).0 own)) ∙ e in
    go ∙ ap (λ c. c && mem x xs) fails ∙ sym (ap (λ c. c && true) fails)
mem_chosen_at false false f y x xs e own go = go

mem_chosen : (f : List ℕ → Bool) (x : List ℕ) (xs : List (List ℕ))
    → mem x (filter f xs) ≡ (f x && mem x xs)
mem_chosen f x [] = sym (and_none (f x))
  where
    and_none : (b : Bool) → (b && false) ≡ false
    and_none true = refl
    and_none false = refl
mem_chosen f x (y ∷ xs) = mem_chosen_at (f y) (bytes_eq y x) f y x xs refl refl (mem_chosen f x xs)

-- the ids of the rows below its node, and those of its copies, known or not
abbrev claims_id : List NodeRow → SpawnRec → List ℕ → Bool
claims_id rows r x = mem x (ids (rows_below rows r.node)) || mem x r.rw

-- of what stands at a place
claimed_at : (rows : List NodeRow) (r : SpawnRec) (x : List ℕ) (p : Place) → IsValid rows
    → place_at (places rows) x ≡ Some p → claims_id rows r x ≡ is_claimed r.node r.rw p
claimed_at rows r x p valid there =
    let id : p.id ≡ x = named (places rows) x p there in
    ap (claims_id rows r) (sym id)
    ∙ ap (λ b. b || mem p.id r.rw) (sym (below_rows rows r.node p valid (ap (place_at (places rows)) id ∙ there)))

out_of_part : (b : Bool) (inner all : List (List ℕ)) (x : List ℕ) → AreWithin inner all
    → mem x all ≡ false → mem x inner ≡ b → b ≡ false
out_of_part true inner all x within out e = absurd (true≢false (sym (within x e) ∙ out))
out_of_part false inner all x within out e = refl

listed_at : (o : Option Place) (rows : List NodeRow) (r : SpawnRec) (x : List ℕ) → IsValid rows
    → place_at (places rows) x ≡ o
    → (mem x (ids (rows_below rows r.node)) || (mem x (ids rows) && mem x r.rw))
    ≡ option_map_or (is_claimed r.node r.rw) o false
listed_at None rows r x valid none =
    let out : mem x (ids rows) ≡ false = sym (stands_somewhere rows x) ∙ ap is_some none in
    let away = out_of_part (mem x (ids (rows_below rows r.node))) (ids (rows_below rows r.node)) (ids rows) x (ids_within (λ s. is_below (node_places rows) s.id r.node) rows) out refl in
    ap (λ b. b || (mem x (ids rows) && mem x r.rw)) away ∙ ap (λ b. b && mem x r.rw) out
listed_at (Some p) rows r x valid there =
    let known : mem x (ids rows) ≡ true = sym (stands_somewhere rows x) ∙ ap is_some there in
    ap (λ b. mem x (ids (rows_below rows r.node)) || (b && mem x r.rw)) known ∙ claimed_at rows r x p valid there

-- the ids of what a spawn claims are those under which something stands that it claims
pub claims_listed : (rows : List NodeRow) (r : SpawnRec) (x : List ℕ) → IsValid rows
    → mem x (claimed_ids rows r) ≡ claims rows r x
claims_listed rows r x valid =
    mem-append x (ids (rows_below rows r.node)) (filter (λ y. mem y (ids rows)) r.rw)
    ∙ ap (λ b. mem x (ids (rows_below rows r.node)) || b) (mem_chosen (λ y. mem y (ids rows)) x r.rw)
    ∙ listed_at (place_at (places rows) x) rows r x valid refl

stands_by : (o : Option Place) (rows : List NodeRow) (r : SpawnRec) (x : List ℕ)
    → place_at (places rows) x ≡ o → option_map_or (is_claimed r.node r.rw) o false ≡ true
    → mem x (ids rows) ≡ true
stands_by None rows r x there claimed = absurd (true≢false (sym claimed))
stands_by (Some p) rows r x there claimed = sym (stands_somewhere rows x) ∙ ap is_some there

claimed_within : (rows : List NodeRow) (r : SpawnRec) → IsValid rows
    → AreWithin (claimed_ids rows r) (ids rows)
claimed_within rows r valid x there = stands_by (place_at (places rows) x) rows r x refl (sym (claims_listed rows r x valid) ∙ there)

-- ---- what meets what was claimed

some_holds : (f : SpawnRec → Bool) (recs : List SpawnRec)
    → is_some (as_spawn (option_map_or (λ s. Spawn s.id) (find f recs) Master)) ≡ list_any f recs
some_holds f [] = refl
some_holds f (r ∷ recs) = by (f r) (some_holds f recs)
  where
    by : (b : Bool) → is_some (as_spawn (option_map_or (λ s. Spawn s.id) (find f recs) Master)) ≡ list_any f recs → is_some (as_spawn (option_map_or (λ s. Spawn s.id) (cond b (Some r) (find f recs)) Master)) ≡ (b || list_any f recs)
    by true go = refl
    by false go = go

both_at : (rows : List NodeRow) (recs : List SpawnRec) (r : SpawnRec) (h : Holdings) (p : Place)
    → is_out r ≡ true → IsTable rows recs h → place_at (places rows) p.id ≡ Some p
    → (holds p r && list_any (holds p) recs) ≡ (claims rows r p.id && is_some (holding_spawn h p.id))
both_at rows recs r h p out table own =
    ap (λ b. (b && is_claimed r.node r.rw p) && list_any (holds p) recs) out
    ∙ ap (λ b. is_claimed r.node r.rw p && b) (sym (some_holds (holds p) recs))
    ∙ sym (ap (λ o. option_map_or (is_claimed r.node r.rw) o false && is_some (holding_spawn h p.id)) own
    ∙ ap (λ o. is_claimed r.node r.rw p && is_some o) (table.same p.id ∙ ap (λ o. option_and_then as_spawn (option_map (holder_at recs) o)) own))

-- one of the ids of a claim is held just where a spawn holds a place of it
pub held_is_met : (rows : List NodeRow) (recs : List SpawnRec) (r : SpawnRec) (h : Holdings)
    → IsValid rows → is_out r ≡ true → IsTable rows recs h
    → list_any (λ x. is_some (holding_spawn h x)) (claimed_ids rows r) ≡ hold_both (places rows) recs r
held_is_met rows recs r h valid out table =
    let tree = places rows in
    let g : List ℕ → Bool = λ x. claims rows r x && is_some (holding_spawn h x) in
    any_among (ids rows) (claimed_ids rows r) (claims rows r) (λ x. is_some (holding_spawn h x)) (λ x. claims_listed rows r x valid) (claimed_within rows r valid)
    ∙ ap (list_any g) (sym (ids_of_places [] rows))
    ∙ sym (any_own tree (λ p. holds p r && list_any (holds p) recs) g tree (all_own tree tree (λ y p found. found) (ids_apart rows valid)) (λ p own. both_at rows recs r h p out table own))

-- so where none is held the claim is free
none_held_at : (o : Option ℕ) (g : List ℕ → Option ℕ) (xs : List (List ℕ)) (x : List ℕ) → g x ≡ o
    → mem x xs ≡ true → list_any (λ y. is_some (g y)) xs ≡ false → o ≡ None
none_held_at None g xs x e there none = refl
none_held_at (Some s) g xs x e there none = absurd (true≢false (sym (passes_there (λ y. is_some (g y)) xs x there (ap is_some e)) ∙ none))

pub unmet_is_free : (rows : List NodeRow) (r : SpawnRec) (h : Holdings) → IsValid rows
    → list_any (λ x. is_some (holding_spawn h x)) (claimed_ids rows r) ≡ false → IsFree (claims rows r) h
unmet_is_free rows r h valid none =
    record { none = λ x claimed. none_held_at (holding_spawn h x) (holding_spawn h) (claimed_ids rows r) x refl (claims_listed rows r x valid ∙ claimed) none }

-- ---- one spawn more

pub records_more : (recs : List SpawnRec) (i : ℕ) (r : SpawnRec) → i < length recs
    → r ≡ get_or recs i r → take (i + 1) recs ≡ take i recs ++ r ∷ []
records_more recs i r within is = take_more recs i r within ∙ ap (λ s. take i recs ++ s ∷ []) (sym is)

-- one that isn't out holds nothing
pub none_both : (tree : List Place) (recs : List SpawnRec) (r : SpawnRec) → is_out r ≡ false
    → hold_both tree recs r ≡ false
none_both [] recs r away = refl
none_both (p ∷ tree) recs r away =
    ap (λ b. ((b && is_claimed r.node r.rw p) && list_any (holds p) recs) || hold_both tree recs r) away ∙ none_both tree recs r away
