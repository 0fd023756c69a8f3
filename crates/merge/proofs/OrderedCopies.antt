-- Copies of the resources of some ids, where the ids stand in ticket order.
use Rattle.std.specs.Cmp.Lexicographic.{pointwise}
use Rattle.std.proofs.Common.{◌≡◌, ◌∙◌, ℕ, ◌+◌, ◌<◌, ◌&&◌, ◌||◌, Bool, true, false, not, cond, List}
use Rattle.std.proofs.Common.{[], ◌∷◌, ◌++◌, length, drop, get_or, Some, None, unwrap_or, refl, sym, ap}
use Rattle.std.proofs.lemmas.Bool.{true≢false, and_parts, and_right, or_parts, not-true}
use Rattle.std.proofs.lemmas.List.{drop_more}
use Rattle.std.proofs.lemmas.Slice.Eq.{bytes_eq-Decides}
use Rattle.std.specs.List.{filter}
use Rattle.std.specs.Str.{bytes_eq}
use Rattle.ticket_items.proofs.Apart.{bytes_eq-same, bytes_eq-symm, or_true}
use Rattle.ticket_items.specs.Ids.{mem, are_distinct}
use Rattle.ticket_items.specs.Resource.{is_alike, resource_ids}
use Rattle.ticket_rows.specs.Ticket.{IsValid}
use Rattle.ticket_items.specs.declared.node_row.NodeRow.{NodeRow}
use Rattle.ticket_items.specs.declared.resource.Resource.{Resource}
use Rattle.spawn.proofs.GoodCopies.{resources_apart}
use Rattle.spawn.proofs.Chosen.{resources_cons}
use Rattle.spawn.proofs.SameCopies.{alike-Decides}
use Rattle.spawn.specs.OfResource.{has_id}
use Rattle.spawn.specs.Parts.{resources, resources_among}
use Rattle.merge.specs.InOrder.{are_met, rest_behind, without_first}

-- ---- row by row

pub met_behind : {X Y : Type 0} (test : X → Y → Bool) (xs zs : List X) (ys : List Y)
    → are_met test (xs ++ zs) ys ≡ are_met test zs (rest_behind test xs ys)
met_behind test [] zs ys = refl
met_behind test (x ∷ xs) zs ys = met_behind test xs zs (without_first test x ys)

-- one row more, that has this pool
pub met_more : {Y : Type 0} (test : Resource → Y → Bool) (rows : List NodeRow) (i : ℕ) (d : NodeRow)
    (pool : List Resource) (ys left : List Y)
    → i < length rows → pool ≡ (get_or rows i d).resources → left ≡ rest_behind test pool ys
    → are_met test (resources (drop (i + 1) rows)) left ≡ are_met test (resources (drop i rows)) ys
met_more test rows i d pool ys left within own step =
    let later = resources (drop (i + 1) rows) in
    ap (are_met test later) step
    ∙ sym (ap (λ rs. are_met test (resources rs) ys) (drop_more rows i d within) ∙ ap (λ xs. are_met test xs ys) (resources_cons (get_or rows i d) (drop (i + 1) rows) ∙ ap (λ xs. xs ++ later) (sym own)) ∙ met_behind test pool later ys)

-- ---- what is met is there

-- what is left of a list, of which the first is taken or not
abbrev left_if : {Y : Type 0} → Bool → Y → List Y → List Y
left_if b y ys = unwrap_or (cond b (Some ys) None) (y ∷ ys)

known_at : (b d : Bool) (x : Resource) (i z : List ℕ) (xs : List Resource) (ids : List (List ℕ))
    → bytes_eq x.id i ≡ b → bytes_eq i z ≡ d → are_met has_id xs (left_if b i ids) ≡ true
    → (d || mem z ids) ≡ true
    → ((js : List (List ℕ)) → are_met has_id xs js ≡ true → mem z js ≡ true
    → mem z (resource_ids xs) ≡ true)
    → (bytes_eq x.id z || mem z (resource_ids xs)) ≡ true
known_at true true x i z xs ids e f met there go = ap (λ j. bytes_eq j z || mem z (resource_ids xs)) ((bytes_eq-Decides x.id i).0 e) ∙ ap (λ b. b || mem z (resource_ids xs)) f
known_at true false x i z xs ids e f met there go = ap (λ b. bytes_eq x.id z || b) (go ids met there) ∙ or_true (bytes_eq x.id z)
known_at false d x i z xs ids e f met there go =
    ap (λ b. bytes_eq x.id z || b) (go (i ∷ ids) met (ap (λ b. b || mem z ids) f ∙ there)) ∙ or_true (bytes_eq x.id z)

met_known : (z : List ℕ) (xs : List Resource) (ids : List (List ℕ)) → are_met has_id xs ids ≡ true
    → mem z ids ≡ true → mem z (resource_ids xs) ≡ true
met_known z [] [] met there = there
met_known z [] (i ∷ ids) met there = absurd (true≢false (sym met))
met_known z (x ∷ xs) [] met there = absurd (true≢false (sym there))
met_known z (x ∷ xs) (i ∷ ids) met there =
    known_at (bytes_eq x.id i) (bytes_eq i z) x i z xs ids refl refl met there (λ js m t. met_known z xs js m t)

out_at : (b : Bool) (x : List ℕ) (xs : List Resource) (ids : List (List ℕ)) → mem x ids ≡ b
    → are_met has_id xs ids ≡ true → mem x (resource_ids xs) ≡ false → b ≡ false
out_at true x xs ids e met out = absurd (true≢false (sym (met_known x xs ids met e) ∙ out))
out_at false x xs ids e met out = refl

-- a copy of no resource isn't met
unmet : (xs : List Resource) (y : Resource) (ys : List Resource)
    → mem y.id (resource_ids xs) ≡ false → are_met is_alike xs (y ∷ ys) ≡ false
unmet [] y ys out = refl
unmet (x ∷ xs) y ys out =
    let parts = or_parts (bytes_eq x.id y.id) (mem y.id (resource_ids xs)) out in
    ap (λ b. are_met is_alike xs (left_if (b && bytes_eq x.name y.name && bytes_eq x.class y.class) y ys)) parts.0 ∙ unmet xs y ys parts.1

-- an id of none of the resources picks none
fewer_at : (a b : Bool) (x : Resource) (xs ys : List Resource) → a ≡ false → xs ≡ ys
    → cond (a || b) (x ∷ xs) xs ≡ cond b (x ∷ ys) ys
fewer_at a b x xs ys out same = ap (λ d. cond (d || b) (x ∷ xs) xs) out ∙ ap (λ zs. cond b (x ∷ zs) zs) same

fewer : (i : List ℕ) (ids : List (List ℕ)) (xs : List Resource) → mem i (resource_ids xs) ≡ false
    → filter (λ x. mem x.id (i ∷ ids)) xs ≡ filter (λ x. mem x.id ids) xs
fewer i ids [] out = refl
fewer i ids (x ∷ xs) out =
    let parts = or_parts (bytes_eq x.id i) (mem i (resource_ids xs)) out in
    fewer_at (bytes_eq i x.id) (mem x.id ids) x (filter (λ z. mem z.id (i ∷ ids)) xs) (filter (λ z. mem z.id ids) xs) (bytes_eq-symm i x.id ∙ parts.0) (fewer i ids xs parts.1)

-- ---- the copies

id_of_alike : (x y : Resource) → is_alike x y ≡ true → x.id ≡ y.id
id_of_alike x y e = ap (λ f. f.0) ((alike-Decides x y).0 e)

-- x has the first of the ids, y is the first of the copies
taken_at : (f g : Bool) (x y : Resource) (i : List ℕ) (p : Bool) (xs ys : List Resource)
    → is_alike x y ≡ f → bytes_eq y.id i ≡ g → x.id ≡ i → mem x.id (resource_ids xs) ≡ false
    → (f && (p && are_met is_alike xs ys)) ≡ ((g && p) && are_met is_alike xs (left_if f y ys))
taken_at true true x y i p xs ys e h own out = refl
taken_at true false x y i p xs ys e h own out =
    absurd (true≢false (sym (bytes_eq-same i) ∙ ap (λ j. bytes_eq j i) (sym own ∙ id_of_alike x y e) ∙ h))
taken_at false true x y i p xs ys e h own out =
    sym (and_right p _ (unmet xs y ys (ap (λ j. mem j (resource_ids xs)) ((bytes_eq-Decides y.id i).0 h ∙ sym own) ∙ out)))
taken_at false false x y i p xs ys e h own out = refl

-- x has not the first of the ids, y is the first of the copies
passed_at : (f : Bool) (x y : Resource) (i : List ℕ) (p : Bool) (xs ys : List Resource)
    → is_alike x y ≡ f → bytes_eq x.id i ≡ false
    → ((bytes_eq y.id i && p) && are_met is_alike xs (y ∷ ys))
    ≡ ((bytes_eq y.id i && p) && are_met is_alike xs (left_if f y ys))
passed_at true x y i p xs ys e other =
    let out : bytes_eq y.id i ≡ false = ap (λ j. bytes_eq j i) (sym (id_of_alike x y e)) ∙ other in
    ap (λ b. (b && p) && are_met is_alike xs (y ∷ ys)) out ∙ sym (ap (λ b. (b && p) && are_met is_alike xs ys) out)
passed_at false x y i p xs ys e other = refl

taken : (x : Resource) (xs : List Resource) (i : List ℕ) (ids : List (List ℕ))
    (copies : List Resource)
    → x.id ≡ i → mem x.id (resource_ids xs) ≡ false
    → ((ys : List Resource)
    → pointwise is_alike (filter (λ x. mem x.id ids) xs) ys ≡ (pointwise has_id ys ids
    && are_met is_alike xs ys))
    → pointwise is_alike (x ∷ filter (λ x. mem x.id ids) xs) copies
    ≡ (pointwise has_id copies (i ∷ ids) && are_met is_alike (x ∷ xs) copies)
taken x xs i ids [] own out go = refl
taken x xs i ids (y ∷ ys) own out go = ap (λ b. is_alike x y && b) (go ys) ∙ taken_at (is_alike x y) (bytes_eq y.id i) x y i (pointwise has_id ys ids) xs ys refl refl own out

passed : (x : Resource) (xs : List Resource) (i : List ℕ) (ids : List (List ℕ))
    (copies : List Resource)
    → bytes_eq x.id i ≡ false
    → (pointwise has_id copies (i ∷ ids) && are_met is_alike xs copies)
    ≡ (pointwise has_id copies (i ∷ ids) && are_met is_alike (x ∷ xs) copies)
passed x xs i ids [] other = refl
passed x xs i ids (y ∷ ys) other = passed_at (is_alike x y) x y i (pointwise has_id ys ids) xs ys refl other

none_left : (x : Resource) (xs copies : List Resource)
    → (pointwise has_id copies [] && are_met is_alike xs copies)
    ≡ (pointwise has_id copies [] && are_met is_alike (x ∷ xs) copies)
none_left x xs [] = refl
none_left x xs (y ∷ ys) = refl

told_at : (b : Bool) (x : Resource) (xs : List Resource) (i : List ℕ) (ids : List (List ℕ))
    (copies : List Resource)
    → bytes_eq x.id i ≡ b → mem x.id (resource_ids xs) ≡ false
    → are_met has_id xs (left_if b i ids) ≡ true
    → ((js : List (List ℕ)) (ys : List Resource) → are_met has_id xs js ≡ true
    → pointwise is_alike (filter (λ x. mem x.id js) xs) ys ≡ (pointwise has_id ys js
    && are_met is_alike xs ys))
    → pointwise is_alike (filter (λ x. mem x.id (i ∷ ids)) (x ∷ xs)) copies
    ≡ (pointwise has_id copies (i ∷ ids) && are_met is_alike (x ∷ xs) copies)
told_at true x xs i ids copies e out met go =
    let own : x.id ≡ i = (bytes_eq-Decides x.id i).0 e in
    let kept = filter (λ z. mem z.id (i ∷ ids)) xs in
    ap (λ b. pointwise is_alike (cond (b || mem x.id ids) (x ∷ kept) kept) copies) (bytes_eq-symm i x.id ∙ e)
    ∙ ap (λ zs. pointwise is_alike (x ∷ zs) copies) (fewer i ids xs (ap (λ j. mem j (resource_ids xs)) (sym own) ∙ out))
    ∙ taken x xs i ids copies own out (λ ys. go ids ys met)
told_at false x xs i ids copies e out met go =
    let kept = filter (λ z. mem z.id (i ∷ ids)) xs in
    ap (λ b. pointwise is_alike (cond b (x ∷ kept) kept) copies) (out_at (mem x.id (i ∷ ids)) x.id xs (i ∷ ids) refl met out)
    ∙ go (i ∷ ids) copies met
    ∙ passed x xs i ids copies e

-- where the ids are met in order, the copies of their resources have these ids and are met in order
told : (xs : List Resource) (ids : List (List ℕ)) (copies : List Resource)
    → are_distinct (resource_ids xs) ≡ true → are_met has_id xs ids ≡ true
    → pointwise is_alike (filter (λ x. mem x.id ids) xs) copies
    ≡ (pointwise has_id copies ids && are_met is_alike xs copies)
told [] [] [] apart met = refl
told [] [] (y ∷ ys) apart met = refl
told [] (i ∷ ids) copies apart met = absurd (true≢false (sym met))
told (x ∷ xs) [] copies apart met =
    let parts = and_parts (not (mem x.id (resource_ids xs))) (are_distinct (resource_ids xs)) apart in
    told xs [] copies parts.1 met ∙ none_left x xs copies
told (x ∷ xs) (i ∷ ids) copies apart met =
    let parts = and_parts (not (mem x.id (resource_ids xs))) (are_distinct (resource_ids xs)) apart in
    told_at (bytes_eq x.id i) x xs i ids copies refl (not-true _ parts.0) met (λ js ys m. told xs js ys parts.1 m)

pub copies_told_in_order : (rows : List NodeRow) (ids : List (List ℕ)) (copies : List Resource)
    → IsValid rows → are_met has_id (resources rows) ids ≡ true
    → pointwise is_alike (resources_among ids rows) copies
    ≡ (pointwise has_id copies ids && are_met is_alike (resources rows) copies)
copies_told_in_order rows ids copies valid met = told (resources rows) ids copies (resources_apart rows valid) met
