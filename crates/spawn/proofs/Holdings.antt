-- The ids that spawns hold, as a list: what a look-up answers, and what becomes of it.
use Rattle.std.proofs.Common.{◌≡◌, ◌∙◌, ℕ, ◌+◌, ◌<◌, ◌||◌, Bool, true, false, cond, List, []}
use Rattle.std.proofs.Common.{◌∷◌, ◌++◌, map, take, length, get_or, Option, Some, None, refl}
use Rattle.std.proofs.Common.{sym, ap, subst, append-nil, String, Result, Ok, Err, OnErr}
use Rattle.std.proofs.lemmas.Bool.{or_parts}
use Rattle.std.proofs.lemmas.List.{map-append, take_more}
use Rattle.std.proofs.lemmas.Map.Text.{btree_map_updates_text, is_eq-slice_cmp}
use Rattle.std.specs.BTreeMap.{BTreeMap, UpdatesBy, get_by_text, is_at}
use Rattle.std.specs.Cmp.Lexicographic.{slice_cmp}
use Rattle.std.specs.List.{AllZip, filter}
use Rattle.std.specs.Map.{lookup}
use Rattle.std.specs.Ordering.{is_eq, nat_cmp}
use Rattle.std.specs.Str.{bytes_eq}
use Rattle.std.specs.String.{string_bytes, string_cmp}
use Rattle.ticket_items.proofs.Apart.{mem-append, or_none}
use Rattle.ticket_items.specs.Ids.{mem}
use Rattle.ticket_items.specs.declared.node_row.NodeRow.{NodeRow}
use Rattle.ticket_rows.specs.Ticket.{ids, ids_of}
use Rattle.spawn.proofs.HomesBelow.{ids-append}
use Rattle.spawn.proofs.RowsBelow.{filter-append}
use Rattle.spawn.specs.Holdings.{Holdings, IsFree, IsGiven, IsSame, OthersStay, holding_spawn}
use Rattle.spawn.specs.Holdings.{holdings_in}

-- ---- in a map by texts

-- an entry, by the bytes of its text
abbrev seen : {A : Type 0} → String A × ℕ → List ℕ × ℕ
seen e = (string_bytes e.0, e.1)

looked : {A : Type 0} (x : List ℕ) (es : List (String A × ℕ))
    → lookup (bytes_eq x) (map seen es)
    ≡ lookup (is_at (λ k. slice_cmp nat_cmp x (string_bytes k))) es
looked x [] = refl
looked x (e ∷ es) =
    ap (λ b. cond b (Some e.1) (lookup (bytes_eq x) (map seen es))) (sym (is_eq-slice_cmp x (string_bytes e.0)))
    ∙ ap (cond (is_eq (slice_cmp nat_cmp x (string_bytes e.0))) (Some e.1)) (looked x es)

pub held_in : {A : Type 0} (m : BTreeMap (String A) ℕ) (x : List ℕ)
    → holding_spawn (holdings_in m) x ≡ get_by_text m x
held_in m x = looked x m.entries

-- a clone has the same
pub cloned_in : {A : Type 0} (es fs : List (String A × ℕ))
    → AllZip (λ p q. (string_bytes q.0 ≡ string_bytes p.0) × (q.1 ≡ p.1)) es fs
    → map seen fs ≡ map seen es
cloned_in [] [] same = refl
cloned_in [] (f ∷ fs) same = absurd same
cloned_in (e ∷ es) [] same = absurd same
cloned_in (e ∷ es) (f ∷ fs) same =
    let one : seen f ≡ seen e = λ i. (same.0.0 i, same.0.1 i) in
    ap (λ d. d ∷ map seen fs) one ∙ ap (λ ds. seen e ∷ ds) (cloned_in es fs same.1)

-- an update at a text
pub updated_in : {A : Type 0} (y : List ℕ) (who : Option ℕ) (m n : BTreeMap (String A) ℕ)
    → UpdatesBy string_cmp (λ k. slice_cmp nat_cmp y (string_bytes k)) m n who
    → IsGiven (bytes_eq y) who (holdings_in m) (holdings_in n)
updated_in y who m n updates =
    record { each = λ x. held_in n x ∙ btree_map_updates_text y m n who updates x ∙ ap (cond (bytes_eq y x) who) (sym (held_in m x)) }

-- one by a key
pub inserted_in : {A : Type 0} (key : String A) (y : List ℕ) (who : Option ℕ)
    (m n : BTreeMap (String A) ℕ) (h : Holdings)
    → string_bytes key ≡ y → holdings_in m ≡ h → UpdatesBy string_cmp (string_cmp key) m n who
    → IsGiven (bytes_eq y) who h (holdings_in n)
inserted_in key y who m n h same was updates =
    subst (λ i. IsGiven (bytes_eq i) who h (holdings_in n)) same (subst (λ g. IsGiven (bytes_eq (string_bytes key)) who g (holdings_in n)) was (updated_in (string_bytes key) who m n updates))

-- one by a text
pub removed_in : {A : Type 0} (x y : List ℕ) (who : Option ℕ) (m n : BTreeMap (String A) ℕ)
    (h : Holdings)
    → x ≡ y → holdings_in m ≡ h
    → UpdatesBy string_cmp (λ k. slice_cmp nat_cmp x (string_bytes k)) m n who
    → IsGiven (bytes_eq y) who h (holdings_in n)
removed_in x y who m n h same was updates =
    subst (λ i. IsGiven (bytes_eq i) who h (holdings_in n)) same (subst (λ g. IsGiven (bytes_eq x) who g (holdings_in n)) was (updated_in x who m n updates))

-- ---- what was given

pub given_as : (f g : List ℕ → Bool) (who : Option ℕ) (h after : Holdings)
    → ((x : List ℕ) → f x ≡ g x) → IsGiven f who h after → IsGiven g who h after
given_as f g who h after same given = record { each = λ x. given.each x ∙ ap (λ b. cond b who (holding_spawn h x)) (same x) }

pub given_none : (who : Option ℕ) (h : Holdings) → IsGiven (λ x. false) who h h
given_none who h = record { each = λ x. refl }

either : (a b : Bool) (who was : Option ℕ) → cond b who (cond a who was) ≡ cond (a || b) who was
either true true who was = refl
either true false who was = refl
either false b who was = refl

pub given_more : (f g : List ℕ → Bool) (who : Option ℕ) (h mid after : Holdings)
    → IsGiven f who h mid → IsGiven g who mid after → IsGiven (λ x. f x || g x) who h after
given_more f g who h mid after first second =
    record { each = λ x. second.each x ∙ ap (cond (g x) who) (first.each x) ∙ either (f x) (g x) who (holding_spawn h x) }

-- what stands behind the ids that were given so far
pub given_grown : (done more all : List (List ℕ)) (who : Option ℕ) (h mid after : Holdings)
    → IsGiven (λ x. mem x done) who h mid → IsGiven (λ x. mem x more) who mid after
    → all ≡ done ++ more → IsGiven (λ x. mem x all) who h after
given_grown done more all who h mid after first second whole =
    given_as (λ x. mem x done || mem x more) (λ x. mem x all) who h after (λ x. sym (ap (mem x) whole ∙ mem-append x done more)) (given_more (λ x. mem x done) (λ x. mem x more) who h mid after first second)

pub given_one : (y : List ℕ) (who : Option ℕ) (h after : Holdings) → IsGiven (bytes_eq y) who h after
    → IsGiven (λ x. mem x (y ∷ [])) who h after
given_one y who h after given = given_as (bytes_eq y) (λ x. mem x (y ∷ [])) who h after (λ x. sym (or_none (bytes_eq y x))) given

pub given_next : (done : List (List ℕ)) (y : List ℕ) (all : List (List ℕ)) (who : Option ℕ)
    (h mid after : Holdings)
    → IsGiven (λ x. mem x done) who h mid → IsGiven (bytes_eq y) who mid after
    → all ≡ done ++ y ∷ [] → IsGiven (λ x. mem x all) who h after
given_next done y all who h mid after first second whole = given_grown done (y ∷ []) all who h mid after first (given_one y who mid after second) whole

-- ---- what wasn't, or was given back

-- ids that weren't given are held as before
pub others_stay : (f : List ℕ → Bool) (who : Option ℕ) (h after : Holdings) → IsGiven f who h after
    → OthersStay f h after
others_stay f who h after given = record { each = λ x fails. given.each x ∙ ap (λ b. cond b who (holding_spawn h x)) fails }

pub others_as : (f g : List ℕ → Bool) (h after : Holdings) → ((x : List ℕ) → f x ≡ g x)
    → OthersStay f h after → OthersStay g h after
others_as f g h after same others = record { each = λ x fails. others.each x (same x ∙ fails) }

-- also where more could have been given
pub others_of_front : (done more all : List (List ℕ)) (who : Option ℕ) (h mid after : Holdings)
    → IsGiven (λ x. mem x done) who h mid → after ≡ mid → all ≡ done ++ more
    → OthersStay (λ x. mem x all) h after
others_of_front done more all who h mid after first still whole =
    record {
      each = λ x out.
          let parts = or_parts (mem x done) (mem x more) (sym (ap (mem x) whole ∙ mem-append x done more) ∙ out) in
          ap (λ es. holding_spawn es x) still ∙ (others_stay (λ y. mem y done) who h mid first).each x parts.0;
    }

undone_at : (b : Bool) (f : List ℕ → Bool) (h mid after : Holdings) (x : List ℕ) → f x ≡ b
    → OthersStay f h mid → IsGiven f None mid after → IsFree f h → holding_spawn after x ≡ holding_spawn h x
undone_at true f h mid after x e others given free = given.each x ∙ ap (λ b. cond b None (holding_spawn mid x)) e ∙ sym (free.none x e)
undone_at false f h mid after x e others given free = given.each x ∙ ap (λ b. cond b None (holding_spawn mid x)) e ∙ others.each x e

-- what is given back that none held is as it was
pub undone : (f : List ℕ → Bool) (h mid after : Holdings) → OthersStay f h mid
    → IsGiven f None mid after → IsFree f h → IsSame h after
undone f h mid after others given free = record { each = λ x. undone_at (f x) f h mid after x refl others given free }

-- what holds whatever comes holds where it fails
pub on_err : {X E : Type 0} {P : Type 0} (result : Result X E) → P → OnErr result P
on_err (Ok x) p = tt
on_err (Err e) p = p

-- ---- one item more

pub item_more : {X : Type 0} (key : X → List ℕ) (xs : List X) (i : ℕ) (y : X) → i < length xs
    → y ≡ get_or xs i y → map key (take (i + 1) xs) ≡ map key (take i xs) ++ key y ∷ []
item_more key xs i y within is =
    ap (map key) (take_more xs i y within ∙ ap (λ z. take i xs ++ z ∷ []) (sym is)) ∙ map-append key (take i xs) (y ∷ [])

pub row_more : (rows : List NodeRow) (i : ℕ) (r : NodeRow) → i < length rows → r ≡ get_or rows i r
    → ids (take (i + 1) rows) ≡ ids (take i rows) ++ ids_of r
row_more rows i r within is =
    ap ids (take_more rows i r within ∙ ap (λ s. take i rows ++ s ∷ []) (sym is)) ∙ ids-append (take i rows) (r ∷ []) ∙ ap (λ js. ids (take i rows) ++ js) (append-nil (ids_of r))

-- one that passes a test, and one that fails it
pub chosen_more : {X : Type 0} (f : X → Bool) (xs : List X) (i : ℕ) (y : X) (b : Bool)
    → i < length xs → y ≡ get_or xs i y → f y ≡ b
    → filter f (take (i + 1) xs) ≡ filter f (take i xs) ++ cond b (y ∷ []) []
chosen_more f xs i y b within is passes =
    ap (filter f) (take_more xs i y within ∙ ap (λ z. take i xs ++ z ∷ []) (sym is)) ∙ filter-append f (take i xs) (y ∷ [])
    ∙ ap (λ c. filter f (take i xs) ++ cond c (y ∷ []) []) passes
