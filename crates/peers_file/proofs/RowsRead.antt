-- Rows, one after the other.
use Rattle.std.proofs.Common.{◌≡◌, ◌∙◌, ℕ, ◌+◌, ◌<◌, ◌≤◌, Bool, true, false, List, [], ◌∷◌, ◌++◌, length, drop, get_or, Option, Some, None, refl, ap, sym, append_assoc, if◌then◌else◌, add-one, drop-cons}
use Rattle.std.proofs.lemmas.List.{append-nil}
use Rattle.std.proofs.Math.ListN.{drop_of_length-le}
use Rattle.std.specs.Borrow.{Bor}
use Rattle.std.specs.Map.{keys_of}
use Rattle.std.specs.Prelude.{unwrap_or}
use Rattle.std.specs.Option.{option_map}
use Rattle.ticket_items.specs.Attrs.{Pairs}
use Rattle.json_source.specs.Read.{◌>>=◌, lent_pairs}
use Rattle.url.specs.Parts.{Parts}
use Rattle.peers_file.specs.Destination.{destination_in}
use Rattle.peers_file.specs.Pattern.{is_pattern}
use Rattle.peers_file.specs.Table.{Rows, row_in, rows_in}

some_not_none : {X : Type 0} {x : X} → Some x ≡ None → ⊥
some_not_none is = cc

-- ---- one row

row_if : (b : Bool) (text pattern : List ℕ) (url : Parts) (found : Option Parts) → Some pattern ≡ (if b then Some text else None) → Some url ≡ found
    → ◌≡◌ {A = Option (List ℕ × Parts)} (Some (pattern, url)) (if b then option_map (λ u. (text, u)) found else None)
row_if true text pattern url found is there =
    ap (λ (o : Option (List ℕ)). option_map {U = List ℕ × Parts} (λ p. (p, url)) o) is
    ∙ ap (λ (o : Option Parts). option_map {U = List ℕ × Parts} (λ u. (text, u)) o) there
row_if false text pattern url found is there = absurd (some_not_none is)

pub row_there : (text url pattern : List ℕ) (destination : Parts) → Some pattern ≡ (if is_pattern text then Some text else None)
    → Some destination ≡ destination_in url → ◌≡◌ {A = Option (List ℕ × Parts)} (Some (pattern, destination)) (row_in (text, url))
row_there text url pattern destination is there = row_if (is_pattern text) text pattern destination (destination_in url) is there

none_if : (b : Bool) (text : List ℕ) (found : Option Parts) → None ≡ found → ◌≡◌ {A = Option (List ℕ × Parts)} None (if b then option_map (λ u. (text, u)) found else None)
none_if true text found none = ap (λ (o : Option Parts). option_map {U = List ℕ × Parts} (λ u. (text, u)) o) none
none_if false text found none = refl

pub no_row : (text url : List ℕ) → None ≡ destination_in url → ◌≡◌ {A = Option (List ℕ × Parts)} None (row_in (text, url))
no_row text url none = none_if (is_pattern text) text (destination_in url) none

-- ---- rows

dropped : (pairs : List (Bor (List ℕ) × Bor (List ℕ))) (i : ℕ) (d : Bor (List ℕ) × Bor (List ℕ)) → i < length pairs
    → drop i pairs ≡ get_or pairs i d ∷ drop (i + 1) pairs
dropped pairs i d within = rw add-one (drop-cons pairs i d within)

-- the rows so far, and those of what is left
abbrev pub rows_from : Rows → Pairs → Option Rows
rows_from done left = option_map (λ rows. done ++ rows) (rows_in left)

pub one_row_more : (done : Rows) (new : Rows) (row : List ℕ × Parts) (p : List ℕ × List ℕ) (left : Pairs) → new ≡ done ++ row ∷ []
    → row_in p ≡ Some row → rows_from new left ≡ rows_from done (p ∷ left)
one_row_more done new row p left pushed is =
    ap (λ ds. rows_from ds left) pushed ∙ regrouped (rows_in left)
    ∙ sym (ap (λ o. option_map (λ rows. done ++ rows) (o >>= λ r. option_map (λ rs. r ∷ rs) (rows_in left))) is)
  where
    regrouped : (o : Option Rows) → option_map (λ rows. (done ++ row ∷ []) ++ rows) o ≡ option_map (λ rows. done ++ rows) (option_map (λ rs. row ∷ rs) o)
    regrouped None = refl
    regrouped (Some rs) = ap Some (append_assoc done (row ∷ []) rs)

pub no_row_more : (done : Rows) (p : List ℕ × List ℕ) (left : Pairs) → row_in p ≡ None → rows_from done (p ∷ left) ≡ None
no_row_more done p left none = ap (λ o. option_map (λ rows. done ++ rows) (o >>= λ r. option_map (λ rs. r ∷ rs) (rows_in left))) none

-- the next of the pairs is a row
pub next_row : (pairs : List (Bor (List ℕ) × Bor (List ℕ))) (i : ℕ) (d : Bor (List ℕ) × Bor (List ℕ)) (done new : Rows) (row : List ℕ × Parts) (all : Option Rows)
    → i < length pairs → new ≡ done ++ row ∷ [] → Some row ≡ row_in ((get_or pairs i d).0.now, (get_or pairs i d).1.now)
    → rows_from done (lent_pairs (drop i pairs)) ≡ all → rows_from new (lent_pairs (drop (i + 1) pairs)) ≡ all
next_row pairs i d done new row all within pushed is before =
    let p : List ℕ × List ℕ = ((get_or pairs i d).0.now, (get_or pairs i d).1.now) in
    one_row_more done new row p (lent_pairs (drop (i + 1) pairs)) pushed (sym is)
    ∙ ap (λ ps. rows_from done (lent_pairs ps)) (sym (dropped pairs i d within)) ∙ before

-- the next of the pairs is none
pub next_none : (pairs : List (Bor (List ℕ) × Bor (List ℕ))) (i : ℕ) (d : Bor (List ℕ) × Bor (List ℕ)) (done : Rows) (all : Option Rows)
    → i < length pairs → None ≡ row_in ((get_or pairs i d).0.now, (get_or pairs i d).1.now)
    → rows_from done (lent_pairs (drop i pairs)) ≡ all → all ≡ None
next_none pairs i d done all within none before =
    let p : List ℕ × List ℕ = ((get_or pairs i d).0.now, (get_or pairs i d).1.now) in
    sym before ∙ ap (λ ps. rows_from done (lent_pairs ps)) (dropped pairs i d within)
    ∙ no_row_more done p (lent_pairs (drop (i + 1) pairs)) (sym none)

-- none of the pairs is left
pub all_rows : (pairs : List (Bor (List ℕ) × Bor (List ℕ))) (i : ℕ) (done : Rows) (all : Option Rows) → length pairs ≤ i
    → rows_from done (lent_pairs (drop i pairs)) ≡ all → all ≡ Some done
all_rows pairs i done all end before =
    sym before ∙ ap (λ ps. rows_from done (lent_pairs ps)) (drop_of_length-le pairs end) ∙ ap Some (append-nil done)

-- ---- the patterns of rows are the names of the pairs

key_if : (b : Bool) (text : List ℕ) (found : Option Parts) (row : List ℕ × Parts) → (if b then option_map (λ u. (text, u)) found else None) ≡ Some row → row.0 ≡ text
key_if true text (Some url) row is = sym (ap (λ (o : Option (List ℕ × Parts)). unwrap_or (option_map (λ r. r.0) o) text) is)
key_if true text None row is = absurd (some_not_none (sym is))
key_if false text found row is = absurd (some_not_none (sym is))

keys_if : (p : List ℕ × List ℕ) (ps : Pairs) (o : Option (List ℕ × Parts)) (os : Option Rows) (rows : Rows) → row_in p ≡ o
    → ((rs : Rows) → os ≡ Some rs → keys_of rs ≡ keys_of ps)
    → (o >>= λ r. option_map (λ rs. r ∷ rs) os) ≡ Some rows → keys_of rows ≡ p.0 ∷ keys_of ps
keys_if p ps None os rows row more is = absurd (some_not_none (sym is))
keys_if p ps (Some r) None rows row more is = absurd (some_not_none (sym is))
keys_if p ps (Some r) (Some rs) rows row more is =
    let same : r ∷ rs ≡ rows = ap (λ (o : Option Rows). unwrap_or o []) is in
    ap (λ (rs : Rows). keys_of rs) (sym same) ∙ ap (λ k. k ∷ keys_of rs) (key_if (is_pattern p.0) p.0 (destination_in p.1) r row)
    ∙ ap (λ ks. p.0 ∷ ks) (more rs refl)

pub keys_same : (ps : Pairs) (rows : Rows) → rows_in ps ≡ Some rows → keys_of rows ≡ keys_of ps
keys_same [] rows is = ap (λ (o : Option Rows). keys_of (unwrap_or o [])) (sym is)
keys_same (p ∷ ps) rows is = keys_if p ps (row_in p) (rows_in ps) rows refl (λ rs same. keys_same ps rs same) is
