-- What nodes are gathered in: one and those below it, and the nodes of a list.
use Rattle.std.proofs.Common.{◌≡◌, ◌∙◌, ℕ, ◌+◌, ◌<◌, ◌≤◌, List, [], ◌∷◌, ◌++◌, length, get_or, drop, map, codes, Option, Some, None, Result, Ok, Err, IfErr, OnOk, refl, sym, ap, subst, append_assoc, append-nil}
use Rattle.std.proofs.lemmas.List.{drop_more, drop_all}
use Rattle.std.specs.Option.{option_map}
use Rattle.std.specs.Prelude.{⊤, IsErrAnd}
use Rattle.serde_json.specs.Data.{Data, Items, null, boolean, number, string, array, object}
use Rattle.serde_json.specs.Find.{as_array, get}
use Rattle.serde_json.specs.View.{items_of}
use Rattle.ticket_items.specs.declared.refusal.Refusal.{Refusal}
use Rattle.ticket_items.specs.declared.refusal.Refusal.TheVariants.{Memory}
use Rattle.json_items.specs.TicketDraft.{RawRow, item_rows, list_rows, next_depth, node_members, node_rows, own_row}
use Rattle.json_source.specs.Read.{◌>>=◌, Fails}
use Rattle.json_items.proofs.ListLemmas.{Fails-weaker}
use Rattle.json_reader.proofs.Nodes.{node_rows-get}
use Rattle.json_reader.specs.Gathered.{Gathers, rows_under}

-- ---- nothing to read

failed_first : (e : Refusal) (first rest : Option (List RawRow)) → Fails e first → Fails e (first >>= λ rows. option_map (λ more. rows ++ more) rest)
failed_first e first rest fails = Fails-weaker e first _ (λ none. ap (λ o. o >>= λ rows. option_map (λ more. rows ++ more) rest) none) fails

own_first : (own : Option RawRow) (below : Option (List RawRow)) → (option_map (λ r. r ∷ []) own >>= λ rows. option_map (λ more. rows ++ more) below) ≡ (own >>= λ row. option_map (λ rows. row ∷ rows) below)
own_first None below = refl
own_first (Some row) below = refl

whole_node : (names : List (List ℕ)) (n : ℕ) (d : Data)
    → (option_map (λ r. r ∷ []) (own_row names n d) >>= λ rows. option_map (λ more. rows ++ more) (rows_under (next_depth n) (get (codes "JDF") d))) ≡ node_rows names n d
whole_node names n d = own_first (own_row names n d) _ ∙ sym (node_rows-get names n d)

-- ---- the nodes of a list

pub list_rows-as_array : (n : ℕ) (d : Data) (ds : Items) → as_array d ≡ Some ds → list_rows n d ≡ item_rows n ds
list_rows-as_array n null ds is = cc
list_rows-as_array n (boolean b) ds is = cc
list_rows-as_array n (number m) ds is = cc
list_rows-as_array n (string s) ds is = cc
list_rows-as_array n (array items) ds is = ap (item_rows n) (let same : items ≡ ds = cc in same)
list_rows-as_array n (object ms) ds is = cc

module _ {G : Type 0} (is_of : List RawRow → G → Type 0) where
  -- ---- a node of its own

  -- a refusal that is handed on
  pub gather_failed : (old new : G) (result : Result ⊤ Refusal) (e : Refusal) (read : Option (List RawRow)) → IsErrAnd result (λ f. f ≡ e) → Fails e read → Gathers is_of old new result read
  gather_failed old new (Ok u) e read same fails = absurd same
  gather_failed old new (Err f) e read same fails = subst (λ g. Fails g read) (sym same) fails

  -- a node's draft that can't be read
  pub own_failed : (found : G) (result : Result ⊤ Refusal) (e : Refusal) (own : Option RawRow) → IsErrAnd result (λ f. f ≡ e) → Fails e own → Gathers is_of found found result (option_map (λ r. r ∷ []) own)
  own_failed found result e own same fails = gather_failed found found result e _ same (Fails-weaker e own _ (λ none. ap (option_map (λ r. r ∷ [])) none) fails)

  -- one that is added
  pub own_added : (old new : G) (result : Result ⊤ Refusal) (row : RawRow) (own : Option RawRow) → own ≡ Some row → OnOk result ((before : List RawRow) → is_of before old → is_of (before ++ row ∷ []) new)
      → IfErr result (λ e. e ≡ Memory) → Gathers is_of old new result (option_map (λ r. r ∷ []) own)
  own_added old new (Ok u) row own read added memory = (row ∷ [], ap (option_map (λ r. r ∷ [])) read, added)
  own_added old new (Err e) row own read added memory = subst (λ f. Fails f (option_map (λ r. r ∷ []) own)) (sym memory) tt

  -- ---- one after another

  pub nothing_found : (found : G) → Gathers is_of found found (Ok tt) (Some [])
  nothing_found found = ([], refl, λ before is. subst (λ raws. is_of raws found) (sym (append-nil before)) is)

  found_then : (old middle new : G) (result : Result ⊤ Refusal) (first rest : Option (List RawRow)) → Gathers is_of old middle (Ok tt) first → Gathers is_of middle new result rest
      → Gathers is_of old new result (first >>= λ rows. option_map (λ more. rows ++ more) rest)
  found_then old middle new result None rest before after = absurd (let none : None ≡ Some before.0 = before.1 in cc)
  found_then old middle new (Ok u) (Some rows) rest before after =
      let same : rows ≡ before.0 = cc in (
        rows ++ after.0,
        ap (option_map (λ more. rows ++ more)) after.1,
        λ earlier is. subst (λ raws. is_of raws new) (append_assoc earlier rows after.0)
            (after.2 (earlier ++ rows) (subst (λ added. is_of (earlier ++ added) middle) (sym same) (before.2 earlier is))),
      )
  found_then old middle new (Err e) (Some rows) rest before after = Fails-weaker e rest _ (λ none. ap (option_map (λ more. rows ++ more)) none) after

  -- ---- a node and those below it

  pub node_found : (old own new : G) (result : Result ⊤ Refusal) (names : List (List ℕ)) (n : ℕ) (d : Data) (below : Option Data) → get (codes "JDF") d ≡ below
      → Gathers is_of old own (Ok tt) (option_map (λ r. r ∷ []) (own_row names n d)) → Gathers is_of own new result (rows_under (next_depth n) below) → Gathers is_of old new result (node_rows names n d)
  node_found old own new result names n d below is first others =
      subst (Gathers is_of old new result) (whole_node names n d)
      (found_then old own new result _ _ first (subst (λ o. Gathers is_of own new result (rows_under (next_depth n) o)) (sym is) others))

  -- where the node itself can't be read
  pub node_failed : (old now : G) (result : Result ⊤ Refusal) (e : Refusal) (names : List (List ℕ)) (n : ℕ) (d : Data) → IsErrAnd result (λ f. f ≡ e) → Fails e (option_map (λ r. r ∷ []) (own_row names n d)) → Gathers is_of old now result (node_rows names n d)
  node_failed old now result e names n d same fails = gather_failed old now result e _ same (subst (Fails e) (whole_node names n d) (failed_first e _ _ fails))

-- ---- the nodes of a list, one after another

module _ {G : Type 0} (is_of : List RawRow → G → Type 0) {V : Type 0} (content : V → Data) where
  -- the rows from the i-th value on
  abbrev pub rows_from : ℕ → ℕ → List V → Option (List RawRow)
  rows_from n i values = item_rows n (items_of (map content (drop i values)))

  rows_from-more : (n : ℕ) (values : List V) (i : ℕ) (t : V) → i < length values → t ≡ get_or values i t
      → rows_from n i values ≡ (node_rows node_members n (content t) >>= λ rows. option_map (λ more. rows ++ more) (rows_from n (i + 1) values))
  rows_from-more n values i t within is =
      ap (λ xs. item_rows n (items_of (map content xs))) (drop_more values i t within)
      ∙ ap (λ x. node_rows node_members n (content x) >>= λ rows. option_map (λ more. rows ++ more) (rows_from n (i + 1) values)) (sym is)

  -- what is found of the values from the i-th on is found of all
  pub record IsFinding (n : ℕ) (values : List V) (i : ℕ) (start now : G) : Type 0 where
    pub rest : (new : G) (result : Result ⊤ Refusal) → Gathers is_of now new result (rows_from n i values) → Gathers is_of start new result (rows_from n 0 values)

  pub finding_more : (n : ℕ) (values : List V) (i : ℕ) (t : V) (start old new : G) → i < length values → t ≡ get_or values i t → IsFinding n values i start old
      → Gathers is_of old new (Ok tt) (node_rows node_members n (content t)) → IsFinding n values (i + 1) start new
  finding_more n values i t start old new within is before step = record {
    rest = λ last result adds. before.rest last result (subst (Gathers is_of old last result) (sym (rows_from-more n values i t within is)) (found_then is_of old new last result _ _ step adds));
  }

  pub finding_failed : (n : ℕ) (values : List V) (i : ℕ) (t : V) (start old : G) (e : Refusal) → i < length values → t ≡ get_or values i t → IsFinding n values i start old
      → Fails e (node_rows node_members n (content t)) → Fails e (rows_from n 0 values)
  finding_failed n values i t start old e within is before fails =
      before.rest old (Err e) (subst (Fails e) (sym (rows_from-more n values i t within is)) (failed_first e _ _ fails))

  pub finding_all : (n : ℕ) (values : List V) (i : ℕ) (start now : G) → length values ≤ i → IsFinding n values i start now → Gathers is_of start now (Ok tt) (rows_from n 0 values)
  finding_all n values i start now past before =
      before.rest now (Ok tt) (subst (λ xs. Gathers is_of now now (Ok tt) (item_rows n (items_of (map content xs)))) (sym (drop_all i values past)) (nothing_found is_of now))

  -- the values are those of a list
  pub list_added : (old new : G) (n : ℕ) (d : Data) (values : List V) → as_array d ≡ Some (items_of (map content values)) → Gathers is_of old new (Ok tt) (rows_from n 0 values) → Gathers is_of old new (Ok tt) (list_rows n d)
  list_added old new n d values is added = subst (Gathers is_of old new (Ok tt)) (sym (list_rows-as_array n d _ is)) added

  pub list_failed : (e : Refusal) (n : ℕ) (d : Data) (values : List V) → as_array d ≡ Some (items_of (map content values)) → Fails e (rows_from n 0 values) → Fails e (list_rows n d)
  list_failed e n d values is fails = subst (Fails e) (sym (list_rows-as_array n d _ is)) fails
