-- Lists in JSON data: each item by its form.
use Rattle.std.specs.Prelude.{ℕ, List, [], ◌∷◌, ◌++◌, map, Option, Some, None}
use Rattle.std.specs.Option.{option_map, option_and_then}
use Rattle.serde_json.specs.Data.{Data, Items, no_items, item, string, array}
use Rattle.serde_json.specs.Find.{get, as_str, as_array}
use Rattle.serde_json.specs.View.{items_of}
use Rattle.json_source.specs.Read.{◌>>=◌}

-- ---- read

-- what each item is, in order; nothing, where one is nothing of the form
abbrev pub items_read : {X : Type 0} → (Data → Option X) → Items → Option (List X)
items_read form no_items = Some []
items_read form (item d ds) = form d >>= λ x. option_map (λ xs. x ∷ xs) (items_read form ds)

-- a list with one more behind it
abbrev pub one_more : {X : Type 0} → Option (List X) → Option X → Option (List X)
one_more read next = do
  xs ← read
  x ← next
  Some (xs ++ x ∷ [])

-- a list, each item by its form
abbrev pub list_form : {X : Type 0} → (Data → Option X) → Data → Option (List X)
list_form form d = as_array d >>= items_read form

-- the items of a list, none where it is absent
abbrev pub pool_items : Option Data → Option Items
pool_items None = Some no_items
pool_items (Some d) = as_array d

-- a list that may be absent
abbrev pub pool_form : {X : Type 0} → (Data → Option X) → Option Data → Option (List X)
pool_form form found = pool_items found >>= items_read form

-- the items of the list under a name
abbrev pub items_under : List ℕ → Data → Option Items
items_under name d = option_and_then as_array (get name d)

-- the list of texts under a name
abbrev pub texts_under : List ℕ → Data → Option (List (List ℕ))
texts_under name d = items_under name d >>= items_read as_str

-- ---- written

-- the items that values are
abbrev pub data_items : {X : Type 0} → (X → Data) → List X → Items
data_items form xs = items_of (map form xs)

-- a list of texts
abbrev pub texts_data : List (List ℕ) → Data
texts_data texts = array (data_items string texts)
