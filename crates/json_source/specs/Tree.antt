-- The data that a tree is.
use Rattle.std.specs.Prelude.{ℕ, ◌&&◌, Bool, true, List, [], ◌∷◌}
use Rattle.std.specs.Borrow.{Bor}
use Rattle.std.specs.Cmp.Lexicographic.{slice_cmp}
use Rattle.std.specs.Option.{option_map_or}
use Rattle.std.specs.Ordering.{is_lt, nat_cmp}
use Rattle.json.specs.Json as json
use Rattle.json.specs.Value.{value_view}
use Rattle.json.specs.declared.value.Value.{Value as Tree}
use Rattle.serde_json.specs.Data.{Data, Items, no_items, item, Members, no_members, member, put}
use Rattle.serde_json.specs.Data.{null}
use Rattle.serde_json.specs.Data.{boolean, number, string, array, object}
use Rattle.serde_json.specs.Read.{number_of}
use Rattle.ticket_items.specs.Ids.{mem}

abbrev mutual
  -- JSON as data: a number out of range is null, but no tree of a text that was read has one
  pub data_of : json.Json → Data
  data_of json.null = null
  data_of (json.boolean b) = boolean b
  data_of (json.number s) = option_map_or number (number_of s) null
  data_of (json.string s) = string s
  data_of (json.array js) = array (items_data js)
  data_of (json.object ms) = object (members_data ms no_members)

  -- the items, each as data
  pub items_data : json.Items → Items
  items_data json.no_items = no_items
  items_data (json.item j js) = item (data_of j) (items_data js)

  -- the members put to others one after another: of a name that stands twice, the last stays
  pub members_data : json.Members → Members → Members
  members_data json.no_members found = found
  members_data (json.member k j ms) found = members_data ms (put k (data_of j) found)

-- the data that a tree is
abbrev pub tree_data : {A : Type 0} → Tree A → Data
tree_data t = data_of (value_view t)

-- ---- members

-- whether each member has one of these names
abbrev pub names_among : List (List ℕ) → json.Members → Bool
names_among names json.no_members = true
names_among names (json.member k j ms) = mem k names && names_among names ms

-- whether a name is below that of the first of these
abbrev pub is_below : List ℕ → json.Members → Bool
is_below k json.no_members = true
is_below k (json.member l j ms) = is_lt (slice_cmp nat_cmp k l)

-- whether each name is below the next one, in byte order
abbrev pub names_rise : json.Members → Bool
names_rise json.no_members = true
names_rise (json.member k j ms) = is_below k ms && names_rise ms

-- the members as they stand, each as data
abbrev pub listed_data : json.Members → Members
listed_data json.no_members = no_members
listed_data (json.member k j ms) = member k (data_of j) (listed_data ms)

-- members by their names, each lent
abbrev pub entries_data : {A : Type 0} → List (Bor (List ℕ) × Bor (Tree A)) → Members
entries_data [] = no_members
entries_data (e ∷ es) = member e.0.now (tree_data e.1.now) (entries_data es)
