-- The data that is written in a message.
use Rattle.std.specs.Borrow.{Bor}
use Rattle.std.specs.Prelude.{◌≡◌, ℕ, List, [], ◌∷◌, map, ⊤}
use Rattle.serde_json.specs.Data.{Data, Members, no_members, member, put, unsigned, number, string}
use Rattle.serde_json.specs.Data.{object}
use Rattle.jmf_message.specs.declared.items.Item.{Item, fold-Item}
use Rattle.jmf_message.specs.declared.items.Item.TheOpen.{Item-F}

-- members under names that are lent
abbrev pub members_of : List (Bor (List ℕ) × Data) → Members
members_of [] = no_members
members_of (m ∷ ms) = member m.0.now m.1 (members_of ms)

-- the data of an item
abbrev pub one_level : Item-F Data → Data
one_level (Item-F.Text text) = string text
one_level (Item-F.Number n) = number (unsigned n)
one_level (Item-F.Object ms) = object (members_of ms.items)

abbrev pub item_data : Item → Data
item_data = fold-Item Data one_level

abbrev pub members_data : List (Bor (List ℕ) × Item) → Members
members_data ms = members_of (map (λ m. (m.0, item_data m.1)) ms)

-- members put one after another, each at its place in the byte order of the names
abbrev pub put_each : Members → Members → Members
put_each no_members ms = ms
put_each (member name d more) ms = put_each more (put name d ms)

-- the members of an object, and of each object in it, stand in that order
abbrev mutual
  pub IsOrdered : Data → Type 0
  IsOrdered (object ms) = (put_each ms no_members ≡ ms) × AreOrdered ms
  IsOrdered d = ⊤

  pub AreOrdered : Members → Type 0
  AreOrdered no_members = ⊤
  AreOrdered (member name d ms) = IsOrdered d × AreOrdered ms
