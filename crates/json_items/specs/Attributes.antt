-- Attributes (JDF 1.5, 3.1): their tests, and what is written for them.
use Rattle.std.specs.Prelude.{Bool, [], ◌∷◌}
use Rattle.std.specs.List.{list_all}
use Rattle.serde_json.specs.Data.{Data, Members, no_members, member, string, object}
use Rattle.ticket_items.specs.Attrs.{Pairs}
use Rattle.ticket_items.specs.Names.{is_name, is_text}

-- whether all names are valid
abbrev pub attrs_have_names : Pairs → Bool
attrs_have_names pairs = list_all (λ p. is_name p.0) pairs

-- whether all texts are valid
abbrev pub attrs_have_texts : Pairs → Bool
attrs_have_texts pairs = list_all (λ p. is_text p.1) pairs

-- a text each
abbrev pub attr_members : Pairs → Members
attr_members [] = no_members
attr_members (p ∷ pairs) = member p.0 (string p.1) (attr_members pairs)

abbrev pub attrs_data : Pairs → Data
attrs_data pairs = object (attr_members pairs)
