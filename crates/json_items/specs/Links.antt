-- The form of links to resources (JDF 1.5, 3.9).
use Rattle.std.specs.Prelude.{ℕ, Bool, List, [], ◌∷◌, codes, if◌then◌else◌, Option, Some, None}
use Rattle.std.specs.Str.{bytes_eq}
use Rattle.serde_json.specs.Data.{Data, no_members, member, string, object}
use Rattle.serde_json.specs.Find.{as_str}
use Rattle.ticket_items.specs.Names.{is_name}
use Rattle.ticket_items.specs.declared.link.Link.{Link}
use Rattle.ticket_items.specs.declared.usage.Usage.{Usage}
use Rattle.ticket_items.specs.declared.usage.Usage.TheVariants.{Input, Output}
use Rattle.json_source.specs.Read.{◌>>=◌, some_if, has_only, text_under}

-- ---- the Usage

-- that of a word
abbrev pub usage_named : List ℕ → Option Usage
usage_named word =
    if bytes_eq word (codes "Input") then Some Input else
    (if bytes_eq word (codes "Output") then Some Output else None)

abbrev pub usage_word : Usage → List ℕ
usage_word Input = codes "Input"
usage_word Output = codes "Output"

abbrev pub usage_form : Data → Option Usage
usage_form d = as_str d >>= usage_named

abbrev pub usage_data : Usage → Data
usage_data u = string (usage_word u)

-- ---- links

-- what may stand in a link
abbrev pub link_members : List (List ℕ)
link_members = codes "Usage" ∷ codes "rRef" ∷ []

unfoldable pub link_form : Data → Option Link
link_form d = do
  _ ← some_if (has_only link_members d)
  word ← text_under (codes "Usage") d
  usage ← usage_named word
  rref ← text_under (codes "rRef") d
  Some (record { rref = rref; usage = usage })

abbrev pub link_has_names : Link → Bool
link_has_names l = is_name l.rref

abbrev pub link_data : Link → Data
link_data l =
    object (member (codes "Usage") (string (usage_word l.usage))
    (member (codes "rRef") (string l.rref) no_members))
