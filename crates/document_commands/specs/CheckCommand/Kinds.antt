-- What a document is said to be, or is by its members.
use Rattle.std.specs.Prelude.{ℕ, Bool, List, codes, is_some, if◌then◌else◌, Option, Some, None}
use Rattle.std.specs.Option.{option_map}
use Rattle.std.specs.Str.{bytes_eq}
use Rattle.serde_json.specs.Data.{Data}
use Rattle.serde_json.specs.Find.{get}
use Rattle.fault_finder.specs.declared.kind.Kind.{Kind}
use Rattle.fault_finder.specs.declared.kind.Kind.TheVariants as kinds

-- the kind that a word names
abbrev pub kind_named : List ℕ → Option Kind
kind_named word =
    if bytes_eq word (codes "ticket") then Some kinds.Ticket else
    (if bytes_eq word (codes "edits") then Some kinds.Edits else
    (if bytes_eq word (codes "order") then Some kinds.Order else
    (if bytes_eq word (codes "message") then Some kinds.Message else
    (if bytes_eq word (codes "script") then Some kinds.Script else
    (if bytes_eq word (codes "opening") then Some kinds.Opening else
    (if bytes_eq word (codes "state") then Some kinds.State else None))))))

-- the kind that is said, or none, by a word or none
abbrev pub kind_said : Option (List ℕ) → Option (Option Kind)
kind_said None = Some None
kind_said (Some word) = option_map Some (kind_named word)

-- whether an object has a member of a name
abbrev pub has : List ℕ → Data → Bool
has name d = is_some (get name d)

-- the kind that the members of data tell: a ticket where they tell no other
abbrev pub kind_in : Data → Kind
kind_in d =
    if has (codes "Events") d then kinds.Script else
    (if has (codes "JMF") d then kinds.Message else
    (if has (codes "Format") d then kinds.State else
    (if has (codes "Order") d then kinds.Order else
    (if has (codes "Master") d then kinds.Opening else
    (if has (codes "Edits") d then kinds.Edits else kinds.Ticket)))))
