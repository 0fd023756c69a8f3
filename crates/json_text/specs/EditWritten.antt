-- What is written for edits: the members of the kinds that differ in words alone.
use Rattle.std.specs.Prelude.{ℕ, List, codes}
use Rattle.serde_json.specs.Data.{Data, Members, no_members, member, string}

-- an edit of a kind, by two more members
abbrev pub two_members : List ℕ → List ℕ → Data → List ℕ → Data → Members
two_members kind name d other e =
    member (codes "Edit") (string kind) (member name d (member other e no_members))

-- an edit of a kind that sets an attribute of a target, which stands under `under`
abbrev pub attr_edit_members : List ℕ → List ℕ → List ℕ → List ℕ → List ℕ → Members
attr_edit_members kind under target name value =
    member (codes "Edit") (string kind)
    (member (codes "Name") (string name)
    (member under (string target) (member (codes "Value") (string value) no_members)))
