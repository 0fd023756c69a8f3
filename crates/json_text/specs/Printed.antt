-- What is printed for JSON data: its tokens, behind those that stand.
use Rattle.std.specs.Prelude.{◌≡◌, List, [], ◌∷◌, ◌++◌, ⊤, Some}
use Rattle.std.specs.List.{All, flat_map}
use Rattle.json.specs.Token.{Token, key}
use Rattle.json.specs.Tree.{json_tokens}
use Rattle.json.specs.Written.{Written}
use Rattle.serde_json.specs.Data.{Data, Members, no_members, member, put}
use Rattle.serde_json.specs.Read.{of_json}
use Rattle.serde_json.specs.Written.{outline}

-- the tokens of data
abbrev pub data_tokens : Data → List Token
data_tokens d = json_tokens (outline d)

-- the tokens of members, without the end of their object
abbrev pub member_tokens : Members → List Token
member_tokens no_members = []
member_tokens (member k d ms) = key k ∷ (data_tokens d ++ member_tokens ms)

-- these tokens stand behind the others
pub record IsAppended (more : List Token) (old new : Written) : Type 0 where
  pub tokens : new.tokens ≡ old.tokens ++ more
  pub before : new.before ≡ old.before

-- the tokens of data are read as it
abbrev pub IsReadAgain : Data → Type 0
IsReadAgain d = of_json (outline d) ≡ Some d

-- the tokens of data stand behind the others, and are read as it
pub record IsPrinted (d : Data) (old new : Written) : Type 0 where
  pub appended : IsAppended (data_tokens d) old new
  pub again : IsReadAgain d

-- each member is read again
abbrev pub AreReadAgain : Members → Type 0
AreReadAgain no_members = ⊤
AreReadAgain (member name d ms) = IsReadAgain d × AreReadAgain ms

-- the tokens of members stand behind the others, and each member is read again
pub record AreMembersPrinted (ms : Members) (old new : Written) : Type 0 where
  pub appended : IsAppended (member_tokens ms) old new
  pub again : AreReadAgain ms

-- the tokens of items stand behind the others, and each is read again
pub record AreItemsPrinted {A : Type 0} (written : A → Data) (items : List A) (old new : Written)
    : Type 0 where
  pub appended : IsAppended (flat_map (λ x. data_tokens (written x)) items) old new
  pub again : All (λ x. IsReadAgain (written x)) items

-- into the second members, the first one after another
abbrev pub put_all : Members → Members → Members
put_all no_members ms = ms
put_all (member k d more) ms = put_all more (put k d ms)

-- members stand in the byte order of their names, in which they are read
abbrev pub AreInOrder : Members → Type 0
AreInOrder ms = put_all ms no_members ≡ ms
