-- What etcd is asked by its JSON gateway: bytes are texts in base64, and numbers texts in decimal.
use Rattle.std.specs.Prelude.{ℕ, List, [], ◌++◌, true, codes, decimal, if◌then◌else◌, ◌==◌}
use Rattle.base64.specs.Engines.{standard}
use Rattle.base64.specs.GeneralPurpose.{encode_of}
use Rattle.json.specs.Json.{Json, boolean, string, array, object, item, no_items, member, no_members}
use Rattle.json.specs.Print.{print}
use Rattle.json.specs.Tree.{json_tokens}

-- the text of JSON, with no space in it
abbrev pub text_of : Json → List ℕ
text_of j = print (json_tokens j)

-- the text of bytes
abbrev pub encoded : List ℕ → List ℕ
encoded bytes = encode_of standard bytes

-- a list of one
abbrev pub one : Json → Json
one j = array (item j no_items)

-- an object of one member, of two, and of three
abbrev pub single : List ℕ → Json → Json
single a x = object (member a x no_members)

abbrev pub pair : List ℕ → Json → List ℕ → Json → Json
pair a x b y = object (member a x (member b y no_members))

abbrev pub triple : List ℕ → Json → List ℕ → Json → List ℕ → Json → Json
triple a x b y c z = object (member a x (member b y (member c z no_members)))

-- ---- by the text of a key, of a revision, of bytes

-- what is under a key
abbrev pub range_at : List ℕ → Json
range_at key = single (codes "key") (string key)

-- the keys from the first on and before the end, without what is under them
abbrev pub keys_between : List ℕ → List ℕ → Json
keys_between first end =
    triple (codes "key") (string first) (codes "range_end") (string end)
    (codes "keys_only") (boolean true)

-- what is under the key has this revision, which is 0 where nothing is
abbrev pub comparison : List ℕ → List ℕ → Json
comparison key revision =
    triple (codes "target") (string (codes "MOD")) (codes "key") (string key)
    (codes "mod_revision") (string revision)

-- these bytes come under the key, or those that are there
abbrev pub put : List ℕ → List ℕ → Json
put key bytes =
    single (codes "request_put") (pair (codes "key") (string key) (codes "value") (string bytes))

abbrev pub put_again : List ℕ → Json
put_again key =
    single (codes "request_put")
    (pair (codes "key") (string key) (codes "ignore_value") (boolean true))

-- what comes there by a touch: of revision 0 is nothing that could come again, and no bytes come
abbrev pub touched : List ℕ → ℕ → Json
touched key revision = if revision == 0 then put key [] else put_again key

-- one comparison; the one thing that is done where it holds; and where it doesn't, what is under
-- the key is looked up
abbrev pub transaction : List ℕ → List ℕ → Json → Json
transaction key revision success =
    triple (codes "compare") (one (comparison key revision)) (codes "success") (one success)
    (codes "failure") (one (single (codes "request_range") (range_at key)))

-- ---- the requests

abbrev pub range : List ℕ → Json
range key = range_at (encoded key)

-- the keys of a folder, which begin with it and a `/`. Behind them all stands `0`, the byte behind
-- that
abbrev pub listing : List ℕ → Json
listing folder = keys_between (encoded (folder ++ codes "/")) (encoded (folder ++ codes "0"))

abbrev pub swap : List ℕ → ℕ → List ℕ → Json
swap key revision bytes =
    transaction (encoded key) (decimal revision) (put (encoded key) (encoded bytes))

abbrev pub touch : List ℕ → ℕ → Json
touch key revision =
    transaction (encoded key) (decimal revision) (touched (encoded key) revision)

-- what stood under any key before this revision is forgotten
abbrev pub compaction : ℕ → Json
compaction revision = single (codes "revision") (string (decimal revision))
