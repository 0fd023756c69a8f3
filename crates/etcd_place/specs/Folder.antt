-- A folder of values in etcd, as a text.
use Rattle.std.specs.Prelude.{◌≡◌, ℕ, List, [], ◌∷◌, ◌++◌, codes, drop, Option, Some, None}
use Rattle.std.specs.Prelude.{if◌then◌else◌, IsUtf8}
use Rattle.etcd_place.specs.Place.{Named, front_of, has_slash, is_etcd, is_gateway, key_of}
use Rattle.etcd_place.specs.Place.{place_of, rest_of}

-- the folder of all names at a gateway, if it is one
abbrev pub whole_of : List ℕ → Option Named
whole_of gateway =
    if is_gateway gateway then Some (record { gateway = gateway; name = [] }) else None

-- the folder that a text is, if it is one: behind `etcd://` a gateway, or one and a name with a `/`
-- between them
abbrev pub etcd_folder_in : List ℕ → Option Named
etcd_folder_in text =
    if is_etcd text
    then (if has_slash (drop 7 text)
    then place_of (front_of (drop 7 text)) (rest_of (drop 7 text)) else whole_of (drop 7 text))
    else None

-- what the keys of its values begin with, before a `/`
abbrev pub folder_key : List ℕ → List ℕ
folder_key [] = codes "toarnbif"
folder_key (c ∷ name) = key_of (c ∷ name)

-- a key is that of a value in it or below it: it is UTF-8, and this is what stands behind the
-- folder's key and a `/`
abbrev pub IsBelow : (name key rest : List ℕ) → Type 0
IsBelow name key rest = IsUtf8 key × (key ≡ folder_key name ++ codes "/" ++ rest)
