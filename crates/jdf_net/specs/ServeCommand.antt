-- How `serve` ends.
use Rattle.std.specs.Prelude.{◌≡◌, ◌⊎◌, ◌<◌, ◌++◌, ℕ, List, Option, Some, None, true, codes, get_or, length}
use Rattle.std.specs.Prelude.{option_map, string_bytes}
use Rattle.std.specs.Borrow.{Bor}
use Rattle.server_post.specs.declared.post.Post.{Post}
use Rattle.etcd_place.specs.Folder.{etcd_folder_in}
use Rattle.etcd_place.specs.Place.{etcd_place_in, is_etcd}
use Rattle.shop_folder.specs.declared.place.Place.{Place}
use Rattle.shop_folder.specs.declared.place.Place.TheVariants.{File, Folder}
use Rattle.streams.specs.Fault.{fault_status}
use Rattle.streams.specs.declared.fault.Fault.{Fault}

-- ---- what is served

-- what a text that begins with `etcd://` names: with a `/` at its end the folder before that, if
-- this begins so too, else one controller
abbrev pub IsOfText : List ℕ → Place → Type 0
IsOfText text (Folder folder) = (text ≡ folder.now ++ codes "/") × (is_etcd folder.now ≡ true)
IsOfText text (File one) =
    (one.now ≡ text)
    × ((folder : List ℕ) → text ≡ folder ++ codes "/" → is_etcd folder ≡ true → ⊥)

-- it is to be in etcd, and is no place, or no folder, there
abbrev pub IsNowhere : Place → Type 0
IsNowhere (File path) = (is_etcd path.now ≡ true) × (etcd_place_in path.now ≡ None)
IsNowhere (Folder path) = (is_etcd path.now ≡ true) × (etcd_folder_in path.now ≡ None)

-- ---- where it listens

-- a byte stands in a text
abbrev pub HasByte : ℕ → List ℕ → Type 0
HasByte b text = (k : ℕ) × (k < length text) × (get_or text k 0 ≡ b)

-- the address that a text stands for: itself where it has a `:`; else it is a port, at loopback
abbrev pub IsAddressOf : List ℕ → List ℕ → Type 0
IsAddressOf text address =
    (HasByte 58 text × (address ≡ text))
    ⊎ ((HasByte 58 text → ⊥) × (address ≡ codes "127.0.0.1:" ++ text))

-- ---- what goes out by itself

-- it is by the peers' file that is named, where one is
abbrev pub IsPostOf : Option (Bor (List ℕ)) → Option Post → Type 0
IsPostOf None post = Unit {0}
IsPostOf (Some named) post = option_map (λ p. string_bytes p.file) post ≡ Some named.now

-- ---- how it ends

-- why it doesn't serve: memory ran out, or what it stands on failed or holds no controller
abbrev pub IsUnserved : Fault → Type 0
IsUnserved fault = (fault_status fault ≡ 1) ⊎ (fault_status fault ≡ 4)

-- how `serve` ends: behind the connections that were asked for, for want of memory, or since it
-- can't load the controller or listen
abbrev pub EndsServe : ℕ → Type 0
EndsServe status = (status ≡ 0) ⊎ ((status ≡ 1) ⊎ (status ≡ 4))
