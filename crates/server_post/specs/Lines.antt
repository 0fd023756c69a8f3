-- The destinations by their numbers.
use Rattle.std.specs.Prelude.{◌≡◌, ℕ, List, ◌++◌, map, length, slice_get, Some, String, string_bytes}
use Rattle.std.specs.HashMap.{HashMap, keys}
use Rattle.std.specs.declared.alloc.Global.{Global}
use Rattle.courier.specs.Destination.{Destination}
use Rattle.peers_file.specs.Destination.{authority_of}
use Rattle.peers_file.specs.Table.{IsUrlOf, Rows}
use Rattle.url.specs.Parts.{Parts}

-- the URLs that were ever a destination, in the order of their numbers
abbrev pub Targets : Type 0 → Type 0
Targets S = HashMap (String Global) Parts S

-- by what a URL is told from the others: its authority and its path
abbrev pub url_text : Parts → List ℕ
url_text url = authority_of url ++ url.path

abbrev pub texts_of : {S : Type 0} → Targets S → List (List ℕ)
texts_of targets = map (λ k. string_bytes k) (keys targets)

-- there are as many of them as destinations
abbrev pub IsPaired : {S : Type 0} → Targets S → List Destination → Type 0
IsPaired targets ds = length (keys targets) ≡ length ds

-- this is the number of the URL that the peers' file has for a name
pub record IsLineOf {S : Type 0} (name : List ℕ) (peers : Rows) (targets : Targets S) (line : ℕ)
    : Type 0 where
  pub url : Parts
  pub its : IsUrlOf name peers (Some url)
  pub there : slice_get (texts_of targets) line ≡ Some (url_text url)
