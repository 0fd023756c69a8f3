-- What etcd answers: what is zero, false or empty has no member. Only a 200 with a revision in its
-- header tells anything.
use Rattle.std.specs.Prelude.{◌≡◌, ◌⊎◌, ◌<◌, ◌^◌, [], ◌∷◌, ℕ, List, true, false, Option, Some}
use Rattle.std.specs.Prelude.{None, ⊤}
use Rattle.std.specs.Prelude.{codes, decimal}
use Rattle.std.specs.Str.{IsUtf8}
use Rattle.json.specs.Find.{get}
use Rattle.json.specs.Json.{Json, array, boolean, string, document}
use Rattle.json.specs.Value.{items_of}
use Rattle.base64.specs.GeneralPurpose.{IsBytes}
use Rattle.cells.specs.Chain.{Version}
use Rattle.cells.specs.declared.swapped.SwapResult.{SwapResult}
use Rattle.cells.specs.declared.swapped.SwapResult.TheVariants.{Made, Other, Unknown}
use Rattle.etcd_wire.specs.Request.{encoded, one}

-- the number stands under the name, as a text in decimal
abbrev pub HasNumber : List ℕ → Json → ℕ → Type 0
HasNumber name j n = (n < 2 ^ 64) × (get name j ≡ Some (string (decimal n)))

-- an answer, whose header tells the revision at which it was given
pub record Answers (j : Json) (revision : ℕ) : Type 0 where
  pub header : Json
  pub has : get (codes "header") j ≡ Some header
  pub at : HasNumber (codes "revision") header revision

-- these bytes stand under `value`, which is missing where they are none
abbrev pub HasValue : Json → List ℕ → Type 0
HasValue j bytes =
    IsBytes bytes
    × (((get (codes "value") j ≡ None) × (bytes ≡ []))
    ⊎ (get (codes "value") j ≡ Some (string (encoded bytes))))

-- a value with its revision
abbrev pub IsVersion : Json → Version → Type 0
IsVersion j v = HasNumber (codes "mod_revision") j v.revision × HasValue j v.bytes

-- what was found under a key
abbrev pub IsFound : Json → Option Version → Type 0
IsFound j None = get (codes "kvs") j ≡ None
IsFound j (Some v) =
    (kv : Json) × (get (codes "kvs") j ≡ Some (one kv)) × IsVersion kv v

-- a key with the revision of its value
pub record KeyVersion : Type 0 where
  pub key : List ℕ
  pub revision : ℕ

abbrev pub IsKeyVersion : Json → KeyVersion → Type 0
IsKeyVersion j k =
    IsBytes k.key × (get (codes "key") j ≡ Some (string (encoded k.key)))
    × HasNumber (codes "mod_revision") j k.revision

-- each in its turn
abbrev pub AreKeyVersions : List Json → List KeyVersion → Type 0
AreKeyVersions [] [] = ⊤
AreKeyVersions (j ∷ js) (k ∷ ks) = IsKeyVersion j k × AreKeyVersions js ks
AreKeyVersions js ks = ⊥

-- the keys that were found, in their order
abbrev pub IsListing : Json → List KeyVersion → Type 0
IsListing j ks =
    ((get (codes "kvs") j ≡ None) × (ks ≡ []))
    ⊎ ((kvs : List Json) × (get (codes "kvs") j ≡ Some (array (items_of kvs)))
    × AreKeyVersions kvs ks)

-- a status and a body tell this of the revision and the JSON of an answer
pub record Tells (status : ℕ) (body : List ℕ) (P : ℕ → Json → Type 0) : Type 0 where
  pub is_ok : status ≡ 200
  pub utf8 : IsUtf8 body
  pub json : Json
  pub reads : document body ≡ Some json
  pub revision : ℕ
  pub answers : Answers json revision
  pub tells : P revision json

-- a transaction was made; its comparison didn't hold
abbrev pub Succeeded : Json → Type 0
Succeeded j = get (codes "succeeded") j ≡ Some (boolean true)

abbrev pub DidNot : Json → Type 0
DidNot j = (get (codes "succeeded") j ≡ None) ⊎ (get (codes "succeeded") j ≡ Some (boolean false))

-- what a status and a body tell of a swap
abbrev pub TellsSwap : ℕ → List ℕ → SwapResult → Type 0
TellsSwap status body (Made revision) = Tells status body (λ at j. (at ≡ revision) × Succeeded j)
TellsSwap status body Other = Tells status body (λ at j. DidNot j)
TellsSwap status body Unknown = Tells status body (λ at j. Succeeded j ⊎ DidNot j) → ⊥
