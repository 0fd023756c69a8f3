-- The controllers that etcd lists.
use Rattle.std.specs.Prelude.{◌≡◌, ◌⊎◌, ◌++◌, ℕ, List, [], ◌∷◌, Some, All}
use Rattle.etcd_place.specs.Folder.{IsBelow, etcd_folder_in}
use Rattle.etcd_place.specs.Place.{Named}
use Rattle.etcd_wire.specs.Answer.{KeyVersion}
use Rattle.server_steps.specs.Routes.{LeadsInFolder}
use Rattle.server_steps.specs.declared.mark.Mark.TheVariants.{Revision}
use Rattle.server_steps.specs.declared.watched.MarkedFile.{MarkedFile}

-- a controller in the folder at a path, which is of this name, is that of a key: it is where what
-- stands behind the folder's key leads, and its mark is the revision of the value
pub record IsListed (path name : List ℕ) (k : KeyVersion) (file : MarkedFile) : Type 0 where
  pub rest : List ℕ
  pub below : IsBelow name k.key rest
  pub leads : LeadsInFolder path rest file.route
  pub mark : file.mark ≡ Some (Revision k.revision)

-- a key is that of none
abbrev pub IsUnlisted : (path name : List ℕ) → KeyVersion → Type 0
IsUnlisted path name k = (file : MarkedFile) → IsListed path name k file → ⊥

-- that of a key stands behind others, or the key is that of none
abbrev pub AddsListed : List ℕ → List ℕ → KeyVersion → (old new : List MarkedFile) → Type 0
AddsListed path name k old new =
    (IsUnlisted path name k × (new ≡ old))
    ⊎ ((file : MarkedFile) × IsListed path name k file × (new ≡ old ++ file ∷ []))

-- those of these keys do, in turn
abbrev pub AddsAllListed : List ℕ → List ℕ → List KeyVersion → (old new : List MarkedFile) → Type 0
AddsAllListed path name [] old new = new ≡ old
AddsAllListed path name (k ∷ ks) old new =
    (mid : List MarkedFile) × AddsListed path name k old mid × AddsAllListed path name ks mid new

-- each of these is that of a key
abbrev pub AreListed : List ℕ → List ℕ → List MarkedFile → Type 0
AreListed path name files = All (λ file. (k : KeyVersion) × IsListed path name k file) files

-- the same in the folder that a path names
abbrev pub AreListedIn : List ℕ → List MarkedFile → Type 0
AreListedIn path files =
    (folder : Named) × (etcd_folder_in path ≡ Some folder) × AreListed path folder.name files
