-- What names a file is a name.
use Rattle.std.proofs.Common.{◌≡◌, ◌&&◌, ℕ, Bool, true, false, List, Option, None, Some, ap, if◌then◌else◌, is_some, refl, sym}
use Rattle.std.proofs.lemmas.Bool.{true≢false}
use Rattle.ticket_items.specs.Names.{is_name}
use Rattle.shop_folder.specs.Names.{has_no_dot, is_file_name}
use Rattle.shop_folder.specs.Routes.{file_for, file_of, in_folder}
use Rattle.shop_folder.specs.declared.lies.Lies.TheVariants.{Folder}

both : (a b : Bool) (path x : List ℕ) → Some path ≡ (if a && b then Some x else None) → a ≡ true
both true b path x is = refl
both false b path x is = sym (ap is_some is)

-- there is a file of this name
pub file_named : (folder name path : List ℕ) → Some path ≡ file_of folder name → is_name name ≡ true
file_named folder name path is = both (is_name name) (has_no_dot name) path (in_folder folder name) is

below : (a b : Bool) (path : List ℕ) (file : Option (List ℕ)) → Some path ≡ (if a && b then file else None) → a ≡ true
below true b path file is = refl
below false b path file is = sym (ap is_some is)

inside : (a : Bool) (path : List ℕ) (file : Option (List ℕ)) → Some path ≡ (if a then file else None) → Some path ≡ file
inside true path file is = is
inside false path file is = absurd (true≢false (ap is_some is))

-- there is a file of a master's name in the folder of a worker's
pub worker_named : (folder worker master path : List ℕ) → Some path ≡ file_for folder Folder worker master → is_name worker ≡ true
worker_named folder worker master path is =
    below (is_name worker) (has_no_dot worker) path (file_of (in_folder folder worker) master) is

pub master_named : (folder worker master path : List ℕ) → Some path ≡ file_for folder Folder worker master → is_name master ≡ true
master_named folder worker master path is =
    file_named (in_folder folder worker) master path (inside (is_file_name worker) path (file_of (in_folder folder worker) master) is)
