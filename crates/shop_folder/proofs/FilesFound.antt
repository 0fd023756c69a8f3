-- Files that were found in a folder.
use Rattle.std.proofs.Common.{◌≡◌, ◌∙◌, ◌++◌, ◌∷◌, ℕ, All, Global, List, [], None, Some, String, ap, string_bytes, subst, sym, true}
use Rattle.std.proofs.lemmas.List.Elements.{All-push}
use Rattle.std.specs.Prelude.{if◌then◌else◌}
use Rattle.shop_folder.specs.Files.{IsNamed, LiesIn, path_for}
use Rattle.shop_folder.specs.Names.{is_file_name}
use Rattle.shop_folder.specs.Routes.{file_below, file_of, in_folder}
use Rattle.shop_folder.specs.declared.folder_file.FolderFile.{FolderFile}
use Rattle.shop_folder.specs.declared.owner.Owner.TheVariants.{Named, WorkerOf}

-- one more name behind others
pub name_more : (old new : List (String Global)) (one : String Global) (name : List ℕ) → All IsNamed old → is_file_name name ≡ true → string_bytes one ≡ name → new ≡ old ++ one ∷ [] → All IsNamed new
name_more old new one name others named text is =
    subst (All IsNamed) (sym is) (All-push IsNamed old one others (ap is_file_name text ∙ named))

-- the file of a name lies in the folder
pub named_lies : (folder name : List ℕ) (f : FolderFile) (id : List ℕ) → is_file_name name ≡ true → f.owner ≡ Named id → id ≡ name
    → string_bytes f.path ≡ in_folder folder name → LiesIn folder f
named_lies folder name f id named owner is path =
    ap (path_for folder) owner ∙ ap (λ x. file_of folder x) is
    ∙ ap (λ b. if b then Some (in_folder folder name) else None) named ∙ ap Some (sym path)

-- and so does that of a worker for a master
pub worker_lies : (folder worker master : List ℕ) (f : FolderFile) (first second : List ℕ) → is_file_name worker ≡ true → is_file_name master ≡ true
    → f.owner ≡ WorkerOf first second → first ≡ worker → second ≡ master → string_bytes f.path ≡ in_folder (in_folder folder worker) master
    → LiesIn folder f
worker_lies folder worker master f first second worker_named master_named owner is_worker is_master path =
    ap (path_for folder) owner ∙ ap (λ x. file_below folder x second) is_worker ∙ ap (λ x. file_below folder worker x) is_master
    ∙ ap (λ b. if b then file_of (in_folder folder worker) master else None) worker_named
    ∙ ap (λ b. if b then Some (in_folder (in_folder folder worker) master) else None) master_named ∙ ap Some (sym path)

-- one more behind others
pub one_more : (folder : List ℕ) (f : FolderFile) (old new : List FolderFile) → All (LiesIn folder) old → LiesIn folder f → new ≡ old ++ f ∷ [] → All (LiesIn folder) new
one_more folder f old new others lies is = subst (All (LiesIn folder)) (sym is) (All-push (LiesIn folder) old f others lies)
