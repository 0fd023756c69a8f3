-- The files of a folder of controllers.
use Rattle.std.specs.Prelude.{◌≡◌, ℕ, true, List, Option, Some, None, String, string_bytes}
use Rattle.std.specs.declared.alloc.Global.{Global}
use Rattle.shop_folder.specs.Names.{is_file_name}
use Rattle.shop_folder.specs.Routes.{file_below, file_of}
use Rattle.shop_folder.specs.declared.folder_file.FolderFile.{FolderFile}
use Rattle.shop_folder.specs.declared.owner.Owner.{Owner}
use Rattle.shop_folder.specs.declared.owner.Owner.TheVariants.{Any, Named, WorkerOf}

-- a text may name a controller of a folder
abbrev pub IsNamed : String Global → Type 0
IsNamed name = is_file_name (string_bytes name) ≡ true

-- the path of the file of a controller in a folder: under its own name; or, of a worker for many
-- masters, under the master's name in the folder of its own
abbrev pub path_for : List ℕ → Owner → Option (List ℕ)
path_for folder Any = None
path_for folder (Named name) = file_of folder name
path_for folder (WorkerOf name master) = file_below folder name master

-- a file lies in a folder, where the controller does that it is for
abbrev pub LiesIn : List ℕ → FolderFile → Type 0
LiesIn folder f = path_for folder f.owner ≡ Some (string_bytes f.path)
