-- The file of a folder that a message leads to.
use Rattle.std.specs.Prelude.{ℕ, List, ◌++◌, Option, Some, None, codes, if◌then◌else◌}
use Rattle.shop_folder.specs.Names.{is_file_name}
use Rattle.shop_folder.specs.declared.lies.Lies.{Lies}
use Rattle.shop_folder.specs.declared.lies.Lies.TheVariants.{File, Folder, Nothing}

-- the path of a name in a folder
abbrev pub in_folder : (folder name : List ℕ) → List ℕ
in_folder folder name = folder ++ codes "/" ++ name

-- the file of a name in a folder, if it may name one
abbrev pub file_of : (folder name : List ℕ) → Option (List ℕ)
file_of folder name = if is_file_name name then Some (in_folder folder name) else None

-- the same in the folder of another name, if that may name one
abbrev pub file_below : (folder other name : List ℕ) → Option (List ℕ)
file_below folder other name =
    if is_file_name other then file_of (in_folder folder other) name else None

-- the file of the controller that a message to a receiver from a sender is for, by what lies under
-- the receiver's name: the file of that name; or in the folder of that name, which is of a worker
-- for many masters, the file of the sender's name
abbrev pub file_for : (folder : List ℕ) → Lies → (receiver sender : List ℕ) → Option (List ℕ)
file_for folder File receiver sender = file_of folder receiver
file_for folder Folder receiver sender = file_below folder receiver sender
file_for folder Nothing receiver sender = None
