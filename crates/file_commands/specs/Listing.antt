-- What `list` writes of the controller in a file, and of those in the files of a folder.
use Rattle.std.specs.Prelude.{◌≡◌, ◌⊎◌, ℕ, Bool, true, false, List, [], ◌∷◌, ◌++◌, ◌||◌, codes, ⊤}
use Rattle.std.specs.Prelude.{if◌then◌else◌, is_err, Result, Ok, Err, string_bytes}
use Rattle.std.specs.List.{All, flat_map, list_any}
use Rattle.list_text.specs.Lists.{master_list, worker_list}
use Rattle.list_text.specs.declared.tab_line.TheConstants.{HEAD_LINE}
use Rattle.shop_folder.specs.Files.{LiesIn}
use Rattle.shop_folder.specs.Owner.{is_owner}
use Rattle.shop_folder.specs.declared.folder_file.FolderFile.{FolderFile}
use Rattle.stored_state.specs.declared.any_controller.AnyController.{AnyController}
use Rattle.stored_state.specs.declared.any_controller.AnyController.TheVariants.{Master as of_master}
use Rattle.stored_state.specs.declared.any_controller.AnyController.TheVariants.{Worker as of_worker}
use Rattle.streams.specs.Fault.{fault_line}
use Rattle.streams.specs.declared.refused.Refused.TheVariants.{OtherName}
use Rattle.streams.specs.declared.fault.Fault.{Fault}
use Rattle.streams.specs.declared.fault.Fault.TheVariants.{Device}
use Rattle.file_commands.specs.Files.{IsNotOpened, file_bytes, is_honest, keep_in_file}
use Rattle.file_commands.specs.Opening.{IsHeldBy}
use Rattle.file_commands.specs.declared.asked.ListRequest.{ListRequest}
use Rattle.file_commands.specs.declared.listed.FileLists.{FileLists}

-- the lines of a controller's works that are open, or of all others
abbrev pub lines_of : Bool → ListRequest → AnyController → List ℕ
lines_of are_open a (of_master m) = master_list are_open a.is_json a.now m
lines_of are_open a (of_worker w) = worker_list are_open a.is_json a.now w

-- those of all others, unless only what is open is wanted
abbrev pub other_lines : ListRequest → AnyController → List ℕ
other_lines a c = if a.is_open then [] else lines_of false a c

-- what stands above the lines: nothing where they are JSON
abbrev pub head_of : Bool → List ℕ
head_of is_json = if is_json then [] else HEAD_LINE.now

-- the list of controllers: what is open at each, and then all others of each
unfoldable pub list_of : ListRequest → List AnyController → List ℕ
list_of a cs = head_of a.is_json ++ flat_map (lines_of true a) cs ++ flat_map (other_lines a) cs

-- `list` of a file: the list of the controller that was held, and nothing is noted
pub record ListsOne {K : Type 0} (a : ListRequest) (is_honest : K → Bool) (file_bytes : K → List ℕ) (keep : K)
    (text : List ℕ) (refused : Bool) (notes : List ℕ) : Type 0 where
  pub controller : AnyController
  pub is_held : IsHeldBy is_honest file_bytes keep controller
  pub listed : text ≡ list_of a (controller ∷ [])
  pub accepted : refused ≡ false
  pub noted : notes ≡ []

-- ---- folders

-- the path of a file
abbrev pub path_of : FolderFile → List ℕ
path_of f = string_bytes f.path

-- the file holds this controller, which is the one that it is for
abbrev pub IsOwn : FolderFile → AnyController → Type 0
IsOwn f c = IsHeldBy is_honest file_bytes (keep_in_file (path_of f)) c × (is_owner f.owner c ≡ true)

-- why a file isn't listed: there is no controller at hand of it, or it holds one of another name
abbrev pub IsNotOwn : FolderFile → Fault → Type 0
IsNotOwn f fault = IsNotOpened (path_of f) fault ⊎ (fault ≡ Device OtherName)

-- what came of a file: its own controller, or why it isn't listed
abbrev pub Came : Type 0
Came = Result AnyController Fault

abbrev pub IsOf : FolderFile → Came → Type 0
IsOf f (Ok c) = IsOwn f c
IsOf f (Err fault) = IsNotOwn f fault

-- what came of each of files, in their order
abbrev pub AreOf : List FolderFile → List Came → Type 0
AreOf [] [] = ⊤
AreOf (f ∷ fs) (o ∷ os) = IsOf f o × AreOf fs os
AreOf [] (o ∷ os) = ⊥
AreOf (f ∷ fs) [] = ⊥

-- the controllers that came of files
abbrev pub controller_in : Came → List AnyController
controller_in (Ok c) = c ∷ []
controller_in (Err fault) = []

abbrev pub controllers_in : List Came → List AnyController
controllers_in os = flat_map controller_in os

-- what is noted of a file that isn't listed: its path, and why
unfoldable pub unlisted_note : FolderFile → Fault → List ℕ
unlisted_note f fault = path_of f ++ codes ": " ++ fault_line fault

abbrev pub note_of : FolderFile → Came → List ℕ
note_of f (Ok c) = []
note_of f (Err fault) = unlisted_note f fault

abbrev pub notes_of : List FolderFile → List Came → List ℕ
notes_of (f ∷ fs) (o ∷ os) = note_of f o ++ notes_of fs os
notes_of [] os = []
notes_of (f ∷ fs) [] = []

-- what came of a file is listed behind others: the lines of what is open and of all other, what is
-- noted, and whether anything was refused
pub record Adds (a : ListRequest) (f : FolderFile) (came : Came) (old new : FileLists) : Type 0 where
  pub first : new.lists.first.items
      ≡ old.lists.first.items ++ flat_map (lines_of true a) (controller_in came)
  pub rest : new.lists.rest.items
      ≡ old.lists.rest.items ++ flat_map (other_lines a) (controller_in came)
  pub notes : new.notes.items ≡ old.notes.items ++ note_of f came
  pub refused : new.refused ≡ (old.refused || is_err came)

-- `list` of files: the list of the controllers that came of them; each other file is noted, and
-- where there is any such, something was refused
pub record ListsFiles (a : ListRequest) (files : List FolderFile) (text : List ℕ) (refused : Bool)
    (notes : List ℕ) : Type 0 where
  pub came : List Came
  pub of_files : AreOf files came
  pub listed : text ≡ list_of a (controllers_in came)
  pub accepted : refused ≡ list_any is_err came
  pub noted : notes ≡ notes_of files came

-- `list` of a path: of the controller in the file, or of those in the files of a folder
abbrev pub ListsAt : ListRequest → List ℕ → List ℕ → Bool → List ℕ → Type 0
ListsAt a path text refused notes =
    ListsOne a is_honest file_bytes (keep_in_file path) text refused notes
    ⊎ ((files : List FolderFile) × All (LiesIn path) files
    × ListsFiles a files text refused notes)
