-- To which controller a message leads, or a name.
use Rattle.std.specs.Prelude.{◌≡◌, ◌⊎◌, ◌++◌, ℕ, List, Some, None, codes, string_bytes}
use Rattle.controller.specs.declared.message.Message.{Message}
use Rattle.shop_folder.specs.Routes.{file_for}
use Rattle.shop_folder.specs.declared.lies.Lies.{Lies}
use Rattle.shop_folder.specs.declared.lies.Lies.TheVariants as lying
use Rattle.shop_folder.specs.declared.owner.Owner.{Owner}
use Rattle.shop_folder.specs.declared.owner.Owner.TheVariants as owners
use Rattle.shop_folder.specs.declared.place.Place.{Place}
use Rattle.shop_folder.specs.declared.place.Place.TheVariants as places
use Rattle.server_steps.specs.declared.route.Route.{Route}

-- ---- the controller of a message

-- the controller that a message to a folder is for, by what lies there under its receiver's name
abbrev pub owner_for : Lies → Message → Owner
owner_for lying.Folder m = owners.WorkerOf m.receiver m.sender
owner_for _ m = owners.Named m.receiver

-- a route leads to the controller in the file of this path, whichever it is
pub record LeadsToFile (path : List ℕ) (r : Route) : Type 0 where
  pub file : string_bytes r.path ≡ path
  pub any : r.to ≡ owners.Any

-- a message leads to a controller: to the one that is served; or to the one of the folder to whose
-- file its receiver and its sender lead, by what lies there
abbrev pub LeadsTo : Place → Message → Route → Type 0
LeadsTo (places.File path) m r = LeadsToFile path.now r
LeadsTo (places.Folder path) m r =
    (lies : Lies) × (file_for path.now lies m.receiver m.sender ≡ Some (string_bytes r.path))
    × (r.to ≡ owner_for lies m)

-- a message leads to no controller
abbrev pub LeadsNowhere : Place → Message → Type 0
LeadsNowhere (places.File path) m = ⊥
LeadsNowhere (places.Folder path) m =
    (lies : Lies) × (file_for path.now lies m.receiver m.sender ≡ None)

-- ---- the controller of a name

-- a name leads to the file of that name in a folder
pub record LeadsToNamed (folder name : List ℕ) (r : Route) : Type 0 where
  pub file : file_for folder lying.File name name ≡ Some (string_bytes r.path)
  pub named : r.to ≡ owners.Named name

-- this is the file of a master's name in the folder of a worker's, and for that worker of the master
pub record IsWorkerFile (folder worker master : List ℕ) (r : Route) : Type 0 where
  pub file : file_for folder lying.Folder worker master ≡ Some (string_bytes r.path)
  pub named : r.to ≡ owners.WorkerOf worker master

-- a name that is a worker's and its master's, with a slash between them, leads to their file
abbrev pub LeadsToWorker : (folder name : List ℕ) → Route → Type 0
LeadsToWorker folder name r =
    (worker : List ℕ) × (master : List ℕ) × (name ≡ worker ++ codes "/" ++ master)
    × IsWorkerFile folder worker master r

-- a name leads to one of these files in a folder
abbrev pub LeadsInFolder : (folder name : List ℕ) → Route → Type 0
LeadsInFolder folder name r = LeadsToNamed folder name r ⊎ LeadsToWorker folder name r

-- a name leads to none of a folder
abbrev pub LeadsNowhereIn : (folder name : List ℕ) → Type 0
LeadsNowhereIn folder name = (r : Route) → LeadsInFolder folder name r → ⊥

-- a name leads to the controller that is served, or to one in the folder that is
abbrev pub LeadsByName : Place → List ℕ → Route → Type 0
LeadsByName (places.File path) name r = LeadsToFile path.now r
LeadsByName (places.Folder folder) name r = LeadsInFolder folder.now name r
