-- The controller that is addressed.
use Rattle.std.specs.Prelude.{ℕ, Bool, true, false, ◌&&◌, List}
use Rattle.std.specs.Str.{bytes_eq}
use Rattle.stored_state.specs.Opened.{AnyController, of_master, of_worker}
use Rattle.stored_state.specs.declared.addressee.Addressee.{Addressee}
use Rattle.stored_state.specs.declared.addressee.Addressee.TheVariants as addressees

-- the name of a controller
abbrev pub name_of : AnyController → List ℕ
name_of (of_master m) = m.name
name_of (of_worker w) = w.name

-- the name of the master whose job it is
abbrev pub master_of : AnyController → List ℕ
master_of (of_master m) = m.name
master_of (of_worker w) = w.master

-- whether it is a worker
abbrev pub is_worker : AnyController → Bool
is_worker (of_master m) = false
is_worker (of_worker w) = true

-- whether a controller is one that is addressed
abbrev pub is_addressed : Addressee → AnyController → Bool
is_addressed addressees.Any c = true
is_addressed (addressees.Named name) c = bytes_eq (name_of c) name.now
is_addressed (addressees.WorkerOf name master) c =
    is_worker c && (bytes_eq (name_of c) name.now && bytes_eq (master_of c) master.now)
