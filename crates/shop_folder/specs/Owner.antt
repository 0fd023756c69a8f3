-- The controller that a file is for.
use Rattle.std.specs.Prelude.{Bool, true, ◌&&◌}
use Rattle.std.specs.Str.{bytes_eq}
use Rattle.stored_state.specs.Addressee.{is_worker, master_of, name_of}
use Rattle.stored_state.specs.declared.addressee.Addressee.{Addressee}
use Rattle.stored_state.specs.declared.addressee.Addressee.TheVariants as addressees
use Rattle.stored_state.specs.declared.any_controller.AnyController.{AnyController}
use Rattle.shop_folder.specs.declared.owner.Owner.{Owner}
use Rattle.shop_folder.specs.declared.owner.Owner.TheVariants.{Any, Named, WorkerOf}

-- the controller that is addressed, as the one that a file is for
abbrev pub addressed_owner : Addressee → Owner
addressed_owner addressees.Any = Any
addressed_owner (addressees.Named name) = Named name.now
addressed_owner (addressees.WorkerOf name master) = WorkerOf name.now master.now

-- whether a controller is the one that a file is for
abbrev pub is_owner : Owner → AnyController → Bool
is_owner Any c = true
is_owner (Named name) c = bytes_eq (name_of c) name
is_owner (WorkerOf name master) c =
    is_worker c && (bytes_eq (name_of c) name && bytes_eq (master_of c) master)
