-- Data that is read as a controller of the kind that its members tell.
use Rattle.std.proofs.Common.{◌≡◌, ◌∙◌, Ok, ap}
use Rattle.std.specs.Result.{result_map_both}
use Rattle.serde_json.specs.Data.{Data}
use Rattle.master_core.specs.Master as master
use Rattle.worker_core.specs.Worker as worker
use Rattle.controller_form.specs.States.MasterForm.{master_state_read}
use Rattle.controller_form.specs.States.WorkerForm.{worker_state_read}
use Rattle.stored_state.specs.Kind.{kind_in}
use Rattle.stored_state.specs.Opened.{any_state_read, of_master, of_worker, state_read_as}
use Rattle.stored_state.specs.declared.kind.Kind.TheVariants as kinds

pub read_as_master : (d : Data) (m : master.State) → kind_in d ≡ Ok kinds.Master → master_state_read d ≡ Ok m → any_state_read d ≡ Ok (of_master m)
read_as_master d m kind form = ap (λ k. state_read_as k d) kind ∙ ap (result_map_both of_master (λ e. e)) form

pub read_as_worker : (d : Data) (w : worker.State) → kind_in d ≡ Ok kinds.Worker → worker_state_read d ≡ Ok w → any_state_read d ≡ Ok (of_worker w)
read_as_worker d w kind form = ap (λ k. state_read_as k d) kind ∙ ap (result_map_both of_worker (λ e. e)) form
