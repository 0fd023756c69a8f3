-- The controller whose state JSON data is, whichever it is, and the same beside its keeper.
use Rattle.std.specs.Prelude.{Bool, Result, Ok, Err}
use Rattle.std.specs.Result.{result_map_both}
use Rattle.serde_json.specs.Data.{Data}
use Rattle.ticket_items.specs.declared.refusal.Refusal.{Refusal}
use Rattle.controller_form.specs.States.MasterForm.{master_state_read}
use Rattle.controller_form.specs.States.WorkerForm.{worker_state_read}
use Rattle.stored_state.specs.Held.{KeptState}
use Rattle.stored_state.specs.Kind.{kind_in}
pub use Rattle.stored_state.specs.declared.any_controller.AnyController.{AnyController}
pub use Rattle.stored_state.specs.declared.any_controller.AnyController.TheVariants.{Master as of_master, Worker as of_worker}
use Rattle.stored_state.specs.declared.kind.Kind.{Kind}
use Rattle.stored_state.specs.declared.kind.Kind.TheVariants as kinds
use Rattle.stored_state.specs.declared.any_kept.AnyKept.{AnyKept}
use Rattle.stored_state.specs.declared.any_kept.AnyKept.TheVariants as opened

-- what data is read as, where this is its kind or the refusal of that
abbrev pub state_read_as : Result Kind Refusal → Data → Result AnyController Refusal
state_read_as (Ok kinds.Master) d = result_map_both of_master (λ e. e) (master_state_read d)
state_read_as (Ok kinds.Worker) d = result_map_both of_worker (λ e. e) (worker_state_read d)
state_read_as (Err e) d = Err e

-- what data is read as: a controller of the kind that its members tell, or the first refusal
abbrev pub any_state_read : Data → Result AnyController Refusal
any_state_read d = state_read_as (kind_in d) d

-- ---- beside its keeper

abbrev pub controller_in : {K : Type 0} → AnyKept K → AnyController
controller_in (opened.Master kept) = of_master kept.controller
controller_in (opened.Worker kept) = of_worker kept.controller

abbrev pub keep_in : {K : Type 0} → AnyKept K → K
keep_in (opened.Master kept) = kept.keep
keep_in (opened.Worker kept) = kept.keep

abbrev pub is_stale_in : {K : Type 0} → AnyKept K → Bool
is_stale_in (opened.Master kept) = kept.stale
is_stale_in (opened.Worker kept) = kept.stale

abbrev pub kept_of : {K : Type 0} → AnyKept K → KeptState AnyController K
kept_of opened =
    record { controller = controller_in opened; keep = keep_in opened; stale = is_stale_in opened }
