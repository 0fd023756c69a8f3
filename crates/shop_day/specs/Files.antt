-- The controllers of a shop, as they are kept and shown.
use Rattle.std.specs.Prelude.{◌≡◌, ℕ, Bool, true, List, if◌then◌else◌, Option, Some, Ok}
use Rattle.std.specs.Option.{option_map}
use Rattle.std.specs.Str.{bytes_eq}
use Rattle.json_profile.specs.ReadAs.{IsReadAs}
use Rattle.stored_state.specs.Opened.{any_state_read}
use Rattle.stored_state.specs.declared.any_controller.AnyController.{AnyController}
use Rattle.stored_state.specs.declared.any_controller.AnyController.TheVariants.{Master as of_master}
use Rattle.stored_state.specs.declared.any_controller.AnyController.TheVariants.{Worker as of_worker}
use Rattle.world.specs.Controllers.{Controllers, worker_of}
use Rattle.world.specs.State.{State}
use Rattle.file_commands.specs.Commands.{shown_text}

-- the controller of a name, if there is one
abbrev pub controller_of : Controllers → List ℕ → Option AnyController
controller_of c name =
    if bytes_eq name c.master.name then Some (of_master c.master)
    else option_map of_worker (worker_of c.workers name)

-- what it shows
abbrev pub shown_of : Controllers → List ℕ → Option (List ℕ)
shown_of c name = option_map shown_text (controller_of c name)

-- a keeper is honest, and what it holds is read as the controller of a name
pub record IsFileOf {K : Type 0} (is_honest : K → Bool) (held : K → List ℕ) (w : State)
    (name : List ℕ) (keep : K) : Type 0 where
  pub controller : AnyController
  pub there : controller_of w.controllers name ≡ Some controller
  pub honest : is_honest keep ≡ true
  pub read : IsReadAs any_state_read (held keep) (Ok controller)
