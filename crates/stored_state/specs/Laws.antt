-- Laws of the steps of controllers.
use Rattle.std.specs.Prelude.{◌≡◌, ◌≢◌, ℕ}
use Rattle.controller.specs.declared.message.Message.{Message}
use Rattle.stored_state.specs.Addressee.{master_of}
use Rattle.stored_state.specs.AnyStep.{take_step_of}
use Rattle.stored_state.specs.Opened.{AnyController}

-- a message leaves each controller as it is whose job's master neither sent it nor is to take it: so
-- jobs whose masters have different names go on side by side, whatever is sent to whom
abbrev pub JobsStayApart : Type 0
JobsStayApart =
    (at : ℕ) (m : Message) (c : AnyController) → master_of c ≢ m.sender → master_of c ≢ m.receiver
    → (take_step_of at m c).next ≡ c
