-- What a keeper held at a moment.
use Rattle.std.specs.Prelude.{ℕ, List}
use Rattle.stored_state.specs.Opened.{AnyController}

-- the text of a state, and the controller whose state it is
pub record HeldText : Type 0 where
  pub text : List ℕ
  pub controller : AnyController
