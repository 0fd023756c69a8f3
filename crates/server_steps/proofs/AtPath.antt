-- The steps at a path are those under its key where it is to be a place in etcd, else those in its
-- file.
use Rattle.std.proofs.Common.{◌≡◌, ℕ, Bool, false, List, Option, Result, IfOk, MatchResult, refl, subst, sym}
use Rattle.std.proofs.lemmas.Result.{IfOk-weaker}
use Rattle.journal.specs.Journal.{IsLeft}
use Rattle.mio.specs.declared.net.stream.TcpStream.{TcpStream}
use Rattle.mio.specs.declared.net.uds.stream.UnixStream.{UnixStream}
use Rattle.rounds.specs.declared.errand.Errand.{Errand}
use Rattle.stored_state.specs.declared.addressee.Addressee.{Addressee}
use Rattle.stored_state.specs.declared.any_controller.AnyController.{AnyController}
use Rattle.server_steps.specs.Journaled.{KeepsJournalAt}
use Rattle.server_steps.specs.OrderLines.{OrdersJournalAt}
use Rattle.server_steps.specs.Orders.{AreOrdersStepped, AreOrdersSteppedAt}
use Rattle.server_steps.specs.Steps.{IsStepped, IsSteppedAt}
use Rattle.server_steps.specs.declared.order_steps.OrdersResult.{OrdersResult}
use Rattle.server_steps.specs.declared.order_steps.OrdersResult.TheVariants.{LockedOut, Told}
use Rattle.server_steps.specs.declared.stepping.StepsResult.{StepsResult}
use Rattle.server_steps.specs.declared.stepping.StepsResult.TheVariants.{Answered as answered_so}
use Rattle.server_steps.specs.declared.stepping.StepsResult.TheVariants.{LockedOut as locked_out}

module _ (R : Type 0) (path : List ℕ) (to : Addressee) (now : ℕ) (last : Option AnyController) where
  pub steps_alike : {E : Type 0} (errands : List (Errand TcpStream)) (one other : Bool) (r : Result StepsResult E) → one ≡ other → IfOk r (IsSteppedAt R one path to now errands last) → IfOk r (IsSteppedAt R other path to now errands last)
  steps_alike errands one other r same is = subst (λ b. IfOk r (IsSteppedAt R b path to now errands last)) same is

  pub orders_alike : {E : Type 0} (orders : List (Errand UnixStream)) (one other : Bool) (r : Result OrdersResult E) → one ≡ other → IfOk r (AreOrdersSteppedAt R one path to now orders last) → IfOk r (AreOrdersSteppedAt R other path to now orders last)
  orders_alike orders one other r same is = subst (λ b. IfOk r (AreOrdersSteppedAt R b path to now orders last)) same is

  pub journal_alike : {E J : Type 0} (held : J → List ℕ) (is_missed : J → Bool) (old new : J) (errands : List (Errand TcpStream)) (one other : Bool) (r : Result StepsResult E) → one ≡ other
      → MatchResult r (KeepsJournalAt R one held is_missed path to now errands old new) (λ e. IsLeft held is_missed old new)
      → MatchResult r (KeepsJournalAt R other held is_missed path to now errands old new) (λ e. IsLeft held is_missed old new)
  journal_alike held is_missed old new errands one other r same is =
      subst (λ b. MatchResult r (KeepsJournalAt R b held is_missed path to now errands old new) (λ e. IsLeft held is_missed old new)) same is

  pub orders_journal_alike : {E J : Type 0} (held : J → List ℕ) (is_missed : J → Bool) (old new : J) (orders : List (Errand UnixStream)) (one other : Bool) (r : Result OrdersResult E) → one ≡ other
      → MatchResult r (OrdersJournalAt R one held is_missed path to now orders old new) (λ e. IsLeft held is_missed old new)
      → MatchResult r (OrdersJournalAt R other held is_missed path to now orders old new) (λ e. IsLeft held is_missed old new)
  orders_journal_alike held is_missed old new orders one other r same is =
      subst (λ b. MatchResult r (OrdersJournalAt R b held is_missed path to now orders old new) (λ e. IsLeft held is_missed old new)) same is

  steps_of : (errands : List (Errand TcpStream)) (r : StepsResult) → IsStepped path to now errands last r → IsSteppedAt R false path to now errands last r
  steps_of errands (answered_so answered saved) is = is
  steps_of errands (locked_out left kept) is = (refl, is.0, is.1)

  orders_of : (orders : List (Errand UnixStream)) (r : OrdersResult) → AreOrdersStepped path to now orders last r → AreOrdersSteppedAt R false path to now orders last r
  orders_of orders (Told told saved) is = is
  orders_of orders (LockedOut left kept) is = (refl, is.0, is.1)

  pub steps_in_file : {E : Type 0} (errands : List (Errand TcpStream)) (in_etcd : Bool) (r : Result StepsResult E) → in_etcd ≡ false → IfOk r (IsStepped path to now errands last) → IfOk r (IsSteppedAt R in_etcd path to now errands last)
  steps_in_file errands in_etcd r not is =
      steps_alike errands false in_etcd r (sym not) (IfOk-weaker r _ _ (steps_of errands) is)

  pub orders_in_file : {E : Type 0} (orders : List (Errand UnixStream)) (in_etcd : Bool) (r : Result OrdersResult E) → in_etcd ≡ false → IfOk r (AreOrdersStepped path to now orders last) → IfOk r (AreOrdersSteppedAt R in_etcd path to now orders last)
  orders_in_file orders in_etcd r not is =
      orders_alike orders false in_etcd r (sym not) (IfOk-weaker r _ _ (orders_of orders) is)
