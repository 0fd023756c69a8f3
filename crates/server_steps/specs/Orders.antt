-- What `serve` makes of orders that come over its local socket.
use Rattle.std.specs.Prelude.{◌≡◌, ℕ, Bool, false, List, Option}
use Rattle.mio.specs.declared.net.uds.stream.UnixStream.{UnixStream}
use Rattle.stored_state.specs.declared.addressee.Addressee.{Addressee}
use Rattle.stored_state.specs.declared.any_controller.AnyController.{AnyController}
use Rattle.keepers.specs.SystemFile.{count, file_bytes, is_honest, keep_in_file, load_fails, place}
use Rattle.keepers.specs.SystemFile.{save_fails}
use Rattle.rounds.specs.Orders.{HasReply}
use Rattle.rounds.specs.declared.errand.Errand.{Errand}
use Rattle.rounds.specs.declared.orders.AnsweredOperator.{AnsweredOperator}
use Rattle.server_steps.specs.Steps.{TellsAt, TellsKept}
use Rattle.server_steps.specs.declared.order_steps.OrdersResult.{OrdersResult}
use Rattle.server_steps.specs.declared.order_steps.OrdersResult.TheVariants.{LockedOut, Told}

-- those who gave these orders have the responses to what comes of the steps by them of the
-- controller that a keeper holds, which are saved; or each order is refused, with a status of 503
abbrev pub OrdersKept : {S K : Type 0} → (K → Bool) → (file_bytes place : K → List ℕ) → (K → ℕ)
    → (K → K → Type 0) → (K → List ℕ → K → Type 0) → K → Addressee → ℕ → List (Errand S)
    → List (AnsweredOperator S) → Option AnyController → Type 0
OrdersKept is_honest file_bytes place count load_fails save_fails keep to now orders told saved =
    TellsKept (HasReply now) is_honest file_bytes place count load_fails save_fails keep to orders told
    saved

-- the same of those who gave orders for the controller in the file of this path; or somebody else
-- has that locked, and they wait on
abbrev pub AreOrdersStepped : List ℕ → Addressee → ℕ → List (Errand UnixStream)
    → Option AnyController → OrdersResult → Type 0
AreOrdersStepped path to now orders last (Told told saved) =
    OrdersKept is_honest file_bytes place count load_fails save_fails (keep_in_file path) to now orders
    told.items saved
AreOrdersStepped path to now orders last (LockedOut left kept) =
    (left.items ≡ orders) × (kept ≡ last)

-- the same of those who gave orders for the controller at a path, in its file or under its key
abbrev pub AreOrdersSteppedAt : (R : Type 0) → Bool → List ℕ → Addressee → ℕ
    → List (Errand UnixStream) → Option AnyController → OrdersResult → Type 0
AreOrdersSteppedAt R in_etcd path to now orders last (Told told saved) =
    TellsAt R (HasReply now) in_etcd path to orders told.items saved
AreOrdersSteppedAt R in_etcd path to now orders last (LockedOut left kept) =
    (in_etcd ≡ false) × (left.items ≡ orders) × (kept ≡ last)
