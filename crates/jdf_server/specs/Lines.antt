-- The lines of those who wait, by the paths of the files of their controllers.
use Rattle.std.specs.Prelude.{◌≡◌, ◌⊎◌, ◌++◌, ℕ, false, List, [], ◌∷◌, Option, Some, None, String, string_bytes}
use Rattle.std.specs.Option.{option_map}
use Rattle.std.specs.declared.alloc.Global.{Global}
use Rattle.std.specs.HashMap.{HashMap, get_by_text}
use Rattle.std.specs.Str.{bytes_eq}
use Rattle.mio.specs.declared.net.stream.TcpStream.{TcpStream}
use Rattle.mio.specs.declared.net.uds.stream.UnixStream.{UnixStream}
use Rattle.rounds.specs.declared.errand.Errand.{Errand}
use Rattle.server_post.specs.declared.line.Line.{Line}
use Rattle.server_post.specs.declared.own.Own.{Own}
use Rattle.shop_folder.specs.declared.owner.Owner.{Owner}
use Rattle.server_steps.specs.declared.route.Route.{Route}

-- ---- who stands where

-- the lines
abbrev pub Lines : Type 0 → Type 0
Lines S = HashMap (String Global) Line S

-- what is in a line: the controller that it is for, the errands, the orders that came over the local
-- socket, and what it is to do by itself
pub record Queue : Type 0 where
  pub to : Owner
  pub errands : List (Errand TcpStream)
  pub orders : List (Errand UnixStream)
  pub own : List Own

abbrev pub queue_of : Line → Queue
queue_of line =
    record {
      to = line.to;
      errands = line.errands.items;
      orders = line.orders.items;
      own = line.own.items;
    }

-- nobody is in it, and nothing
abbrev pub empty_queue : Owner → Queue
empty_queue to = record { to = to; errands = []; orders = []; own = [] }

abbrev pub IsEmpty : Queue → Type 0
IsEmpty q = (q.errands ≡ []) × (q.orders ≡ []) × (q.own ≡ [])

-- what is in the line of this path; where there is none yet that for this controller is empty
abbrev pub queue_in : Owner → Option Line → Queue
queue_in to (Some line) = queue_of line
queue_in to None = empty_queue to

abbrev pub queue_at : {S : Type 0} → Owner → List ℕ → Lines S → Queue
queue_at to path lines = queue_in to (get_by_text lines path)

-- the lines of other paths are as they were
abbrev pub OthersStay : {S : Type 0} → List ℕ → (old new : Lines S) → Type 0
OthersStay path old new =
    (other : List ℕ) → bytes_eq path other ≡ false → get_by_text new other ≡ get_by_text old other

-- ---- who joins

-- only the line of this path changes, and it does so
pub record ChangesLine {S : Type 0} (path : List ℕ) (to : Owner) (change : Queue → Queue)
    (old new : Lines S) : Type 0 where
  pub there : queue_at to path new ≡ change (queue_at to path old)
  pub others : OthersStay path old new

-- with one more behind the others
abbrev pub with_errand : Errand TcpStream → Queue → Queue
with_errand e q = record q { errands = q.errands ++ e ∷ [] }

abbrev pub with_order : Errand UnixStream → Queue → Queue
with_order o q = record q { orders = q.orders ++ o ∷ [] }

abbrev pub with_own : Own → Queue → Queue
with_own own q = record q { own = q.own ++ own ∷ [] }

-- an errand stands last in the line of the controller to which this route leads, and all else in the
-- lines is as it was
abbrev pub Joins : {S : Type 0} → Route → Errand TcpStream → (old new : Lines S) → Type 0
Joins r e old new = ChangesLine (string_bytes r.path) r.to (with_errand e) old new

-- an order does
abbrev pub JoinsOrders : {S : Type 0} → Route → Errand UnixStream → (old new : Lines S) → Type 0
JoinsOrders r o old new = ChangesLine (string_bytes r.path) r.to (with_order o) old new

-- ---- who waits on

-- what is left of a line is in that of this path; where nothing is left the lines are as they were
pub record Stays {S : Type 0} (path : List ℕ) (left : Queue) (old new : Lines S) : Type 0 where
  pub there :
      (option_map queue_of (get_by_text new path) ≡ Some left) ⊎ (IsEmpty left × (new ≡ old))
  pub others : OthersStay path old new
