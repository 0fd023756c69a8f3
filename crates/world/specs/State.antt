-- The controllers of a shop, each as its state is stored, and the messages that they sent.
use Rattle.std.specs.Prelude.{◌≡◌, ℕ, List, [], map, Option, None}
use Rattle.std.specs.List.{All}
use Rattle.ticket_rows.specs.Ticket.{Job}
use Rattle.controller.specs.declared.message.Message.{Message}
use Rattle.master_core.specs.Master as master
use Rattle.worker_core.specs.Worker as worker
pub use Rattle.plain_shop.specs.Settling.{message_at}
pub use Rattle.world.specs.Controllers.{Controllers, is_controller, is_named, with_worker}
pub use Rattle.world.specs.Controllers.{worker_of}
use Rattle.world.specs.Messages.{AreInOrder, AreRecorded, HasComeBack}

-- the controllers, and the messages that were sent, in the order in which they went out
pub record State : Type 0 where
  pub controllers : Controllers
  pub messages : List Message

abbrev pub state : master.State → List worker.State → List Message → State
state m workers messages =
    record {
      controllers = record { master = m; workers = workers };
      messages = messages;
    }

-- ---- in the beginning

-- the worker of a name as it is in the beginning
abbrev pub new_worker : List ℕ → List ℕ → worker.State
new_worker master_name name = worker.state name master_name []

-- nothing is out, and nothing was sent
abbrev pub opening : List ℕ → List (List ℕ) → Job → State
opening name workers ticket =
    state (master.state name workers ticket []) (map (new_worker name) workers) []

-- ---- what always holds

-- the master's ticket and records are in order, its workers are those that it names, each knows it
-- as its master, and each one's entries are in order and are of spawns that have records; the
-- messages are in order; and what was put in the master's ticket is finished at its worker, and
-- what was withdrawn is declined there
pub record IsConsistent (w : State) : Type 0 where
  pub master : master.IsConsistent w.controllers.master
  pub named : map (λ v. v.name) w.controllers.workers ≡ w.controllers.master.workers
  pub known : All (λ v. v.master ≡ w.controllers.master.name) w.controllers.workers
  pub workers : All worker.IsConsistent w.controllers.workers
  pub recorded : All (AreRecorded w.controllers) w.controllers.workers
  pub messages : AreInOrder w.controllers w.messages
  pub back : All (HasComeBack w.controllers) w.controllers.master.records
