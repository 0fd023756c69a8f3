-- What comes of a line by its turn.
use Rattle.std.specs.Prelude.{◌≡◌, ◌⊎◌, ◌&&◌, ℕ, Bool, true, false, not, List, [], Option, Some, is_some}
use Rattle.std.specs.List.{list_any}
use Rattle.mio.specs.declared.net.stream.TcpStream.{TcpStream}
use Rattle.mio.specs.declared.net.uds.stream.UnixStream.{UnixStream}
use Rattle.slab.specs.Slab.{Slab}
use Rattle.controller.specs.Words.{is_answer, is_for_worker}
use Rattle.stored_state.specs.declared.addressee.Addressee.{Addressee}
use Rattle.stored_state.specs.declared.any_controller.AnyController.{AnyController}
use Rattle.stored_state.specs.declared.coming.Coming.{Coming}
use Rattle.stored_state.specs.declared.coming.Coming.TheVariants as comings
use Rattle.shop_folder.specs.Owner.{addressed_owner}
use Rattle.shop_folder.specs.declared.owner.Owner.{Owner}
use Rattle.shop_folder.specs.declared.owner.Owner.TheVariants.{WorkerOf}
use Rattle.etcd_place.specs.Place.{is_etcd}
use Rattle.rounds.specs.Line.{HasAnswer}
use Rattle.rounds.specs.Parted.{IsParted}
use Rattle.rounds.specs.declared.answered.AnsweredClient.{AnsweredClient}
use Rattle.rounds.specs.declared.errand.Errand.{Errand}
use Rattle.server_clients.specs.Clients.{AreGivenBack, AreLetGo, AreMissed}
use Rattle.server_clients.specs.Waiting.{RefusesLate, is_gone}
use Rattle.server_clients.specs.declared.entry.Entry.{Entry}
use Rattle.server_steps.specs.Steps.{TellsAt}
use Rattle.jdf_server.specs.Lines.{Queue, Stays}
use Rattle.jdf_server.specs.declared.server.Server.{Server}

-- those who wait for the controller at this path have its responses, each under its own number
pub record StepsClients (R : Type 0) (path : List ℕ) (to : Owner) (now : ℕ)
    (errands : List (Errand TcpStream)) (old new : Slab Entry) : Type 0 where
  pub addressee : Addressee
  pub addressed : addressed_owner addressee ≡ to
  pub answered : List (AnsweredClient TcpStream)
  pub saved : Option AnyController
  pub steps : TellsAt R (HasAnswer now) (is_etcd path) path addressee errands answered saved
  pub back : AreGivenBack (Some path) answered old new

-- somebody else has the file locked: the late ones are refused, and all else in the line waits on
abbrev pub WaitsOn : {R F : Type 0} → List ℕ → Queue → (old new : Server R F) → Type 0
WaitsOn path line old new =
    (errands : List (Errand TcpStream)) × (orders : List (Errand UnixStream))
    × RefusesLate path old.clients.now line.errands errands old.clients.all new.clients.all
    × Stays path (record line { errands = errands; orders = orders }) old.lines new.lines

-- those of a line have the responses of its controller, or wait on
abbrev pub StepsThere : {R F : Type 0} → List ℕ → Queue → (old new : Server R F) → Type 0
StepsThere {R = R} path line old new =
    StepsClients R path line.to old.clients.now line.errands old.clients.all new.clients.all
    ⊎ WaitsOn path line old new

-- those of a line whose connections are broken are let go; and of the others, if there are any, each
-- has a response or waits on, or is told that there is no such controller
pub record StepsLineTo {R F : Type 0} (path : List ℕ) (line : Queue) (old new : Server R F)
    : Type 0 where
  pub there : List (Errand TcpStream)
  pub gone : List (Errand TcpStream)
  pub parted : IsParted (is_gone old.clients.all) line.errands there gone
  pub mid : Server R F
  pub moment : mid.clients.now ≡ old.clients.now
  pub let_go : AreLetGo gone old.clients.all mid.clients.all
  pub steps :
      ((there ≡ []) × (new.clients.all ≡ mid.clients.all))
      ⊎ (StepsThere path (record line { errands = there }) mid new
      ⊎ AreMissed mid.clients.now there mid.clients.all new.clients.all)

-- ---- a worker that a line begins

-- whether a worker is begun by what comes: by a command for one
abbrev pub is_begun_by : Coming → Bool
is_begun_by (comings.Message m) = not (is_answer m.body) && is_for_worker m.body
is_begun_by (comings.Order text) = false
is_begun_by (comings.Neither e) = false

-- whether a file is for a worker of one master
abbrev pub is_for_one_master : Owner → Bool
is_for_one_master (WorkerOf name master) = true
is_for_one_master _ = false

-- a worker may be begun for a line: other controllers are known, one of the errands begins one, and
-- the line is for one
pub record MayBegin {R F : Type 0} (s : Server R F) (to : Owner) (errands : List (Errand TcpStream))
    : Type 0 where
  pub known : is_some s.post ≡ true
  pub begun : list_any (λ e. is_begun_by e.coming) errands ≡ true
  pub worker : is_for_one_master to ≡ true
