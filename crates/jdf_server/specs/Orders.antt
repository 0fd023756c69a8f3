-- What becomes of an order that comes over the local socket.
use Rattle.std.specs.Prelude.{◌≡◌, ◌⊎◌, ℕ, List, Vec}
use Rattle.std.specs.declared.alloc.Global.{Global}
use Rattle.mio.specs.declared.net.uds.stream.UnixStream.{UnixStream}
use Rattle.stored_state.specs.declared.coming.Coming.TheVariants.{Order}
use Rattle.rounds.specs.declared.waiting.WaitingClient.{WaitingClient}
use Rattle.server_steps.specs.Routes.{LeadsByName}
use Rattle.server_steps.specs.declared.route.Route.{Route}
use Rattle.jdf_server.specs.Lines.{JoinsOrders}
use Rattle.jdf_server.specs.declared.server.Server.{Server}

-- an order for the controller of a name: it stands in the line of the one to which that leads, with
-- its text; where that leads nowhere no line changes
abbrev pub TakesOrder : {R F : Type 0} → WaitingClient UnixStream → (name body : List ℕ)
    → (old new : Server R F) → Type 0
TakesOrder waiting name body old new =
    ((r : Route) × LeadsByName old.place name r × (text : Vec ℕ Global) × (text.items ≡ body)
    × JoinsOrders r (record { waiting = waiting; coming = Order text }) old.lines new.lines)
    ⊎ (new.lines ≡ old.lines)
