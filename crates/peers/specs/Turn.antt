-- What comes of a client's turn.
use Rattle.std.specs.Prelude.{ℕ, List, Option}
use Rattle.peers.specs.Calls.{HasMore, Turns}
use Rattle.peers.specs.Client.{Connection}
use Rattle.peers.specs.declared.event.Event.{Event}
use Rattle.peers.specs.declared.event.Event.TheVariants as events
use Rattle.peers.specs.declared.turn.Turn.{Turn}
use Rattle.peers.specs.declared.turn.Turn.TheVariants as turns

-- the turn of which this came last: the connection beside its stream, unless that is closed
abbrev pub turn_of : {S : Type 0} → Connection S → Event → Turn S
turn_of c events.Wait = turns.Wait c
turn_of c events.Again = turns.Again c
turn_of c (events.Request r) = turns.Request c r
turn_of c (events.Refused e) = turns.Refused c e
turn_of c events.Written = turns.Written c
turn_of c events.Closed = turns.Closed

-- what a client's turn comes to, by what its reads and its writes come to. A stream that was closed
-- is gone: nothing is said of it
abbrev pub TurnsTo : {S : Type 0} → (S → Option (List ℕ)) → (S → Option (List ℕ)) → ℕ
    → Connection S → Turn S → Type 0
TurnsTo reads held now old (turns.Wait new) =
    Turns reads held now old.stream new.stream old.peer new.peer events.Wait
TurnsTo reads held now old (turns.Again new) =
    Turns reads held now old.stream new.stream old.peer new.peer events.Again
TurnsTo reads held now old (turns.Request new r) =
    Turns reads held now old.stream new.stream old.peer new.peer (events.Request r)
TurnsTo reads held now old (turns.Refused new e) =
    Turns reads held now old.stream new.stream old.peer new.peer (events.Refused e)
TurnsTo reads held now old (turns.Written new) =
    Turns reads held now old.stream new.stream old.peer new.peer events.Written
TurnsTo reads held now old turns.Closed = HasMore old.peer
