-- A client: its connection beside the stream.
use Rattle.std.specs.Prelude.{◌≡◌, ⊤}
use Rattle.peers.specs.Peer.{PeerView}
use Rattle.peers.specs.declared.event.Event.{Event}
use Rattle.peers.specs.declared.event.Event.TheVariants as events
use Rattle.peers.specs.declared.phase.Phase.TheVariants as phases

-- a connection as it is seen, and its stream
pub record Connection (S : Type 0) : Type 0 where
  pub peer : PeerView
  pub stream : S

-- it waits for a response, if a request came or is refused
abbrev pub IsOwed : PeerView → Event → Type 0
IsOwed s (events.Request r) = s.phase ≡ phases.Waiting
IsOwed s (events.Refused e) = s.phase ≡ phases.Waiting
IsOwed s _ = ⊤
