-- A call of another server.
use Rattle.peers.specs.Exchange.{Exchange}

-- a request and its response, and their stream
pub record Outgoing (S : Type 0) : Type 0 where
  pub exchange : Exchange
  pub stream : S
