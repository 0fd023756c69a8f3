-- What comes of the turns of a call: of a request and its response beside their stream.
use Rattle.std.specs.Prelude.{◌≡◌, ◌⊎◌, ℕ, ◌<◌, ◌≤◌, Bool, true, false, List, ◌++◌, Option}
use Rattle.std.specs.Io.KnownBytes.{Consumes}
use Rattle.ticket_items.specs.declared.refusal.Refusal.TheVariants.{Memory}
use Rattle.streams.specs.declared.refused.Refused.{Refused}
use Rattle.streams.specs.declared.refused.Refused.TheVariants.{Core, ReadFailed}
use Rattle.http_message.specs.Incoming.{Says}
use Rattle.http_message.specs.Incoming as making
use Rattle.http_message.specs.declared.received.Received.{Received}
use Rattle.http_message.specs.declared.whole.WholeMessage.{WholeMessage}
use Rattle.peers.specs.Calls.{IsRefusedAt}
use Rattle.peers.specs.Exchange.{Exchange, Receives, Sends, Wants, is_writing}
use Rattle.peers.specs.Outgoing.{Outgoing}
use Rattle.peers.specs.declared.call_turn.CallTurn.{CallTurn}
use Rattle.peers.specs.declared.call_turn.CallTurn.TheVariants as turns

-- ---- a turn's end

-- the response that came is whole
abbrev pub IsWhole : {S : Type 0} → Outgoing S → WholeMessage → Type 0
IsWhole c w = making.IsWhole c.exchange.came.most c.exchange.came.kind c.exchange.came.bytes w

-- a response that is whole is given, unless memory runs out
abbrev pub Ends : {S : Type 0} → Outgoing S → CallTurn S → Type 0
Ends c (turns.Came r) =
    Says c.exchange.came.most c.exchange.came.kind c.exchange.came.bytes r.status r.method
    r.head.items r.target.items r.body
Ends c (turns.Failed e) = e ≡ Core Memory
Ends c _ = ⊥

-- it goes on before its deadline alone
abbrev pub GoesOn : {S : Type 0} → ℕ → Outgoing S → Bool → CallTurn S → Type 0
GoesOn now c waits (turns.Wait new) =
    (new ≡ c) × (waits ≡ true) × (now < c.exchange.deadline)
GoesOn now c waits (turns.Again new) =
    (new ≡ c) × (waits ≡ false) × (now < c.exchange.deadline)
GoesOn now c waits (turns.Came r) = ⊥
GoesOn now c waits (turns.Failed e) = (e ≡ ReadFailed) × (c.exchange.deadline ≤ now)

-- ---- a turn

-- it wrote what comes next of the request, or it read, and not both
abbrev pub Goes : {S : Type 0} → (S → Option (List ℕ)) → (S → Option (List ℕ)) → Outgoing S
    → Outgoing S → Type 0
Goes reads held old new =
    ((is_writing old.exchange ≡ true)
    × Sends (held old.stream) (held new.stream) old.exchange new.exchange)
    ⊎ ((is_writing old.exchange ≡ false)
    × Receives (reads old.stream) (reads new.stream) old.exchange new.exchange)

-- it read, and more is wanted
pub record Waits {S : Type 0} (reads : S → Option (List ℕ)) (old new : Outgoing S)
    : Type 0 where
  pub reading : is_writing old.exchange ≡ false
  pub receives : Receives (reads old.stream) (reads new.stream) old.exchange new.exchange
  pub wants : Wants new.exchange

-- what came before and these bytes carry this
abbrev pub SaysOf : Exchange → List ℕ → Received → Type 0
SaysOf x gained r =
    Says x.came.most x.came.kind (x.came.bytes ++ gained) r.status r.method r.head.items
    r.target.items r.body

-- it read the last bytes of its response, which are of this message: what came before and now
-- carries it. Nothing is said of the request: its response may come before all of it was written
pub record HasCome (before : Option (List ℕ)) (old : Exchange) (r : Received) : Type 0 where
  pub reading : is_writing old ≡ false
  pub gained : List ℕ
  pub after : Option (List ℕ)
  pub taken : Consumes before after gained
  pub says : SaysOf old gained r

-- what came before and now is refused as this
pub record IsRefused (before : Option (List ℕ)) (old : Exchange) (e : Refused) : Type 0 where
  pub gained : List ℕ
  pub after : Option (List ℕ)
  pub taken : Consumes before after gained
  pub refused : IsRefusedAt old.came.most old.came.kind (old.came.bytes ++ gained) after e

-- it read, and what came is refused, or a read failed, or memory ran out; or there is no response
-- by its deadline
abbrev pub HasFailed : Option (List ℕ) → ℕ → Exchange → Refused → Type 0
HasFailed before now old e =
    ((is_writing old ≡ false)
    × (IsRefused before old e ⊎ ((e ≡ ReadFailed) ⊎ (e ≡ Core Memory))))
    ⊎ ((e ≡ ReadFailed) × (old.deadline ≤ now))

-- what a turn comes to. `reads` is what a stream has left, and `held` what was written to it
abbrev pub TurnsTo : {S : Type 0} → (S → Option (List ℕ)) → (S → Option (List ℕ)) → ℕ
    → Outgoing S → CallTurn S → Type 0
TurnsTo reads held now old (turns.Wait new) =
    Waits reads old new × (now < new.exchange.deadline)
TurnsTo reads held now old (turns.Again new) =
    Goes reads held old new × (now < new.exchange.deadline)
TurnsTo reads held now old (turns.Came r) = HasCome (reads old.stream) old.exchange r
TurnsTo reads held now old (turns.Failed e) = HasFailed (reads old.stream) now old.exchange e
