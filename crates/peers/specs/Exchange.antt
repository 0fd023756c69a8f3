-- A request that is written to a stream, and the response that is read of it.
use Rattle.std.specs.Prelude.{◌≡◌, ◌⊎◌, ℕ, ◌+◌, ◌-◌, ◌^◌, Bool, true, ◌&&◌, List, [], ◌++◌, length}
use Rattle.std.specs.Prelude.{min, nat_lt, take, drop, Option}
use Rattle.std.specs.Io.KnownBytes.{Appends, Consumes}
use Rattle.ticket_items.specs.declared.refusal.Refusal.TheVariants.{Memory}
use Rattle.streams.specs.declared.refused.Refused.{Refused}
use Rattle.streams.specs.declared.refused.Refused.TheVariants.{Core, ReadFailed}
use Rattle.http_message.specs.Incoming.{IncomingView, IsWanted, IsWhole}
use Rattle.http_message.specs.declared.kind.Kind.TheVariants as kinds
use Rattle.http_message.specs.declared.wanted.Need.{Need}
use Rattle.peers.specs.Calls.{IsRefusedAt}
use Rattle.peers.specs.Peer.{moment_after}
use Rattle.peers.specs.declared.call_limits.CallLimits.{CallLimits}
use Rattle.peers.specs.declared.progress.Progress.{Progress}
use Rattle.peers.specs.declared.progress.Progress.TheVariants as progresses

-- a request, and how many bytes of it were written; whether the next turn writes, if something is
-- to be written; what came of the response; and the moment at which it is given up
pub record Exchange : Type 0 where
  pub request : List ℕ
  pub done : ℕ
  pub writes : Bool
  pub came : IncomingView
  pub deadline : ℕ

-- what was written of the request, and what wasn't yet
abbrev pub sent_bytes : Exchange → List ℕ
sent_bytes x = take x.done x.request

abbrev pub unsent_bytes : Exchange → List ℕ
unsent_bytes x = drop x.done x.request

-- the next turn writes
abbrev pub is_writing : Exchange → Bool
is_writing x = x.writes && nat_lt x.done (length x.request)

-- how many bytes are kept: the request, and those that came of the response
abbrev pub kept_bytes : Exchange → ℕ
kept_bytes x = min (length x.came.bytes + length x.request) (2 ^ 64 - 1)

-- a request of which nothing was written, and no response came
abbrev pub new_exchange : List ℕ → CallLimits → ℕ → Exchange
new_exchange request limits now =
    record {
      request = request;
      done = 0;
      writes = true;
      came = record { kind = kinds.Response; most = limits.body; bytes = []; looks = 0 };
      deadline = moment_after now limits.time;
    }

-- of the request what comes next was written, and nothing else
pub record Sends (before after : Option (List ℕ)) (old new : Exchange) : Type 0 where
  pub piece : List ℕ
  pub given : Appends before after piece
  pub front : unsent_bytes old ≡ piece ++ unsent_bytes new
  pub behind : sent_bytes new ≡ sent_bytes old ++ piece
  pub left : new ≡ record old { done = old.done + length piece; writes = new.writes }

-- so much more came of the response
pub record Receives (before after : Option (List ℕ)) (old new : Exchange) : Type 0 where
  pub gained : List ℕ
  pub taken : Consumes before after gained
  pub kind : new.came.kind ≡ old.came.kind
  pub most : new.came.most ≡ old.came.most
  pub bytes : new.came.bytes ≡ old.came.bytes ++ gained
  pub left : new ≡ record old { came = new.came; writes = new.writes }

-- more is wanted of the response
abbrev pub Wants : Exchange → Type 0
Wants x = (w : Need) × IsWanted x.came.most x.came.kind x.came.bytes w

-- why there is no response: what came is refused, or a read failed; or memory ran out, and what was
-- read then is lost
abbrev pub Fails : Option (List ℕ) → Option (List ℕ) → Exchange → Exchange → Refused → Type 0
Fails before after old new e =
    (Receives before after old new
    × (IsRefusedAt new.came.most new.came.kind new.came.bytes after e ⊎ (e ≡ ReadFailed)))
    ⊎ (e ≡ Core Memory)

-- what the reads of a response come to
abbrev pub ReadsTo : Option (List ℕ) → Option (List ℕ) → Exchange → Exchange → Progress → Type 0
ReadsTo before after old new progresses.Wait = Receives before after old new × Wants new
ReadsTo before after old new progresses.Again = Receives before after old new
ReadsTo before after old new (progresses.Whole w) =
    Receives before after old new × IsWhole new.came.most new.came.kind new.came.bytes w
ReadsTo before after old new (progresses.Failed e) = Fails before after old new e
