-- A connection to a client, and what is written to it.
use Rattle.std.specs.Prelude.{◌≡◌, ◌⊎◌, ℕ, ◌<◌, ◌+◌, ◌-◌, ◌^◌, ◌≤◌, Bool, true, false, ◌&&◌, not}
use Rattle.std.specs.Prelude.{List, [], ◌++◌, length, min, nat_le, nat_lt, take, drop, codes}
use Rattle.std.specs.Prelude.{if◌then◌else◌, Option, Err}
use Rattle.std.specs.Io.KnownBytes.{Appends, Consumes, IsAtEnd, Keeps}
use Rattle.std.specs.IoError.{error_kind}
use Rattle.std.specs.declared.io.Error.{Error}
use Rattle.std.specs.declared.io.ErrorKind.{ErrorKind}
use Rattle.std.specs.declared.io.ErrorKind.TheVariants as errors
use Rattle.ticket_items.specs.declared.refusal.Refusal.TheVariants.{Memory}
use Rattle.streams.specs.declared.refused.Refused.TheVariants.{Core}
use Rattle.streams.specs.Counts.{Counts, CountsWrite, IsFull}
use Rattle.http_message.specs.Incoming.{Gained, IncomingView, IsLost, IsRead, IsWanted, Says}
use Rattle.http_message.specs.declared.arrival.Arrival.TheVariants as arrivals
use Rattle.http_message.specs.declared.wanted.Need.{Need}
use Rattle.http_message.specs.Texts.{head_line}
use Rattle.http_message.specs.declared.kind.Kind.TheVariants as kinds
use Rattle.peers.specs.declared.event.Event.{Event}
use Rattle.peers.specs.declared.event.Event.TheVariants as events
use Rattle.peers.specs.declared.limits.Limits.{Limits}
use Rattle.peers.specs.declared.phase.Phase.{Phase}
use Rattle.peers.specs.declared.phase.Phase.TheVariants as phases

-- a connection: its limits and its phase; what came of its request; whether the interim response is
-- among what is written; all that is written, and how many bytes of it were; how many bytes more
-- are thrown away; and the moment at which it is closed
pub record PeerView : Type 0 where
  pub limits : Limits
  pub phase : Phase
  pub came : IncomingView
  pub asked : Bool
  pub out : List ℕ
  pub done : ℕ
  pub spare : ℕ
  pub deadline : ℕ

-- the interim response, where it was asked for
abbrev pub interim : Bool → List ℕ
interim true = head_line (codes "HTTP/1.1 100 Continue") ++ head_line []
interim false = []

-- what was written: a front of what is written
abbrev pub written_bytes : PeerView → List ℕ
written_bytes s = take s.done s.out

abbrev pub wants_write : PeerView → Bool
wants_write s = nat_lt s.done (length s.out)

-- no response was given yet
abbrev pub is_open : Phase → Bool
is_open phases.Reading = true
is_open phases.Waiting = true
is_open _ = false

-- what always holds: no more was written than is to be, and where no response was given, nothing is
-- but the interim response
pub record IsPeer (phase : Phase) (asked : Bool) (out : List ℕ) (done : ℕ) : Type 0 where
  pub within : done ≤ length out
  pub unanswered : is_open phase ≡ true → out ≡ interim asked

-- nothing but the interim response is among what is written
abbrev pub IsUnanswered : PeerView → Type 0
IsUnanswered s = s.out ≡ interim s.asked

-- how many bytes are kept: those that came of the request, and all that is written
abbrev pub kept_bytes : PeerView → ℕ
kept_bytes s = min (length s.came.bytes + length s.out) (2 ^ 64 - 1)

-- a moment so much later
abbrev pub moment_after : ℕ → ℕ → ℕ
moment_after now time = min (now + time) (2 ^ 64 - 1)

-- ---- what a call leaves

-- nothing of a request
abbrev pub no_request : Limits → IncomingView
no_request limits =
    record { kind = kinds.Request limits.methods; most = limits.body; bytes = []; looks = 0 }

-- a connection that was accepted
abbrev pub new_peer : Limits → ℕ → PeerView
new_peer limits now =
    record {
      limits = limits;
      phase = phases.Reading;
      came = no_request limits;
      asked = false;
      out = [];
      done = 0;
      spare = limits.spare;
      deadline = moment_after now limits.request;
    }

-- closed where its deadline has come
abbrev pub at_time : ℕ → PeerView → PeerView
at_time now s = if nat_le s.deadline now then record s { phase = phases.Closed } else s

-- with its response, behind what was to be written
abbrev pub with_response_out : List ℕ → ℕ → PeerView → PeerView
with_response_out response now s =
    record s {
      phase = phases.Writing;
      out = s.out ++ response;
      deadline = moment_after now s.limits.write;
    }

abbrev pub after_close : PeerView → PeerView
after_close s = record s { phase = phases.Closed }

-- a connection that lingers from this moment on
abbrev pub after_response : ℕ → PeerView → PeerView
after_response now s =
    record s { phase = phases.Lingering; deadline = moment_after now s.limits.linger }

abbrev pub is_writing : Phase → Bool
is_writing phases.Writing = true
is_writing _ = false

-- the response was written whole
abbrev pub is_finished : PeerView → Bool
is_finished s = is_writing s.phase && nat_le (length s.out) s.done

abbrev pub with_more_written : ℕ → PeerView → PeerView
with_more_written count s = record s { done = s.done + count }

-- with so many bytes more written, and what that comes to
abbrev pub with_written : ℕ → ℕ → PeerView → PeerView
with_written count now s =
    if is_finished (with_more_written count s) then after_response now (with_more_written count s) else with_more_written count s

abbrev pub event_written : ℕ → PeerView → Event
event_written count s = if is_finished (with_more_written count s) then events.Written else events.Again

-- so many bytes were written of those that are to be written
pub record Advances (before after : Option (List ℕ)) (now : ℕ) (old new : PeerView) (e : Event)
    : Type 0 where
  pub count : ℕ
  pub some : 0 < count
  pub within : old.done + count ≤ length old.out
  pub given : Appends before after (take count (drop old.done old.out))
  pub left : new ≡ with_written count now old
  pub event : e ≡ event_written count old

-- nothing was written
abbrev pub Stays : Option (List ℕ) → Option (List ℕ) → PeerView → PeerView → Type 0
Stays before after old new = (new ≡ old) × Keeps before after

-- nothing is to be written
abbrev pub IsIdle : PeerView → Type 0
IsIdle s = (s.phase ≡ phases.Closed) ⊎ (wants_write s ≡ false)

-- a write was made, and it answered an error of this kind, or no call is counted any more
abbrev pub HasNotWritten : {T : Type 0} → Counts T → Counts T → ErrorKind → Type 0
HasNotWritten before after kind =
    IsFull before ⊎ ((e : Error) × CountsWrite before after (Err e) × (error_kind e ≡ kind))

-- what one write comes to
abbrev pub Writes : {T : Type 0} → (T → Option (List ℕ)) → ℕ → Counts T → Counts T → PeerView → PeerView
    → Event → Type 0
Writes known now before after old new events.Wait =
    Stays (known before.inner) (known after.inner) old new
    × (IsIdle old ⊎ HasNotWritten before after errors.WouldBlock)
Writes known now before after old new events.Again =
    (Stays (known before.inner) (known after.inner) old new
    × HasNotWritten before after errors.Interrupted)
    ⊎ Advances (known before.inner) (known after.inner) now old new events.Again
Writes known now before after old new events.Written =
    Advances (known before.inner) (known after.inner) now old new events.Written
Writes known now before after old new events.Closed =
    (new ≡ after_close old) × Keeps (known before.inner) (known after.inner)
Writes known now before after old new _ = ⊥

-- ---- reading

-- with the interim response among what is written
abbrev pub with_continue : PeerView → PeerView
with_continue s = record s { asked = true; out = s.out ++ interim true }

-- the same, where the head expects it and it isn't yet
abbrev pub with_interim : Bool → PeerView → PeerView
with_interim expects s = if expects && not s.asked then with_continue s else s

-- a connection that waits for its step from this moment on
abbrev pub while_waiting : ℕ → PeerView → PeerView
while_waiting now s = record s { phase = phases.Waiting; deadline = moment_after now s.limits.step }

-- with this as what came of its request
abbrev pub with_came : IncomingView → PeerView → PeerView
with_came came s = record s { came = came }

-- a connection that waits for its step, once its request was handed out
abbrev pub after_handing : ℕ → PeerView → PeerView
after_handing now s = while_waiting now (with_came (no_request s.limits) s)

-- nothing was read
abbrev pub Idles : Option (List ℕ) → Option (List ℕ) → Type 0
Idles before after = Consumes before after []

-- where no more is wanted, the request is handed out as what its bytes carry, or why they are
-- refused, unless memory runs out
abbrev pub Decides : ℕ → PeerView → PeerView → Event → Type 0
Decides now old new (events.Request r) =
    Says old.came.most old.came.kind old.came.bytes r.status r.method r.head.items r.target.items
    r.body
    × (new ≡ after_handing now old)
Decides now old new (events.Refused e) =
    (IsLost old.came.most old.came.kind old.came.bytes e × (new ≡ while_waiting now old))
    ⊎ ((e ≡ Core Memory) × (new ≡ after_handing now old))
Decides now old new _ = ⊥

-- a read failed, or nothing came before the end, or no more calls are counted
abbrev pub EndsHere : {T : Type 0} → Counts T → Counts T → PeerView → Type 0
EndsHere before after old =
    IsRead before after arrivals.Failed
    ⊎ ((IsRead before after arrivals.Ended × (old.came.bytes ≡ [])) ⊎ IsFull before)

-- where more is wanted, one read is made: it is known by its counts what it gave
abbrev pub ReadsOn : {T : Type 0} → (T → Option (List ℕ)) → ℕ → Need → Counts T → Counts T → PeerView
    → PeerView → Event → Type 0
ReadsOn known now w before after old new events.Wait =
    IsRead before after arrivals.NotYet × (new ≡ old)
    × Idles (known before.inner) (known after.inner)
ReadsOn known now w before after old new events.Again =
    (IsRead before after arrivals.Again × (new ≡ old)
    × Idles (known before.inner) (known after.inner))
    ⊎ (IsRead before after arrivals.Came × (new ≡ with_came new.came old)
    × Gained w.room (known before.inner) (known after.inner) old.came new.came)
ReadsOn known now w before after old new (events.Refused e) =
    IsRead before after arrivals.Ended × (e ≡ w.refused) × (new ≡ while_waiting now old)
    × Idles (known before.inner) (known after.inner) × IsAtEnd (known after.inner)
ReadsOn known now w before after old new events.Closed =
    EndsHere before after old × (new ≡ after_close old) × Idles (known before.inner) (known after.inner)
ReadsOn known now w before after old new _ = ⊥

-- memory ran out for what is wanted
abbrev pub IsOut : ℕ → PeerView → PeerView → Event → Type 0
IsOut now old new e = (e ≡ events.Refused (Core Memory)) × (new ≡ while_waiting now old)

-- more is wanted, and nothing happened, or the interim response was given
abbrev pub AsksOnly : PeerView → PeerView → Type 0
AsksOnly old new =
    (w : Need) × IsWanted old.came.most old.came.kind old.came.bytes w
    × ((new ≡ old) ⊎ (new ≡ with_interim w.expects_continue old))

-- one call for the request: no more is wanted of it; or more is, and the interim response is given
-- first, where the head asks for it and it wasn't given yet
abbrev pub Reads : {T : Type 0} → (T → Option (List ℕ)) → ℕ → Counts T → Counts T → PeerView → PeerView
    → Event → Type 0
Reads known now before after old new e =
    (Decides now old new e × Idles (known before.inner) (known after.inner))
    ⊎ ((w : Need) × IsWanted old.came.most old.came.kind old.came.bytes w
    × (ReadsOn known now w before after (with_interim w.expects_continue old) new e
    ⊎ (IsOut now old new e ⊎ IsOut now (with_interim w.expects_continue old) new e)))

-- so many bytes were thrown away, or it is at its end
abbrev pub Lingers : PeerView → PeerView → Event → Type 0
Lingers old new events.Wait = new ≡ old
Lingers old new events.Again =
    (count : ℕ) × (count ≤ old.spare) × (new ≡ record old { spare = old.spare - count })
Lingers old new events.Closed = new ≡ after_close old
Lingers old new _ = ⊥

-- nothing is read in this phase
abbrev pub is_quiet : Phase → Bool
is_quiet phases.Reading = false
is_quiet phases.Lingering = false
is_quiet _ = true
