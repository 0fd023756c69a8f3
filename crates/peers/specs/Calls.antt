-- What the calls of one turn come to: the reads of a connection's stream, and then the writes.
use Rattle.std.specs.Prelude.{◌≡◌, ◌⊎◌, ◌≤◌, ℕ, Bool, true, false, List, ◌++◌, length, drop}
use Rattle.std.specs.Prelude.{Option}
use Rattle.std.specs.Io.KnownBytes.{Appends, Consumes, IsAtEnd}
use Rattle.ticket_items.specs.declared.refusal.Refusal.TheVariants.{Memory}
use Rattle.streams.specs.declared.refused.Refused.{Refused}
use Rattle.streams.specs.declared.refused.Refused.TheVariants.{Core}
use Rattle.http_message.specs.Head.{Head, BeginsWith, head_expects}
use Rattle.http_message.specs.Incoming.{IsLost, IsWanted, Says}
use Rattle.http_message.specs.declared.kind.Kind.{Kind}
use Rattle.http_message.specs.declared.wanted.Need.{Need}
use Rattle.peers.specs.Peer.{IsUnanswered, PeerView, after_close, after_handing, is_finished}
use Rattle.peers.specs.Peer.{with_more_written}
use Rattle.peers.specs.Peer.{after_response, is_quiet, wants_write, while_waiting, with_came}
use Rattle.peers.specs.Peer.{with_interim}
use Rattle.peers.specs.Peer.{written_bytes}
use Rattle.peers.specs.declared.event.Event.{Event}
use Rattle.peers.specs.declared.event.Event.TheVariants as events
use Rattle.peers.specs.declared.phase.Phase.TheVariants as phases

-- ---- the reads of a request

-- the bytes begin with a head that asks for the interim response
abbrev pub HasAsked : Kind → List ℕ → Type 0
HasAsked kind bytes =
    (head : Head) × BeginsWith kind bytes head × (head_expects head ≡ true)

-- so much came of a request behind what came before, and nothing else changed but that the interim
-- response may have been given, if the head asks for it
pub record Grows (old new : PeerView) (gained : List ℕ) : Type 0 where
  pub kind : new.came.kind ≡ old.came.kind
  pub most : new.came.most ≡ old.came.most
  pub bytes : new.came.bytes ≡ old.came.bytes ++ gained
  pub asks : Bool
  pub head : asks ≡ true → HasAsked old.came.kind (old.came.bytes ++ gained)
  pub left : new ≡ with_interim asks (with_came new.came old)

-- so much came of a request, of which more may come
abbrev pub Continues : Option (List ℕ) → Option (List ℕ) → PeerView → PeerView → Type 0
Continues before after old new =
    (gained : List ℕ) × Grows old new gained × Consumes before after gained

-- more is wanted of the request, and the interim response was given if the head asks for it
abbrev pub Wants : PeerView → Type 0
Wants s =
    (w : Need) × IsWanted s.came.most s.came.kind s.came.bytes w
    × (w.expects_continue ≡ true → s.asked ≡ true)

-- these bytes are refused: whatever follows, or since they ended there
abbrev pub IsRefusedAt : ℕ → Kind → List ℕ → Option (List ℕ) → Refused → Type 0
IsRefusedAt most kind bytes after e =
    IsLost most kind bytes e
    ⊎ ((w : Need) × IsWanted most kind bytes w × (e ≡ w.refused) × IsAtEnd after)

-- the request is refused for these bytes; or memory ran out, and what was read then is lost
abbrev pub Refuses : ℕ → Option (List ℕ) → Option (List ℕ) → PeerView → PeerView → PeerView → List ℕ → Refused
    → Type 0
Refuses now before after old between new gained e =
    (Consumes before after gained
    × IsRefusedAt old.came.most old.came.kind (old.came.bytes ++ gained) after e
    × (new ≡ while_waiting now between))
    ⊎ ((e ≡ Core Memory) × ((new ≡ while_waiting now between) ⊎ (new ≡ after_handing now between)))

-- what the reads of a request come to: it is what the bytes carry that came before and now, or is
-- refused for them, or more of it is wanted
abbrev pub Comes : ℕ → Option (List ℕ) → Option (List ℕ) → PeerView → PeerView → Event → Type 0
Comes now before after old new events.Wait = Continues before after old new × Wants new
Comes now before after old new events.Again = Continues before after old new
Comes now before after old new (events.Request r) =
    (gained : List ℕ) × (between : PeerView) × Grows old between gained × Consumes before after gained
    × Says old.came.most old.came.kind (old.came.bytes ++ gained) r.status r.method
    r.head.items r.target.items r.body
    × (new ≡ after_handing now between) × IsUnanswered new
Comes now before after old new (events.Refused e) =
    (gained : List ℕ) × (between : PeerView) × Grows old between gained
    × Refuses now before after old between new gained e × IsUnanswered new
Comes now before after old new events.Closed =
    (gained : List ℕ) × (between : PeerView) × Grows old between gained × Consumes before after gained
    × (new ≡ after_close between)
Comes now before after old new events.Written = ⊥

-- ---- the reads of what still comes

-- some bytes were thrown away, no more than may be
abbrev pub Throws : PeerView → PeerView → Type 0
Throws old new = (new ≡ record old { spare = new.spare }) × (new.spare ≤ old.spare)

-- what the reads of a connection that lingers come to
abbrev pub ThrowsOn : PeerView → PeerView → Event → Type 0
ThrowsOn old new events.Wait = Throws old new
ThrowsOn old new events.Again = Throws old new
ThrowsOn old new events.Closed = (between : PeerView) × Throws old between × (new ≡ after_close between)
ThrowsOn old new _ = ⊥

-- ---- the writes

-- what is still to be written
abbrev pub unwritten_bytes : PeerView → List ℕ
unwritten_bytes s = drop s.done s.out

-- a front of what was to be written was written, and nothing else. That ends no response: the last
-- of one is told of by itself
pub record Gives (before after : Option (List ℕ)) (old new : PeerView) : Type 0 where
  pub piece : List ℕ
  pub given : Appends before after piece
  pub front : unwritten_bytes old ≡ piece ++ unwritten_bytes new
  pub behind : written_bytes new ≡ written_bytes old ++ piece
  pub left : new ≡ with_more_written (length piece) old
  pub unfinished : is_finished old ≡ false → is_finished new ≡ false

-- the response was written whole, and it lingers
pub record GivesAll (now : ℕ) (before after : Option (List ℕ)) (old new : PeerView) : Type 0 where
  pub phase : old.phase ≡ phases.Writing
  pub given : Appends before after (unwritten_bytes old)
  pub left : new ≡ after_response now (record old { done = length old.out })

-- what the writes come to
abbrev pub GivesOn : ℕ → Option (List ℕ) → Option (List ℕ) → PeerView → PeerView → Event → Type 0
GivesOn now before after old new events.Wait = Gives before after old new
GivesOn now before after old new events.Again = Gives before after old new
GivesOn now before after old new events.Written = GivesAll now before after old new
GivesOn now before after old new events.Closed =
    (between : PeerView) × Gives before after old between × (new ≡ after_close between)
GivesOn now before after old new _ = ⊥

-- ---- the calls of a turn

-- the reads that were made, of which nothing came: by its phase, more of the request came, some was
-- thrown away, or none was made
abbrev pub HasRead : {S : Type 0} → (S → Option (List ℕ)) → S → S → PeerView → PeerView → Type 0
HasRead reads before after old new =
    ((old.phase ≡ phases.Reading) × Continues (reads before) (reads after) old new)
    ⊎ (((old.phase ≡ phases.Lingering) × Throws old new)
    ⊎ ((is_quiet old.phase ≡ true) × (new ≡ old) × (after ≡ before)))

-- the reads that were made, and then the writes of a front of what was to be written: where nothing
-- was, no write was made
pub record Goes {S : Type 0} (reads held : S → Option (List ℕ)) (before after : S) (old new : PeerView)
    : Type 0 where
  pub mid : S
  pub between : PeerView
  pub read : HasRead reads before mid old between
  pub gives : Gives (held mid) (held after) between new
  pub idle : wants_write between ≡ false → after ≡ mid

-- something is read in its phase, or is to be written
abbrev pub HasMore : PeerView → Type 0
HasMore s = (is_quiet s.phase ≡ false) ⊎ (wants_write s ≡ true)

-- what the calls of a turn come to: what comes of the reads, and where nothing does, of the writes.
-- `reads` is what a stream has left, and `held` what was written to it
abbrev pub Turns : {S : Type 0} → (S → Option (List ℕ)) → (S → Option (List ℕ)) → ℕ → S → S → PeerView
    → PeerView → Event → Type 0
Turns reads held now before after old new events.Wait =
    Goes reads held before after old new × (old.phase ≡ phases.Reading → Wants new)
Turns reads held now before after old new events.Again = Goes reads held before after old new
Turns reads held now before after old new (events.Request r) =
    (old.phase ≡ phases.Reading)
    × Comes now (reads before) (reads after) old new (events.Request r)
Turns reads held now before after old new (events.Refused e) =
    (old.phase ≡ phases.Reading)
    × Comes now (reads before) (reads after) old new (events.Refused e)
Turns reads held now before after old new events.Written =
    GivesAll now (held before) (held after) old new
Turns reads held now before after old new events.Closed =
    (between : PeerView) × Goes reads held before after old between × (new ≡ after_close between)
    × HasMore old
