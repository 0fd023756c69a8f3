-- What a call for a request comes to.
use Rattle.std.proofs.Common.{Result, Ok, Err, IfOk, length, arith, ◌∷◌, ◌≡◌, ◌∙◌, ℕ, Bool, true, false, List, [], Option, Some, None, refl, sym, ap, subst, inl, inr, ⊎_elim}
use Rattle.std.specs.Prelude.{◌&&◌, not, if◌then◌else◌}
use Rattle.std.specs.Io.KnownBytes.{Consumes}
use Rattle.ticket_items.specs.declared.refusal.Refusal.TheVariants.{Memory}
use Rattle.streams.specs.Counts.{Counts}
use Rattle.streams.specs.declared.refused.Refused.{Refused}
use Rattle.streams.specs.declared.refused.Refused.TheVariants.{Core}
use Rattle.http_message.specs.Incoming.{Arrives, IncomingView, IsLost, IsRead, IsWanted}
use Rattle.http_message.specs.declared.arrival.Arrival.{Arrival}
use Rattle.http_message.specs.declared.arrival.Arrival.TheVariants as arrivals
use Rattle.http_message.specs.declared.wanted.Need.{Need}
use Rattle.peers.specs.Peer.{AsksOnly, Decides, PeerView, Reads, ReadsOn, after_close, while_waiting, with_came, with_continue, with_interim}
use Rattle.peers.specs.declared.event.Event.{Event}
use Rattle.peers.specs.declared.event.Event.TheVariants as events

-- nothing is read of what stays
pub nothing_read : (known : Option (List ℕ)) → Consumes known known []
nothing_read None = tt
nothing_read (Some all) = refl

-- ---- one read

-- what a read gave, and what it left of the request
pub record Gave {T : Type 0} (known : T → Option (List ℕ)) (room : ℕ) (before after : Counts T) (old new : IncomingView) (a : Arrival) : Type 0 where
  pub read : IsRead before after a
  pub arrives : Arrives room (known before.inner) (known after.inner) old new a

gave_as : {T : Type 0} (known : T → Option (List ℕ)) (room : ℕ) (before after : Counts T) (old new : IncomingView) (a b : Arrival) → a ≡ b
    → Gave known room before after old new a → Gave known room before after old new b
gave_as known room before after old new a b same gave = subst (λ r. Gave known room before after old new r) same gave

-- the same, of the connection as it was seen before
seen_as : {T : Type 0} (known : T → Option (List ℕ)) (room : ℕ) (before after : Counts T) (old s : PeerView) (came : IncomingView) (a : Arrival)
    → s ≡ old → Gave known room before after s.came came a → Gave known room before after old.came came a
seen_as known room before after old s came a same gave = subst (λ o. Gave known room before after o.came came a) same gave

pub some_came : {T : Type 0} (known : T → Option (List ℕ)) (now : ℕ) (w : Need) (before after : Counts T) (old s : PeerView) (came : IncomingView) (a : Arrival)
    → s ≡ old → IsRead before after a → Arrives w.room (known before.inner) (known after.inner) s.came came a → a ≡ arrivals.Came
    → ReadsOn known now w before after old (with_came came s) events.Again
some_came known now w before after old s came a same read arrives is =
    let gave = seen_as known w.room before after old s came arrivals.Came same
    (gave_as known w.room before after s.came came a arrivals.Came is (record { read = read; arrives = arrives })) in
    inr (gave.read, ap (λ o. with_came came o) same, gave.arrives)

pub none_came : {T : Type 0} (known : T → Option (List ℕ)) (now : ℕ) (w : Need) (before after : Counts T) (old s : PeerView) (came : IncomingView) (a : Arrival)
    → s ≡ old → IsRead before after a → Arrives w.room (known before.inner) (known after.inner) s.came came a → a ≡ arrivals.Again
    → ReadsOn known now w before after old (with_came came s) events.Again
none_came known now w before after old s came a same read arrives is =
    let gave = gave_as known w.room before after s.came came a arrivals.Again is (record { read = read; arrives = arrives }) in
    inl (gave.read, ap (λ k. with_came k s) gave.arrives.0 ∙ same, gave.arrives.1)

pub none_yet : {T : Type 0} (known : T → Option (List ℕ)) (now : ℕ) (w : Need) (before after : Counts T) (old s : PeerView) (came : IncomingView) (a : Arrival)
    → s ≡ old → IsRead before after a → Arrives w.room (known before.inner) (known after.inner) s.came came a → a ≡ arrivals.NotYet
    → ReadsOn known now w before after old (with_came came s) events.Wait
none_yet known now w before after old s came a same read arrives is =
    let gave = gave_as known w.room before after s.came came a arrivals.NotYet is (record { read = read; arrives = arrives }) in
    (gave.read, ap (λ k. with_came k s) gave.arrives.0 ∙ same, gave.arrives.1)

left_closed : (room : ℕ) (before after : Option (List ℕ)) (old s new : PeerView) (came : IncomingView) → s ≡ old → came ≡ s.came
    → new ≡ after_close (with_came came s) → new ≡ after_close old
left_closed room before after old s new came same none left = left ∙ ap (λ k. after_close (with_came k s)) none ∙ ap after_close same

pub failed : {T : Type 0} (known : T → Option (List ℕ)) (now : ℕ) (w : Need) (before after : Counts T) (old s new : PeerView) (came : IncomingView) (a : Arrival)
    → s ≡ old → IsRead before after a → Arrives w.room (known before.inner) (known after.inner) s.came came a → a ≡ arrivals.Failed
    → new ≡ after_close (with_came came s) → ReadsOn known now w before after old new events.Closed
failed known now w before after old s new came a same read arrives is left =
    let gave = gave_as known w.room before after s.came came a arrivals.Failed is (record { read = read; arrives = arrives }) in
    (inl gave.read, left_closed w.room (known before.inner) (known after.inner) old s new came same gave.arrives.0 left, gave.arrives.1)

empty_of : (bytes : List ℕ) → length bytes ≡ 0 → bytes ≡ []
empty_of [] none = refl
empty_of (c ∷ bytes) none = absurd (omega arith)

pub ended_empty : {T : Type 0} (known : T → Option (List ℕ)) (now : ℕ) (w : Need) (before after : Counts T) (old s new : PeerView) (came : IncomingView) (a : Arrival)
    → s ≡ old → IsRead before after a → Arrives w.room (known before.inner) (known after.inner) s.came came a → a ≡ arrivals.Ended
    → length came.bytes ≡ 0 → new ≡ after_close (with_came came s) → ReadsOn known now w before after old new events.Closed
ended_empty known now w before after old s new came a same read arrives is none left =
    let gave = gave_as known w.room before after s.came came a arrivals.Ended is (record { read = read; arrives = arrives }) in
    let came_is : came ≡ old.came = gave.arrives.0 ∙ ap (λ o. o.came) same in (
      inr (inl (gave.read, empty_of old.came.bytes (ap (λ k. length k.bytes) (sym came_is) ∙ none))),
      left_closed w.room (known before.inner) (known after.inner) old s new came same gave.arrives.0 left,
      gave.arrives.1,
    )

pub ended : {T : Type 0} (known : T → Option (List ℕ)) (now : ℕ) (w : Need) (before after : Counts T) (old s new : PeerView) (came : IncomingView) (a : Arrival)
    → s ≡ old → IsRead before after a → Arrives w.room (known before.inner) (known after.inner) s.came came a → a ≡ arrivals.Ended
    → new ≡ while_waiting now (with_came came s) → ReadsOn known now w before after old new (events.Refused w.refused)
ended known now w before after old s new came a same read arrives is left =
    let gave = gave_as known w.room before after s.came came a arrivals.Ended is (record { read = read; arrives = arrives }) in (
      gave.read,
      refl,
      left ∙ ap (λ k. while_waiting now (with_came k s)) gave.arrives.0 ∙ ap (while_waiting now) same,
      gave.arrives.1,
      gave.arrives.2,
    )

-- ---- a call

same_of : (b : Bool) (s : PeerView) → (if b then with_continue s else s).came ≡ s.came
same_of true s = refl
same_of false s = refl

-- what is wanted of one is wanted of the other
pub wanted_of : (old s : PeerView) (w : Need) → s ≡ old → IsWanted s.came.most s.came.kind s.came.bytes w
    → IsWanted old.came.most old.came.kind old.came.bytes w
wanted_of old s w same wanted = subst (λ o. IsWanted o.came.most o.came.kind o.came.bytes w) same wanted

-- what came of the request stays, where the interim response is given
pub wanted_still : (old s new : PeerView) (w : Need) → s ≡ old → IsWanted s.came.most s.came.kind s.came.bytes w
    → new ≡ with_interim w.expects_continue old → IsWanted new.came.most new.came.kind new.came.bytes w
wanted_still old s new w same wanted is =
    let came : old.came ≡ new.came = sym (ap (λ n. n.came) is ∙ same_of (w.expects_continue && not old.asked) old) in
    subst (λ k. IsWanted k.most k.kind k.bytes w) came (wanted_of old s w same wanted)

read_then : {T : Type 0} (known : T → Option (List ℕ)) (now : ℕ) (before after : Counts T) (old s between new : PeerView) (w : Need) (e : Event)
    → s ≡ old → IsWanted s.came.most s.came.kind s.came.bytes w → between ≡ with_interim w.expects_continue old
    → ReadsOn known now w before after between new e → Reads known now before after old new e
read_then known now before after old s between new w e same wanted is reads =
    inr (w, wanted_of old s w same wanted, inl (subst (λ b. ReadsOn known now w before after b new e) is reads))

pub read_where : {T E : Type 0} (known : T → Option (List ℕ)) (now : ℕ) (before after : Counts T) (old s between new : PeerView) (w : Need)
    (r : Result Event E) → s ≡ old → IsWanted s.came.most s.came.kind s.came.bytes w → between ≡ with_interim w.expects_continue old
    → IfOk r (ReadsOn known now w before after between new) → IfOk r (Reads known now before after old new)
read_where known now before after old s between new w (Ok e) same wanted is reads =
    read_then known now before after old s between new w e same wanted is reads
read_where known now before after old s between new w (Err x) same wanted is reads = tt

pub refused_then : {T : Type 0} (known : T → Option (List ℕ)) (now : ℕ) (stream : Counts T) (old s new : PeerView) (e : Refused) → s ≡ old
    → IsLost s.came.most s.came.kind s.came.bytes e → new ≡ while_waiting now old → Reads known now stream stream old new (events.Refused e)
refused_then known now stream old s new e same lost left =
    inl (inl (subst (λ o. IsLost o.came.most o.came.kind o.came.bytes e) same lost, left), nothing_read (known stream.inner))

pub handed_out : {T : Type 0} (known : T → Option (List ℕ)) (now : ℕ) (stream : Counts T) (old new : PeerView) (e : Event)
    → Decides now old new e → Reads known now stream stream old new e
handed_out known now stream old new e decides = inl (decides, nothing_read (known stream.inner))

pub asked_none : (old s : PeerView) (w : Need) → s ≡ old → IsWanted s.came.most s.came.kind s.came.bytes w → (new : PeerView) → new ≡ old → AsksOnly old new
asked_none old s w same wanted new is = (w, wanted_of old s w same wanted, inl is)

pub asked_first : (old s : PeerView) (w : Need) → s ≡ old → IsWanted s.came.most s.came.kind s.came.bytes w → (between new : PeerView)
    → between ≡ with_interim w.expects_continue old → new ≡ between → AsksOnly old new
asked_first old s w same wanted between new is still = (w, wanted_of old s w same wanted, inr (still ∙ is))

pub out_of_memory : {T : Type 0} (known : T → Option (List ℕ)) (now : ℕ) (before after : Counts T) (old between new : PeerView) → AsksOnly old between
    → new ≡ while_waiting now between → Reads known now before after old new (events.Refused (Core Memory))
out_of_memory known now before after old between new asks left =
    inr (
      asks.0,
      asks.1,
      inr (⊎_elim (λ none. inl (refl, left ∙ ap (while_waiting now) none)) (λ first. inr (refl, left ∙ ap (while_waiting now) first)) asks.2),
    )
