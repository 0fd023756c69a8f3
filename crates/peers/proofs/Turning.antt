-- What the reads of a turn and its writes come to together.
use Rattle.std.proofs.Common.{◌≡◌, ◌∙◌, ℕ, Bool, true, false, List, Option, refl, sym, ap, subst, inl, inr, ⊎_elim}
use Rattle.std.proofs.lemmas.Bool.{false≢true}
use Rattle.streams.specs.Counts.{Counts}
use Rattle.peers.specs.Calls.{Comes, GivesAll, GivesOn, Goes, HasMore, HasRead, ThrowsOn, Turns, Wants}
use Rattle.peers.specs.Client.{Connection, IsOwed}
use Rattle.peers.specs.Peer.{PeerView, after_close, is_quiet, wants_write}
use Rattle.peers.specs.Turn.{TurnsTo, turn_of}
use Rattle.peers.specs.declared.event.Event.{Event}
use Rattle.peers.specs.declared.event.Event.TheVariants as events
use Rattle.peers.specs.declared.phase.Phase.{Phase}
use Rattle.peers.specs.declared.phase.Phase.TheVariants as phases
use Rattle.peers.specs.declared.turn.Turn.{Turn}
use Rattle.peers.proofs.Coming.{phase_of_grown}
use Rattle.peers.proofs.Giving.{gives_none}

-- ---- the reads

-- what the reads come to, by the phase
pub record HasCome {T : Type 0} (reads : T → Option (List ℕ)) (now : ℕ) (before after : Counts T) (old new : PeerView) (e : Event) : Type 0 where
  pub reading : old.phase ≡ phases.Reading → Comes now (reads before.inner) (reads after.inner) old new e
  pub lingering : old.phase ≡ phases.Lingering → ThrowsOn old new e
  pub quiet : is_quiet old.phase ≡ true → (new ≡ old) × (after ≡ before)
  pub quiet_event : is_quiet old.phase ≡ true → e ≡ events.Wait

-- P of each phase: one that reads a request, one that lingers, or one that reads nothing
by_phase : (P : Type 0) (p : Phase) → (p ≡ phases.Reading → P) → (p ≡ phases.Lingering → P) → (is_quiet p ≡ true → P) → P
by_phase P phases.Reading reading lingering quiet = reading refl
by_phase P phases.Waiting reading lingering quiet = quiet refl
by_phase P phases.Writing reading lingering quiet = quiet refl
by_phase P phases.Lingering reading lingering quiet = lingering refl
by_phase P phases.Closed reading lingering quiet = quiet refl

abbrev is_wait : Event → Bool
is_wait events.Wait = true
is_wait _ = false

waits : (e : Event) (P : Type 0) → is_wait e ≡ false → e ≡ events.Wait → P
waits e P isnt is = absurd (false≢true (sym isnt ∙ ap is_wait is))

reading_wait : {T : Type 0} (reads : T → Option (List ℕ)) (now : ℕ) (before after : Counts T) (old new : PeerView)
    → HasCome reads now before after old new events.Wait → HasRead reads before.inner after.inner old new
reading_wait reads now before after old new come =
    by_phase (HasRead reads before.inner after.inner old new) old.phase
    (λ is. inl (is, (come.reading is).0))
    (λ is. inr (inl (is, come.lingering is)))
    (λ is. inr (inr (is, (come.quiet is).0, ap (λ s. s.inner) (come.quiet is).1)))

reading_wants : {T : Type 0} (reads : T → Option (List ℕ)) (now : ℕ) (before after : Counts T) (old new : PeerView)
    → HasCome reads now before after old new events.Wait → old.phase ≡ phases.Reading → Wants new
reading_wants reads now before after old new come is = (come.reading is).1

reading_again : {T : Type 0} (reads : T → Option (List ℕ)) (now : ℕ) (before after : Counts T) (old new : PeerView)
    → HasCome reads now before after old new events.Again → HasRead reads before.inner after.inner old new
reading_again reads now before after old new come =
    by_phase (HasRead reads before.inner after.inner old new) old.phase
    (λ is. inl (is, come.reading is))
    (λ is. inr (inl (is, come.lingering is)))
    (λ is. inr (inr (is, (come.quiet is).0, ap (λ s. s.inner) (come.quiet is).1)))

abbrev Ends : {S : Type 0} → (S → Option (List ℕ)) → S → S → PeerView → PeerView → Type 0
Ends reads before after old new =
    (between : PeerView) × HasRead reads before after old between × (new ≡ after_close between) × HasMore old

reading_closed : {T : Type 0} (reads : T → Option (List ℕ)) (now : ℕ) (before after : Counts T) (old new : PeerView)
    → HasCome reads now before after old new events.Closed → Ends reads before.inner after.inner old new
reading_closed reads now before after old new come =
    by_phase (Ends reads before.inner after.inner old new) old.phase
    (λ is. let c = come.reading is in (c.1, inl (is, (c.0, c.2, c.3)), c.4, inl (ap is_quiet is)))
    (λ is. let c = come.lingering is in (c.0, inr (inl (is, c.1)), c.2, inl (ap is_quiet is)))
    (λ is. waits events.Closed (Ends reads before.inner after.inner old new) refl (come.quiet_event is))

goes_read : {S : Type 0} (reads held : S → Option (List ℕ)) (before after : S) (old new : PeerView) → HasRead reads before after old new
    → Goes reads held before after old new
goes_read reads held before after old new read =
    record { mid = after; between = new; read = read; gives = gives_none (held after) new; idle = λ is. refl }

-- the reads alone, where no write follows
pub turns_read : {T : Type 0} (reads held : T → Option (List ℕ)) (now : ℕ) (before after : Counts T) (old new : PeerView) (e : Event)
    → HasCome reads now before after old new e → Turns reads held now before.inner after.inner old new e
turns_read reads held now before after old new events.Wait come = (
  goes_read reads held before.inner after.inner old new (reading_wait reads now before after old new come),
  reading_wants reads now before after old new come,
)
turns_read reads held now before after old new events.Again come =
    goes_read reads held before.inner after.inner old new (reading_again reads now before after old new come)
turns_read reads held now before after old new (events.Request r) come =
    let P : Type 0 = (old.phase ≡ phases.Reading) × Comes now (reads before.inner) (reads after.inner) old new (events.Request r) in
    by_phase P old.phase
    (λ is. (is, come.reading is))
    (λ is. absurd (come.lingering is))
    (λ is. waits (events.Request r) P refl (come.quiet_event is))
turns_read reads held now before after old new (events.Refused e) come =
    let P : Type 0 = (old.phase ≡ phases.Reading) × Comes now (reads before.inner) (reads after.inner) old new (events.Refused e) in
    by_phase P old.phase
    (λ is. (is, come.reading is))
    (λ is. absurd (come.lingering is))
    (λ is. waits (events.Refused e) P refl (come.quiet_event is))
turns_read reads held now before after old new events.Written come =
    let P : Type 0 = GivesAll now (held before.inner) (held after.inner) old new in
    by_phase P old.phase
    (λ is. absurd (come.reading is))
    (λ is. absurd (come.lingering is))
    (λ is. waits events.Written P refl (come.quiet_event is))
turns_read reads held now before after old new events.Closed come =
    let ends = reading_closed reads now before after old new come in
    (ends.0, goes_read reads held before.inner after.inner old ends.0 ends.1, ends.2, ends.3)

-- ---- the writes behind them

reading_writes : phases.Reading ≡ phases.Writing → ⊥
reading_writes is = cc

lingering_writes : phases.Lingering ≡ phases.Writing → ⊥
lingering_writes is = cc

-- a response is written only where nothing was read
wrote_all : {S : Type 0} (reads held : S → Option (List ℕ)) (now : ℕ) (before mid after : S) (old between new : PeerView)
    → HasRead reads before mid old between → GivesAll now (held mid) (held after) between new
    → GivesAll now (held before) (held after) old new
wrote_all {S = S} reads held now before mid after old between new read all =
    ⊎_elim
    (λ r. absurd (reading_writes (sym r.0 ∙ sym (phase_of_grown old between r.1.0 r.1.1) ∙ all.phase)))
    (λ rest. ⊎_elim
    (λ l. absurd (lingering_writes (sym l.0 ∙ sym (ap (λ s. s.phase) l.1.0) ∙ all.phase)))
    (λ q. subst (λ (s : PeerView). GivesAll now (held before) (held after) s new) q.1
    (subst (λ (m : S). GivesAll now (held m) (held after) between new) q.2 all))
    rest)
    read

-- something is read, or what is written now was to be written before
had_more : {S : Type 0} (reads : S → Option (List ℕ)) (before mid : S) (old between : PeerView) → HasRead reads before mid old between
    → wants_write between ≡ true → HasMore old
had_more reads before mid old between read wants =
    ⊎_elim
    (λ r. inl (ap is_quiet r.0))
    (λ rest. ⊎_elim (λ l. inl (ap is_quiet l.0)) (λ q. inr (sym (ap wants_write q.1) ∙ wants)) rest)
    read

-- the reads, of which nothing came, and then the writes
pub turns_written : {T : Type 0} (reads held : T → Option (List ℕ)) (now : ℕ) (before mid after : Counts T) (old between new : PeerView)
    (e : Event) → HasCome reads now before mid old between events.Wait → wants_write between ≡ true
    → GivesOn now (held mid.inner) (held after.inner) between new e → Turns reads held now before.inner after.inner old new e
turns_written reads held now before mid after old between new events.Wait come wants gives = (
  record {
    mid = mid.inner;
    between = between;
    read = reading_wait reads now before mid old between come;
    gives = gives;
    idle = λ isnt. absurd (false≢true (sym isnt ∙ wants));
  },
  λ is. subst Wants (sym gives.left) (reading_wants reads now before mid old between come is),
)
turns_written reads held now before mid after old between new events.Again come wants gives =
    record {
      mid = mid.inner;
      between = between;
      read = reading_wait reads now before mid old between come;
      gives = gives;
      idle = λ isnt. absurd (false≢true (sym isnt ∙ wants));
    }
turns_written reads held now before mid after old between new (events.Request r) come wants gives = absurd gives
turns_written reads held now before mid after old between new (events.Refused e) come wants gives = absurd gives
turns_written reads held now before mid after old between new events.Written come wants gives =
    wrote_all reads held now before.inner mid.inner after.inner old between new (reading_wait reads now before mid old between come) gives
turns_written reads held now before mid after old between new events.Closed come wants gives = (
  gives.0,
  record {
    mid = mid.inner;
    between = between;
    read = reading_wait reads now before mid old between come;
    gives = gives.1;
    idle = λ isnt. absurd (false≢true (sym isnt ∙ wants));
  },
  gives.2,
  had_more reads before.inner mid.inner old between (reading_wait reads now before mid old between come) wants,
)

-- ---- the turn of a client

-- a response is owed where a request came or is refused
pub owed : {S : Type 0} (reads held : S → Option (List ℕ)) (now : ℕ) (before after : S) (old new : PeerView) (e : Event)
    → Turns reads held now before after old new e → IsOwed new e
owed reads held now before after old new events.Wait turns = tt
owed reads held now before after old new events.Again turns = tt
owed reads held now before after old new (events.Request r) turns = ap (λ s. s.phase) turns.1.5
owed reads held now before after old new (events.Refused e) turns =
    ⊎_elim
    (λ why. ap (λ s. s.phase) why.2)
    (λ out. ⊎_elim (λ still. ap (λ s. s.phase) still) (λ none. ap (λ s. s.phase) none) out.1)
    turns.1.3
owed reads held now before after old new events.Written turns = tt
owed reads held now before after old new events.Closed turns = tt

turned : {S : Type 0} (reads held : S → Option (List ℕ)) (now : ℕ) (old new : Connection S) (e : Event)
    → Turns reads held now old.stream new.stream old.peer new.peer e → TurnsTo reads held now old (turn_of new e)
turned reads held now old new events.Wait turns = turns
turned reads held now old new events.Again turns = turns
turned reads held now old new (events.Request r) turns = turns
turned reads held now old new (events.Refused e) turns = turns
turned reads held now old new events.Written turns = turns
turned reads held now old new events.Closed turns = turns.3

pub turned_as : {S : Type 0} (reads held : S → Option (List ℕ)) (now : ℕ) (old new : Connection S) (e : Event) (turn : Turn S)
    → Turns reads held now old.stream new.stream old.peer new.peer e → turn ≡ turn_of new e → TurnsTo reads held now old turn
turned_as {S = S} reads held now old new e turn turns is =
    subst (λ (t : Turn S). TurnsTo reads held now old t) (sym is) (turned reads held now old new e turns)

-- the same, of the stream and the connection as they are seen before and behind it
pub turns_as : {S : Type 0} (reads held : S → Option (List ℕ)) (now : ℕ) (first before last after : S) (inside old new : PeerView) (e : Event)
    → first ≡ before → last ≡ after → inside ≡ old → Turns reads held now first last inside new e → Turns reads held now before after old new e
turns_as {S = S} reads held now first before last after inside old new e is_first is_last same turns =
    subst (λ (b : S). Turns reads held now b after old new e) is_first
    (subst (λ (a : S). Turns reads held now first a old new e) is_last
    (subst (λ (o : PeerView). Turns reads held now first last o new e) same turns))
