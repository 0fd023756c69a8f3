-- What the reads of a turn come to.
use Rattle.std.proofs.Common.{◌≡◌, ◌∙◌, ◌++◌, ◌-◌, ℕ, Bool, true, false, List, [], Option, Some, None, refl, sym, ap, subst, inl, inr, ⊎_elim, append_assoc, arith}
use Rattle.std.proofs.lemmas.Bool.{false≢true}
use Rattle.std.proofs.lemmas.List.{append-nil}
use Rattle.std.specs.Prelude.{◌&&◌, ◌||◌, not, if◌then◌else◌}
use Rattle.std.specs.Io.KnownBytes.{Consumes}
use Rattle.ticket_items.specs.declared.refusal.Refusal.TheVariants.{Memory}
use Rattle.streams.specs.Counts.{Counts}
use Rattle.streams.specs.declared.refused.Refused.{Refused}
use Rattle.streams.specs.declared.refused.Refused.TheVariants.{Core}
use Rattle.http_message.proofs.Heads.{begins_more}
use Rattle.peers.proofs.Reading.{nothing_read}
use Rattle.http_message.specs.Incoming.{Gained, IncomingView, IsLost, IsWanted, Says}
use Rattle.http_message.specs.declared.kind.Kind.{Kind}
use Rattle.http_message.specs.declared.wanted.Need.{Need}
use Rattle.peers.specs.Calls.{Comes, Continues, Grows, HasAsked, IsRefusedAt, Refuses, Throws, ThrowsOn, Wants}
use Rattle.peers.specs.Peer.{Decides, IsOut, IsUnanswered, Lingers, PeerView, Reads, ReadsOn, interim, is_open, is_quiet, with_came, with_continue, with_interim}
use Rattle.peers.specs.declared.event.Event.{Event}
use Rattle.peers.specs.declared.event.Event.TheVariants as events
use Rattle.peers.specs.declared.phase.Phase.TheVariants as phases

-- ---- bytes that are consumed

pub consumes_more : (a b c : Option (List ℕ)) (g h : List ℕ) → Consumes a b g → Consumes b c h → Consumes a c (g ++ h)
consumes_more None b c g h first second = tt
consumes_more (Some x) None c g h first second = absurd first
consumes_more (Some x) (Some y) None g h first second = absurd second
consumes_more (Some x) (Some y) (Some z) g h first second = first ∙ ap (λ r. g ++ r) second ∙ sym (append_assoc g h z)

-- ---- the interim response

came_asking : (c : Bool) (s : PeerView) → (if c then with_continue s else s).came ≡ s.came
came_asking true s = refl
came_asking false s = refl

phase_asking : (c : Bool) (s : PeerView) → (if c then with_continue s else s).phase ≡ s.phase
phase_asking true s = refl
phase_asking false s = refl

came_behind : (c : Bool) (came : IncomingView) (s : PeerView) → with_came came (if c then with_continue s else s) ≡ (if c then with_continue (with_came came s) else with_came came s)
came_behind true came s = refl
came_behind false came s = refl

unanswered_asking : (e asked : Bool) (s : PeerView) → s.asked ≡ asked → IsUnanswered s → IsUnanswered (if e && not asked then with_continue s else s)
unanswered_asking true true s is none = none
unanswered_asking true false s is none = ap (λ o. o ++ interim true) (none ∙ ap interim is)
unanswered_asking false true s is none = none
unanswered_asking false false s is none = none

pub unanswered_still : (e : Bool) (s : PeerView) → IsUnanswered s → IsUnanswered (with_interim e s)
unanswered_still e s none = unanswered_asking e s.asked s refl none

asking_twice : (a b asked : Bool) (s : PeerView) → s.asked ≡ asked
    → (if b && not (if a && not asked then with_continue s else s).asked then with_continue (if a && not asked then with_continue s else s) else (if a && not asked then with_continue s else s))
    ≡ (if (a || b) && not asked then with_continue s else s)
asking_twice true true true s is = rw is refl
asking_twice true true false s is = refl
asking_twice true false true s is = refl
asking_twice true false false s is = refl
asking_twice false true true s is = rw is refl
asking_twice false true false s is = rw is refl
asking_twice false false true s is = refl
asking_twice false false false s is = refl

interim_twice : (a b : Bool) (s : PeerView) → with_interim b (with_interim a s) ≡ with_interim (a || b) s
interim_twice a b s = asking_twice a b s.asked s refl

asked_or : (a b : Bool) (P : Type 0) → (a ≡ true → P) → (b ≡ true → P) → (a || b) ≡ true → P
asked_or true b P first second is = first refl
asked_or false b P first second is = second is

asked_given : (e asked : Bool) (s : PeerView) → s.asked ≡ asked → e ≡ true → (if e && not asked then with_continue s else s).asked ≡ true
asked_given true true s is expects = is
asked_given true false s is expects = refl
asked_given false asked s is expects = absurd (false≢true expects)

-- ---- a request that grows

asked_more : (kind : Kind) (bytes more : List ℕ) → HasAsked kind bytes → HasAsked kind (bytes ++ more)
asked_more kind bytes more asked = (asked.0, begins_more kind bytes more asked.0 asked.1, asked.2)

pub grows_none : (s : PeerView) → Grows s s []
grows_none s =
    record {
      kind = refl;
      most = refl;
      bytes = sym (append-nil s.came.bytes);
      asks = false;
      head = λ is. absurd (false≢true is);
      left = refl;
    }

-- P of what came before and since is P of what came before that, and since then
as_before : (P : ℕ → Kind → List ℕ → Type 0) (old cur : PeerView) (g h : List ℕ) → Grows old cur g
    → P cur.came.most cur.came.kind (cur.came.bytes ++ h) → P old.came.most old.came.kind (old.came.bytes ++ (g ++ h))
as_before P old cur g h grows is =
    let bytes : cur.came.bytes ++ h ≡ old.came.bytes ++ (g ++ h) = ap (λ b. b ++ h) grows.bytes ∙ append_assoc old.came.bytes g h in
    subst (λ (m : ℕ). P m old.came.kind (old.came.bytes ++ (g ++ h))) grows.most
    (subst (λ (k : Kind). P cur.came.most k (old.came.bytes ++ (g ++ h))) grows.kind
    (subst (λ (b : List ℕ). P cur.came.most cur.came.kind b) bytes is))

pub grows_more : (old cur new : PeerView) (g h : List ℕ) → Grows old cur g → Grows cur new h → Grows old new (g ++ h)
grows_more old cur new g h first second =
    record {
      kind = second.kind ∙ first.kind;
      most = second.most ∙ first.most;
      bytes = second.bytes ∙ ap (λ b. b ++ h) first.bytes ∙ append_assoc old.came.bytes g h;
      asks = first.asks || second.asks;
      head = asked_or first.asks second.asks (HasAsked old.came.kind (old.came.bytes ++ (g ++ h)))
          (λ is. subst (λ (b : List ℕ). HasAsked old.came.kind b) (append_assoc old.came.bytes g h)
          (asked_more old.came.kind (old.came.bytes ++ g) h (first.head is)))
          (λ is. as_before (λ m k b. HasAsked k b) old cur g h first (second.head is));
      left = second.left ∙ ap (λ s. with_interim second.asks (with_came new.came s)) first.left
          ∙ ap (with_interim second.asks) (came_behind (first.asks && not old.asked) new.came (with_came cur.came old))
          ∙ interim_twice first.asks second.asks (with_came new.came old);
    }

pub phase_of_grown : (old new : PeerView) (g : List ℕ) → Grows old new g → new.phase ≡ old.phase
phase_of_grown old new g grows = ap (λ s. s.phase) grows.left ∙ phase_asking (grows.asks && not old.asked) (with_came new.came old)

-- ---- one read

asks_for : (most : ℕ) (kind : Kind) (bytes : List ℕ) (w : Need) → IsWanted most kind bytes w → w.expects_continue ≡ true → HasAsked kind bytes
asks_for most kind bytes w wanted is =
    ⊎_elim (λ h. absurd (false≢true (sym h.quiet ∙ is))) (λ b. (b.head, b.begins, sym b.expects ∙ is)) wanted.more

grows_interim : (old : PeerView) (w : Need) → IsWanted old.came.most old.came.kind old.came.bytes w → (new : PeerView)
    → new ≡ with_interim w.expects_continue old → Grows old new []
grows_interim old w wanted new is =
    let came : new.came ≡ old.came = ap (λ s. s.came) is ∙ came_asking (w.expects_continue && not old.asked) old in
    record {
      kind = ap (λ k. k.kind) came;
      most = ap (λ k. k.most) came;
      bytes = ap (λ k. k.bytes) came ∙ sym (append-nil old.came.bytes);
      asks = w.expects_continue;
      head = λ e. subst (λ (b : List ℕ). HasAsked old.came.kind b) (sym (append-nil old.came.bytes))
          (asks_for old.came.most old.came.kind old.came.bytes w wanted e);
      left = is ∙ ap (λ k. with_interim w.expects_continue (with_came k old)) (sym came);
    }

wants_still : (old : PeerView) (w : Need) → IsWanted old.came.most old.came.kind old.came.bytes w → (new : PeerView)
    → new ≡ with_interim w.expects_continue old → Wants new
wants_still old w wanted new is =
    let came : old.came ≡ new.came = sym (ap (λ s. s.came) is ∙ came_asking (w.expects_continue && not old.asked) old) in (
      w,
      subst (λ (k : IncomingView). IsWanted k.most k.kind k.bytes w) came wanted,
      λ expects. ap (λ s. s.asked) is ∙ asked_given w.expects_continue old.asked old refl expects,
    )

goes_on : (before after : Option (List ℕ)) (old : PeerView) (w : Need) → IsWanted old.came.most old.came.kind old.came.bytes w → (new : PeerView)
    → new ≡ with_came new.came (with_interim w.expects_continue old)
    → Gained w.room before after (with_interim w.expects_continue old).came new.came → Continues before after old new
goes_on before after old w wanted new left gained =
    let came : (with_interim w.expects_continue old).came ≡ old.came = came_asking (w.expects_continue && not old.asked) old in (
      gained.more,
      record {
        kind = gained.kind ∙ ap (λ k. k.kind) came;
        most = gained.most ∙ ap (λ k. k.most) came;
        bytes = gained.grown ∙ ap (λ k. k.bytes ++ gained.more) came;
        asks = w.expects_continue;
        head = λ e. asked_more old.came.kind old.came.bytes gained.more (asks_for old.came.most old.came.kind old.came.bytes w wanted e);
        left = left ∙ came_behind (w.expects_continue && not old.asked) new.came old;
      },
      gained.taken,
    )

-- P of the bytes is P of them with none behind
with_none : (P : List ℕ → Type 0) (bytes : List ℕ) → P bytes → P (bytes ++ [])
with_none P bytes is = subst P (sym (append-nil bytes)) is

unanswered_left : (old new : PeerView) → new.out ≡ old.out → new.asked ≡ old.asked → IsUnanswered old → IsUnanswered new
unanswered_left old new out asked none = out ∙ none ∙ ap interim (sym asked)

decided : (now : ℕ) (before after : Option (List ℕ)) (old new : PeerView) (e : Event) → IsUnanswered old → Decides now old new e
    → Consumes before after [] → Comes now before after old new e
decided now before after old new events.Wait none decides idle = absurd decides
decided now before after old new events.Again none decides idle = absurd decides
decided now before after old new (events.Request r) none decides idle = (
  [],
  old,
  grows_none old,
  idle,
  with_none (λ b. Says old.came.most old.came.kind b r.status r.method r.head.items r.target.items r.body) old.came.bytes decides.0,
  decides.1,
  unanswered_left old new (ap (λ s. s.out) decides.1) (ap (λ s. s.asked) decides.1) none,
)
decided now before after old new (events.Refused e) none decides idle =
    ⊎_elim
    (λ lost. (
      [],
      old,
      grows_none old,
      inl (idle, inl (with_none (λ b. IsLost old.came.most old.came.kind b e) old.came.bytes lost.0), lost.1),
      unanswered_left old new (ap (λ s. s.out) lost.1) (ap (λ s. s.asked) lost.1) none,
    ))
    (λ out. (
      [],
      old,
      grows_none old,
      inr (out.0, inr out.1),
      unanswered_left old new (ap (λ s. s.out) out.1) (ap (λ s. s.asked) out.1) none,
    ))
    decides
decided now before after old new events.Written none decides idle = absurd decides
decided now before after old new events.Closed none decides idle = absurd decides

read_more : {T : Type 0} (known : T → Option (List ℕ)) (now : ℕ) (before after : Counts T) (old : PeerView) (w : Need)
    → IsWanted old.came.most old.came.kind old.came.bytes w → (new : PeerView) (e : Event) → IsUnanswered old
    → ReadsOn known now w before after (with_interim w.expects_continue old) new e
    → Comes now (known before.inner) (known after.inner) old new e
read_more known now before after old w wanted new events.Wait none on =
    (([], grows_interim old w wanted new on.1, on.2), wants_still old w wanted new on.1)
read_more known now before after old w wanted new events.Again none on =
    ⊎_elim
    (λ same. ([], grows_interim old w wanted new same.1, same.2))
    (λ more. goes_on (known before.inner) (known after.inner) old w wanted new more.1 more.2)
    on
read_more known now before after old w wanted new (events.Request r) none on = absurd on
read_more known now before after old w wanted new (events.Refused e) none on = (
  [],
  with_interim w.expects_continue old,
  grows_interim old w wanted (with_interim w.expects_continue old) refl,
  inl (
    on.3,
    inr (w, with_none (λ b. IsWanted old.came.most old.came.kind b w) old.came.bytes wanted, on.1, on.4),
    on.2,
  ),
  unanswered_left (with_interim w.expects_continue old) new (ap (λ s. s.out) on.2) (ap (λ s. s.asked) on.2)
      (unanswered_still w.expects_continue old none),
)
read_more known now before after old w wanted new events.Written none on = absurd on
read_more known now before after old w wanted new events.Closed none on = (
  [],
  with_interim w.expects_continue old,
  grows_interim old w wanted (with_interim w.expects_continue old) refl,
  on.2,
  on.1,
)

memory_out : (now : ℕ) (before after : Option (List ℕ)) (old between new : PeerView) (e : Event) → Grows old between [] → IsUnanswered between
    → IsOut now between new e → Comes now before after old new e
memory_out now before after old between new e grows none out =
    let un : IsUnanswered new = unanswered_left between new (ap (λ s. s.out) out.1) (ap (λ s. s.asked) out.1) none in
    let comes : Comes now before after old new (events.Refused (Core Memory)) = ([], between, grows, inr (refl, inl out.1), un) in
    subst (λ (v : Event). Comes now before after old new v) (sym out.0) comes

-- one call is what its read comes to
pub one_read : {T : Type 0} (known : T → Option (List ℕ)) (now : ℕ) (before after : Counts T) (old new : PeerView) (e : Event) → IsUnanswered old
    → Reads known now before after old new e → Comes now (known before.inner) (known after.inner) old new e
one_read known now before after old new e none reads =
    ⊎_elim
    (λ d. decided now (known before.inner) (known after.inner) old new e none d.0 d.1)
    (λ w. ⊎_elim
    (λ on. read_more known now before after old w.0 w.1 new e none on)
    (λ outs. ⊎_elim
    (λ out. memory_out now (known before.inner) (known after.inner) old old new e (grows_none old) none out)
    (λ out. memory_out now (known before.inner) (known after.inner) old (with_interim w.0.expects_continue old) new e
    (grows_interim old w.0 w.1 (with_interim w.0.expects_continue old) refl) (unanswered_still w.0.expects_continue old none) out)
    outs)
    w.2)
    reads

-- ---- several reads

refuses_behind : (now : ℕ) (before mid after : Option (List ℕ)) (old cur between new : PeerView) (g h : List ℕ) (e : Refused) → Grows old cur g
    → Consumes before mid g → Refuses now mid after cur between new h e → Refuses now before after old between new (g ++ h) e
refuses_behind now before mid after old cur between new g h e grows taken refuses =
    ⊎_elim
    (λ why. inl (
      consumes_more before mid after g h taken why.0,
      as_before (λ m k b. IsRefusedAt m k b after e) old cur g h grows why.1,
      why.2,
    ))
    (λ out. inr out)
    refuses

pub comes_behind : (now : ℕ) (before mid after : Option (List ℕ)) (old cur new : PeerView) (g : List ℕ) (e : Event) → Grows old cur g
    → Consumes before mid g → Comes now mid after cur new e → Comes now before after old new e
comes_behind now before mid after old cur new g events.Wait grows taken comes = (
  (g ++ comes.0.0, grows_more old cur new g comes.0.0 grows comes.0.1, consumes_more before mid after g comes.0.0 taken comes.0.2),
  comes.1,
)
comes_behind now before mid after old cur new g events.Again grows taken comes =
    (g ++ comes.0, grows_more old cur new g comes.0 grows comes.1, consumes_more before mid after g comes.0 taken comes.2)
comes_behind now before mid after old cur new g (events.Request r) grows taken comes = (
  g ++ comes.0,
  comes.1,
  grows_more old cur comes.1 g comes.0 grows comes.2,
  consumes_more before mid after g comes.0 taken comes.3,
  as_before (λ m k b. Says m k b r.status r.method r.head.items r.target.items r.body) old cur g comes.0 grows comes.4,
  comes.5,
  comes.6,
)
comes_behind now before mid after old cur new g (events.Refused e) grows taken comes = (
  g ++ comes.0,
  comes.1,
  grows_more old cur comes.1 g comes.0 grows comes.2,
  refuses_behind now before mid after old cur comes.1 new g comes.0 e grows taken comes.3,
  comes.4,
)
comes_behind now before mid after old cur new g events.Written grows taken comes = absurd comes
comes_behind now before mid after old cur new g events.Closed grows taken comes = (
  g ++ comes.0,
  comes.1,
  grows_more old cur comes.1 g comes.0 grows comes.2,
  consumes_more before mid after g comes.0 taken comes.3,
  comes.4,
)

-- ---- what is thrown away

abbrev sparing : ℕ → PeerView → PeerView
sparing n s = record s { spare = n }

throws_none : (s : PeerView) → Throws s s
throws_none s = (refl, omega arith)

throws_more : (old cur new : PeerView) → Throws old cur → Throws cur new → Throws old new
throws_more old cur new first second = (second.0 ∙ ap (sparing new.spare) first.0, omega (arith, first.1, second.1))

thrown : (old new : PeerView) (count : ℕ) → new ≡ record old { spare = old.spare - count } → Throws old new
thrown old new count left =
    let spare : new.spare ≡ old.spare - count = ap (λ s. s.spare) left in
    (left ∙ ap (λ n. sparing n old) (sym spare), omega arith)

stays_thrown : (old new : PeerView) → new ≡ old → Throws old new
stays_thrown old new same = (same ∙ ap (λ n. sparing n old) (sym (ap (λ s. s.spare) same)), omega (arith, ap (λ s. s.spare) same))

throws_behind : (old cur new : PeerView) (e : Event) → Throws old cur → Lingers cur new e → ThrowsOn old new e
throws_behind old cur new events.Wait throws lingers = throws_more old cur new throws (stays_thrown cur new lingers)
throws_behind old cur new events.Again throws lingers = throws_more old cur new throws (thrown cur new lingers.0 lingers.2)
throws_behind old cur new (events.Request r) throws lingers = absurd lingers
throws_behind old cur new (events.Refused e) throws lingers = absurd lingers
throws_behind old cur new events.Written throws lingers = absurd lingers
throws_behind old cur new events.Closed throws lingers = (cur, throws, lingers)

-- ---- the reads of a turn

-- one call, by the phase
pub record Called {T : Type 0} (known : T → Option (List ℕ)) (now : ℕ) (before after : Counts T) (old new : PeerView) (e : Event) : Type 0 where
  pub reading : old.phase ≡ phases.Reading → Reads known now before after old new e
  pub lingering : old.phase ≡ phases.Lingering → Lingers old new e
  pub quiet : is_quiet old.phase ≡ true → (new ≡ old) × (after ≡ before) × (e ≡ events.Wait)
  pub unanswered : is_open old.phase ≡ true → IsUnanswered old

-- what the calls so far left, of which nothing came, by the phase
pub record Went {T : Type 0} (known : T → Option (List ℕ)) (before after : Counts T) (old new : PeerView) : Type 0 where
  pub reading : old.phase ≡ phases.Reading → Continues (known before.inner) (known after.inner) old new
  pub lingering : old.phase ≡ phases.Lingering → Throws old new
  pub quiet : is_quiet old.phase ≡ true → (new ≡ old) × (after ≡ before)

pub went_none : {T : Type 0} (known : T → Option (List ℕ)) (stream : Counts T) (s : PeerView) → Went known stream stream s s
went_none known stream s =
    record {
      reading = λ is. ([], grows_none s, nothing_read (known stream.inner));
      lingering = λ is. throws_none s;
      quiet = λ is. (refl, refl);
    }

opened : (s : PeerView) → s.phase ≡ phases.Reading → is_open s.phase ≡ true
opened s is = ap is_open is

pub reads_end : {T : Type 0} (known : T → Option (List ℕ)) (now : ℕ) (before mid after : Counts T) (old cur new : PeerView) (e : Event)
    → Went known before mid old cur → Called known now mid after cur new e → old.phase ≡ phases.Reading
    → Comes now (known before.inner) (known after.inner) old new e
reads_end known now before mid after old cur new e went call is =
    let on = went.reading is in
    let still : cur.phase ≡ phases.Reading = phase_of_grown old cur on.0 on.1 ∙ is in
    comes_behind now (known before.inner) (known mid.inner) (known after.inner) old cur new on.0 e on.1 on.2
    (one_read known now mid after cur new e (call.unanswered (opened cur still)) (call.reading still))

pub throws_end : {T : Type 0} (known : T → Option (List ℕ)) (now : ℕ) (before mid after : Counts T) (old cur new : PeerView) (e : Event)
    → Went known before mid old cur → Called known now mid after cur new e → old.phase ≡ phases.Lingering → ThrowsOn old new e
throws_end known now before mid after old cur new e went call is =
    let throws = went.lingering is in
    let still : cur.phase ≡ phases.Lingering = ap (λ s. s.phase) throws.0 ∙ is in
    throws_behind old cur new e throws (call.lingering still)

pub quiet_end : {T : Type 0} (known : T → Option (List ℕ)) (now : ℕ) (before mid after : Counts T) (old cur new : PeerView) (e : Event)
    → Went known before mid old cur → Called known now mid after cur new e → is_quiet old.phase ≡ true
    → (new ≡ old) × (after ≡ before) × (e ≡ events.Wait)
quiet_end known now before mid after old cur new e went call is =
    let same = went.quiet is in
    let still : is_quiet cur.phase ≡ true = ap (λ s. is_quiet s.phase) same.0 ∙ is in
    let kept = call.quiet still in
    (kept.0 ∙ same.0, kept.1 ∙ same.1, kept.2)

pub went_more : {T : Type 0} (known : T → Option (List ℕ)) (now : ℕ) (before mid after : Counts T) (old cur new : PeerView) (e : Event)
    → Went known before mid old cur → Called known now mid after cur new e → e ≡ events.Again → Went known before after old new
went_more known now before mid after old cur new e went call again =
    record {
      reading = λ is. subst (λ (v : Event). Comes now (known before.inner) (known after.inner) old new v) again
          (reads_end known now before mid after old cur new e went call is);
      lingering = λ is. subst (λ (v : Event). ThrowsOn old new v) again (throws_end known now before mid after old cur new e went call is);
      quiet = λ is. let kept = quiet_end known now before mid after old cur new e went call is in (kept.0, kept.1);
    }

-- where nothing is read in this phase, no call comes to more
pub never_quiet : {T : Type 0} (known : T → Option (List ℕ)) (now : ℕ) (before mid after : Counts T) (old cur new : PeerView) (e : Event)
    → Went known before mid old cur → Called known now mid after cur new e → e ≡ events.Again → is_quiet old.phase ≡ true → ⊥
never_quiet known now before mid after old cur new e went call again is =
    let wait : events.Wait ≡ events.Again = sym (quiet_end known now before mid after old cur new e went call is).2 ∙ again in
    cc
