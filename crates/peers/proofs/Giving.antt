-- What the writes of a turn come to.
use Rattle.std.proofs.Common.{length, ◌≡◌, ◌⊎◌, ◌∙◌, ◌+◌, ◌≤◌, ◌++◌, ℕ, Bool, true, false, List, [], Option, Some, None, refl, sym, ap, subst, ⊎_elim, append_assoc, arith, take, drop}
use Rattle.std.proofs.lemmas.List.{append-nil, drop-drop, length-append, length-drop, length-take-le, append_cancel_right, take-append-drop, take_all}
use Rattle.std.proofs.lemmas.Bool.{false≢true}
use Rattle.std.proofs.lemmas.Bool.Decides.{nat_tests}
use Rattle.std.specs.Prelude.{◌&&◌, if◌then◌else◌, nat_le}
use Rattle.std.specs.Io.KnownBytes.{Appends, Keeps}
use Rattle.streams.specs.Counts.{Counts}
use Rattle.peers.specs.Calls.{Gives, GivesAll, GivesOn, unwritten_bytes}
use Rattle.peers.specs.Peer.{Advances, PeerView, Writes, after_response, is_finished, is_writing, with_more_written, written_bytes}
use Rattle.peers.specs.declared.event.Event.{Event}
use Rattle.peers.specs.declared.event.Event.TheVariants as events
use Rattle.peers.specs.declared.phase.Phase.{Phase}
use Rattle.peers.specs.declared.phase.Phase.TheVariants as phases

-- ---- bytes that are appended

pub appends_nothing : (before after : Option (List ℕ)) → Keeps before after → Appends before after []
appends_nothing None after keeps = tt
appends_nothing (Some x) None keeps = absurd keeps
appends_nothing (Some x) (Some y) keeps = keeps ∙ sym (append-nil x)

pub keeps_same : (known : Option (List ℕ)) → Keeps known known
keeps_same None = tt
keeps_same (Some x) = refl

pub appends_more : (a b c : Option (List ℕ)) (p q : List ℕ) → Appends a b p → Appends b c q → Appends a c (p ++ q)
appends_more None b c p q first second = tt
appends_more (Some x) None c p q first second = absurd first
appends_more (Some x) (Some y) None p q first second = absurd second
appends_more (Some x) (Some y) (Some z) p q first second = second ∙ ap (λ r. r ++ q) first ∙ append_assoc x p q

-- ---- fronts of what is to be written

abbrev with_done : ℕ → PeerView → PeerView
with_done n s = record s { done = n }

again_is_not : events.Again ≡ events.Written → ⊥
again_is_not is = cc

sameness : (a b : ℕ) → b ≤ a → a ≤ b → a ≡ b
sameness a b more less = omega arith

-- what was written is a front that grew by the piece
pub front_grown : (done : ℕ) (out piece : List ℕ) → drop done out ≡ piece ++ drop (done + length piece) out
    → take (done + length piece) out ≡ take done out ++ piece
front_grown done out piece front =
    let rest : List ℕ = drop (done + length piece) out in
    append_cancel_right (take (done + length piece) out) (take done out ++ piece) rest
    (take-append-drop (done + length piece) out ∙ sym (take-append-drop done out) ∙ ap (λ r. take done out ++ r) front
    ∙ sym (append_assoc (take done out) piece rest))

gives_piece : (before after : Option (List ℕ)) (old new : PeerView) (piece : List ℕ) → Appends before after piece
    → unwritten_bytes old ≡ piece ++ unwritten_bytes new → new ≡ with_more_written (length piece) old
    → (is_finished old ≡ false → is_finished new ≡ false) → Gives before after old new
gives_piece before after old new piece given front left unfinished =
    record {
      piece = piece;
      given = given;
      front = front;
      behind = ap written_bytes left ∙ front_grown old.done old.out piece (front ∙ ap (λ s. piece ++ unwritten_bytes s) left);
      left = left;
      unfinished = unfinished;
    }

pub gives_still : (before after : Option (List ℕ)) (old new : PeerView) → Keeps before after → new ≡ old → Gives before after old new
gives_still before after old new keeps same =
    let none : old.done ≡ old.done + 0 = omega arith in
    gives_piece before after old new [] (appends_nothing before after keeps) (ap unwritten_bytes (sym same))
    (same ∙ ap (λ n. with_done n old) none) (λ isnt. ap is_finished same ∙ isnt)

pub gives_none : (known : Option (List ℕ)) (s : PeerView) → Gives known known s s
gives_none known s = gives_still known known s s (keeps_same known) refl

pub gives_more : (a b c : Option (List ℕ)) (old cur new : PeerView) → Gives a b old cur → Gives b c cur new → Gives a c old new
gives_more a b c old cur new first second =
    let sum : (old.done + length first.piece) + length second.piece ≡ old.done + length (first.piece ++ second.piece) =
    omega (arith, length-append first.piece second.piece) in
    gives_piece a c old new (first.piece ++ second.piece) (appends_more a b c first.piece second.piece first.given second.given)
    (first.front ∙ ap (λ r. first.piece ++ r) second.front ∙ sym (append_assoc first.piece second.piece (unwritten_bytes new)))
    (second.left ∙ ap (with_more_written (length second.piece)) first.left ∙ ap (λ n. with_done n old) sum)
    (λ isnt. second.unfinished (first.unfinished isnt))

-- ---- one write

-- so many bytes of what is to be written are so many
front_length : (count : ℕ) (s : PeerView) → s.done + count ≤ length s.out → length (take count (unwritten_bytes s)) ≡ count
front_length count s within = length-take-le count (unwritten_bytes s) (omega (arith, length-drop s.done s.out))

gives_front : (before after : Option (List ℕ)) (count : ℕ) (old new : PeerView) → old.done + count ≤ length old.out
    → Appends before after (take count (drop old.done old.out)) → new ≡ with_more_written count old → is_finished (with_more_written count old) ≡ false
    → Gives before after old new
gives_front before after count old new within given left isnt =
    let rest : drop count (unwritten_bytes old) ≡ unwritten_bytes new = drop-drop count old.done old.out ∙ ap unwritten_bytes (sym left) in
    gives_piece before after old new (take count (unwritten_bytes old)) given
    (sym (take-append-drop count (unwritten_bytes old)) ∙ ap (λ r. take count (unwritten_bytes old) ++ r) rest)
    (left ∙ ap (λ n. with_more_written n old) (sym (front_length count old within))) (λ was. ap is_finished left ∙ isnt)

again_left : (b : Bool) (now count : ℕ) (old new : PeerView) → new ≡ (if b then after_response now (with_more_written count old) else with_more_written count old)
    → events.Again ≡ (if b then events.Written else events.Again) → new ≡ with_more_written count old
again_left true now count old new left is = absurd (again_is_not is)
again_left false now count old new left is = left

again_unfinished : (b : Bool) → events.Again ≡ (if b then events.Written else events.Again) → b ≡ false
again_unfinished true is = absurd (again_is_not is)
again_unfinished false is = refl

-- the write of a front, behind which more is to be written
one_front : (now : ℕ) (before after : Option (List ℕ)) (old new : PeerView) → Advances before after now old new events.Again
    → Gives before after old new
one_front now before after old new a =
    gives_front before after a.count old new a.within a.given
    (again_left (is_finished (with_more_written a.count old)) now a.count old new a.left a.event)
    (again_unfinished (is_finished (with_more_written a.count old)) a.event)

one_again : (now : ℕ) (before after : Option (List ℕ)) (old new : PeerView) (P : Type 0)
    → (((new ≡ old) × Keeps before after) × P) ⊎ Advances before after now old new events.Again → Gives before after old new
one_again now before after old new P writes =
    ⊎_elim (λ s. gives_still before after old new s.0.1 s.0.0) (λ a. one_front now before after old new a) writes

-- ---- the last write

written_finished : (b : Bool) → events.Written ≡ (if b then events.Written else events.Again) → b ≡ true
written_finished true is = refl
written_finished false is = absurd (again_is_not (sym is))

written_left : (b : Bool) (now count : ℕ) (old new : PeerView) → new ≡ (if b then after_response now (with_more_written count old) else with_more_written count old)
    → b ≡ true → new ≡ after_response now (with_more_written count old)
written_left true now count old new left is = left
written_left false now count old new left is = absurd (false≢true is)

both_true : (a b : Bool) → (a && b) ≡ true → (a ≡ true) × (b ≡ true)
both_true true b is = (refl, is)
both_true false b is = absurd (false≢true is)

writing_is : (p : Phase) → is_writing p ≡ true → p ≡ phases.Writing
writing_is phases.Reading is = absurd (false≢true is)
writing_is phases.Waiting is = absurd (false≢true is)
writing_is phases.Writing is = refl
writing_is phases.Lingering is = absurd (false≢true is)
writing_is phases.Closed is = absurd (false≢true is)

nat_le_is : (a b : ℕ) → nat_le a b ≡ true → a ≤ b
nat_le_is a b is = grind (arith, nat_tests)

-- the last write, behind those of a front
gives_last : (now : ℕ) (before mid after : Option (List ℕ)) (old cur new : PeerView) → Gives before mid old cur
    → Advances mid after now cur new events.Written → GivesAll now before after old new
gives_last now before mid after old cur new gives a =
    let finished = written_finished (is_finished (with_more_written a.count cur)) a.event in
    let both = both_true (is_writing cur.phase) (nat_le (length cur.out) (cur.done + a.count)) finished in
    let all : length cur.out ≤ cur.done + a.count = nat_le_is (length cur.out) (cur.done + a.count) both.1 in
    let left : new ≡ after_response now (with_more_written a.count cur) = written_left (is_finished (with_more_written a.count cur)) now a.count cur new a.left finished in
    let whole : take a.count (unwritten_bytes cur) ≡ unwritten_bytes cur = take_all a.count (unwritten_bytes cur) (omega (arith, length-drop cur.done cur.out)) in
    let out : cur.out ≡ old.out = ap (λ s. s.out) gives.left in
    let done : cur.done + a.count ≡ length old.out = sameness (cur.done + a.count) (length cur.out) all a.within ∙ ap length out in
    record {
      phase = sym (ap (λ s. s.phase) gives.left) ∙ writing_is cur.phase both.0;
      given = subst (λ (p : List ℕ). Appends before after p) (ap (λ r. gives.piece ++ r) whole ∙ sym gives.front)
          (appends_more before mid after gives.piece (take a.count (unwritten_bytes cur)) gives.given a.given);
      left = left ∙ ap (λ n. after_response now (with_done n cur)) done ∙ ap (λ s. after_response now (with_done (length old.out) s)) gives.left;
    }

-- ---- several writes

pub writes_end : {T : Type 0} (held : T → Option (List ℕ)) (now : ℕ) (before mid after : Counts T) (old cur new : PeerView) (e : Event)
    → Gives (held before.inner) (held mid.inner) old cur → Writes held now mid after cur new e
    → GivesOn now (held before.inner) (held after.inner) old new e
writes_end held now before mid after old cur new events.Wait gives writes =
    gives_more (held before.inner) (held mid.inner) (held after.inner) old cur new gives
    (gives_still (held mid.inner) (held after.inner) cur new writes.0.1 writes.0.0)
writes_end held now before mid after old cur new events.Again gives writes =
    gives_more (held before.inner) (held mid.inner) (held after.inner) old cur new gives
    (one_again now (held mid.inner) (held after.inner) cur new _ writes)
writes_end held now before mid after old cur new (events.Request r) gives writes = absurd writes
writes_end held now before mid after old cur new (events.Refused e) gives writes = absurd writes
writes_end held now before mid after old cur new events.Written gives writes =
    gives_last now (held before.inner) (held mid.inner) (held after.inner) old cur new gives writes
writes_end held now before mid after old cur new events.Closed gives writes = (
  cur,
  gives_more (held before.inner) (held mid.inner) (held after.inner) old cur cur gives
      (gives_still (held mid.inner) (held after.inner) cur cur writes.1 refl),
  writes.0,
)

pub writes_more : {T : Type 0} (held : T → Option (List ℕ)) (now : ℕ) (before mid after : Counts T) (old cur new : PeerView) (e : Event)
    → Gives (held before.inner) (held mid.inner) old cur → Writes held now mid after cur new e → e ≡ events.Again
    → Gives (held before.inner) (held after.inner) old new
writes_more held now before mid after old cur new e gives writes again =
    subst (λ (v : Event). GivesOn now (held before.inner) (held after.inner) old new v) again
    (writes_end held now before mid after old cur new e gives writes)
