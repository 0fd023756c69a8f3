-- What the writes and the reads of a call come to.
use Rattle.std.proofs.Common.{length, ◌≡◌, ◌∙◌, ◌+◌, ◌-◌, ◌≤◌, ◌++◌, ℕ, Bool, List, [], Option, refl, sym, ap, subst, inl, inr, ⊎_elim, append_assoc, arith, take, drop}
use Rattle.std.proofs.lemmas.List.{append-nil, drop-drop, length-append, length-drop, length-take-le, take-append-drop, take_all}
use Rattle.std.specs.Io.KnownBytes.{Appends}
use Rattle.http_message.specs.Incoming.{IncomingView}
use Rattle.peers.proofs.Coming.{consumes_more}
use Rattle.peers.proofs.Giving.{appends_more, appends_nothing, front_grown, keeps_same}
use Rattle.peers.proofs.Reading.{nothing_read}
use Rattle.peers.specs.Exchange.{Exchange, ReadsTo, Receives, Sends, sent_bytes, unsent_bytes}
use Rattle.peers.specs.declared.progress.Progress.{Progress}
use Rattle.peers.specs.declared.progress.Progress.TheVariants as progresses

-- ---- the request

abbrev with_sent : ℕ → Bool → Exchange → Exchange
with_sent n w x = record x { done = n; writes = w }

sends_piece : (before after : Option (List ℕ)) (old new : Exchange) (piece : List ℕ) → Appends before after piece
    → unsent_bytes old ≡ piece ++ unsent_bytes new → new ≡ with_sent (old.done + length piece) new.writes old → Sends before after old new
sends_piece before after old new piece given front left =
    record {
      piece = piece;
      given = given;
      front = front;
      behind = ap sent_bytes left ∙ front_grown old.done old.request piece (front ∙ ap (λ x. piece ++ unsent_bytes x) left);
      left = left;
    }

pub sends_none : (known : Option (List ℕ)) (x : Exchange) → Sends known known x x
sends_none known x =
    let none : x.done ≡ x.done + 0 = omega arith in
    sends_piece known known x x [] (appends_nothing known known (keeps_same known)) refl (ap (λ n. with_sent n x.writes x) none)

pub sends_more : (a b c : Option (List ℕ)) (old cur new : Exchange) → Sends a b old cur → Sends b c cur new → Sends a c old new
sends_more a b c old cur new first second =
    let sum : (old.done + length first.piece) + length second.piece ≡ old.done + length (first.piece ++ second.piece) =
    omega (arith, length-append first.piece second.piece) in
    sends_piece a c old new (first.piece ++ second.piece) (appends_more a b c first.piece second.piece first.given second.given)
    (first.front ∙ ap (λ r. first.piece ++ r) second.front ∙ sym (append_assoc first.piece second.piece (unsent_bytes new)))
    (second.left ∙ ap (λ x. with_sent (x.done + length second.piece) new.writes x) first.left ∙ ap (λ n. with_sent n new.writes old) sum)

-- whether it writes next makes no difference
pub sends_then : (a b : Option (List ℕ)) (old cur new : Exchange) (w : Bool) → Sends a b old cur → new ≡ record cur { writes = w } → Sends a b old new
sends_then a b old cur new w sends is =
    sends_piece a b old new sends.piece sends.given (sends.front ∙ ap (λ x. sends.piece ++ unsent_bytes x) (sym is))
    (is ∙ ap (λ x. with_sent x.done w x) sends.left ∙ ap (λ v. with_sent (old.done + length sends.piece) v old) (sym (ap (λ x. x.writes) is)))

-- what is behind a place in a slice
pub rest_of : (xs request : List ℕ) (done : ℕ) → xs ≡ request → take (length xs - done) (drop done xs) ≡ drop done request
rest_of xs request done same =
    take_all (length xs - done) (drop done xs) (omega (arith, length-drop done xs)) ∙ ap (λ ys. drop done ys) same

-- one write of a front of what is to be written
pub sent_some : (before after : Option (List ℕ)) (old s : Exchange) (count : ℕ) (bytes : List ℕ) → s ≡ old → bytes ≡ drop s.done s.request
    → count ≤ length bytes → Appends before after (take count bytes) → Sends before after old (record s { done = s.done + count })
sent_some before after old s count bytes same is within given =
    let fewer : count ≤ length (drop s.done s.request) = omega (arith, ap length is) in
    let long : length (take count (drop s.done s.request)) ≡ count = length-take-le count (drop s.done s.request) fewer in
    subst (λ (o : Exchange). Sends before after o (record s { done = s.done + count })) same
    (sends_piece before after s (record s { done = s.done + count }) (take count (drop s.done s.request))
    (subst (λ (b : List ℕ). Appends before after (take count b)) is given)
    (sym (take-append-drop count (drop s.done s.request)) ∙ ap (λ r. take count (drop s.done s.request) ++ r) (drop-drop count s.done s.request))
    (ap (λ n. with_sent (s.done + n) s.writes s) (sym long)))

-- ---- the response

abbrev with_response : IncomingView → Bool → Exchange → Exchange
with_response came w x = record x { came = came; writes = w }

pub receives_none : (known : Option (List ℕ)) (x : Exchange) → Receives known known x x
receives_none known x =
    record {
      gained = [];
      taken = nothing_read known;
      kind = refl;
      most = refl;
      bytes = sym (append-nil x.came.bytes);
      left = refl;
    }

pub receives_more : (a b c : Option (List ℕ)) (old cur new : Exchange) → Receives a b old cur → Receives b c cur new → Receives a c old new
receives_more a b c old cur new first second =
    record {
      gained = first.gained ++ second.gained;
      taken = consumes_more a b c first.gained second.gained first.taken second.taken;
      kind = second.kind ∙ first.kind;
      most = second.most ∙ first.most;
      bytes = second.bytes ∙ ap (λ b. b ++ second.gained) first.bytes ∙ append_assoc old.came.bytes first.gained second.gained;
      left = second.left ∙ ap (with_response new.came new.writes) first.left;
    }

-- whether it writes next makes no difference
pub receives_then : (a b : Option (List ℕ)) (old cur new : Exchange) (w : Bool) → Receives a b old cur → new ≡ record cur { writes = w } → Receives a b old new
receives_then a b old cur new w receives is =
    record {
      gained = receives.gained;
      taken = receives.taken;
      kind = ap (λ x. x.came.kind) is ∙ receives.kind;
      most = ap (λ x. x.came.most) is ∙ receives.most;
      bytes = ap (λ x. x.came.bytes) is ∙ receives.bytes;
      left = is ∙ ap (λ x. with_response x.came w x) receives.left
          ∙ (λ i. with_response (ap (λ x. x.came) (sym is) i) (ap (λ x. x.writes) (sym is) i) old);
    }

pub reads_behind : (a b c : Option (List ℕ)) (old cur new : Exchange) (p : Progress) → Receives a b old cur → ReadsTo b c cur new p → ReadsTo a c old new p
reads_behind a b c old cur new progresses.Wait first then = (receives_more a b c old cur new first then.0, then.1)
reads_behind a b c old cur new progresses.Again first then = receives_more a b c old cur new first then
reads_behind a b c old cur new (progresses.Whole w) first then = (receives_more a b c old cur new first then.0, then.1)
reads_behind a b c old cur new (progresses.Failed e) first then =
    ⊎_elim (λ why. inl (receives_more a b c old cur new first why.0, why.1)) (λ out. inr out) then

pub reads_again : (a b c : Option (List ℕ)) (old cur new : Exchange) (p : Progress) → Receives a b old cur → ReadsTo b c cur new p → p ≡ progresses.Again
    → Receives a c old new
reads_again a b c old cur new p first then again =
    subst (λ (q : Progress). ReadsTo a c old new q) again (reads_behind a b c old cur new p first then)
