-- A decoder that is handed all that is left, over and over.
use Rattle.std.proofs.Common.{◌≡◌, ◌≢◌, ℕ, ◌≤◌, ◌++◌, ◌-◌, List, [], length, take, drop, sym, ◌∙◌, refl, ap, subst, subst₂, arith}
use Rattle.std.proofs.lemmas.List.{append-nil, append_assoc, length-drop, length-map, length-take-le}
use Rattle.std.proofs.Math.Seq.{take-length}
use Rattle.std.specs.Prelude.{Ok}
use Rattle.httparse.specs.Grammar.{ResponseHead}
use Rattle.httparse.proofs.GrammarLemmas.{response_unique}
use Rattle.httparse.specs.Spans.{header_bytes, name_and_value}
use Rattle.httparse.specs.declared.spans.HeaderSpan.{HeaderSpan}
use Rattle.http1.specs.declared.decode.Decoder.{Decoder}
use Rattle.http1.specs.declared.decode.Decoder.TheVariants.{Length, Chunked, UntilClose}
use Rattle.http1.specs.declared.framing.Framing.{Framing}
use Rattle.http1.specs.declared.framing.Framing.TheVariants as framed
use Rattle.http1.specs.Body.{Body, body_of}
use Rattle.http1.specs.Decoder.{Completes, Continues, Ends, HasNoBody, Runs, Starves, decoder_for, with_front}
use Rattle.http1.proofs.OneParse.{body_from_completes, completes_from_body}
use Rattle.http1.specs.Framing.{response_framing}
use Rattle.http1.specs.Message.{known_of}
use Rattle.http1.specs.declared.framing.MethodKind.TheVariants.{Other}
use Rattle.httparse.specs.Grammar.{status_code}
use Rattle.etcd_wire.specs.Response.{HasBody, HasHead, limits}

-- from one decoder with all of the bytes to another with the rest of them, this piece was decoded
pub record Reaches (old : Decoder) (all : List ℕ) (new : Decoder) (rest piece : List ℕ) : Type 0 where
  pub back : (body : Body) (q : List ℕ) → Completes new rest body q → Completes old all (with_front piece body) q
  pub forth : (whole : Body) (q : List ℕ) → Completes old all whole q → (body : Body) × (whole ≡ with_front piece body) × Completes new rest body q

-- what stands from there to the end
pub to_end : (n : ℕ) (l : List ℕ) → take (length l - n) (drop n l) ≡ drop n l
to_end n l = subst (λ k. take k (drop n l) ≡ drop n l) (length-drop n l) (take-length (drop n l))

pub reaches_start : (d : Decoder) (all : List ℕ) → Reaches d all d all []
reaches_start d all = record { back = λ body q c. c; forth = λ whole q c. (whole, refl, c) }

pub reaches_on : (old d new : Decoder) (all rest piece : List ℕ) (len : ℕ) (next : List ℕ) → Reaches old all d rest piece → Continues d rest new len next → Reaches old all new (drop len rest) (piece ++ next)
reaches_on old d new all rest piece len next r k =
    let none : rest ++ [] ≡ rest = append-nil rest in
    let left : drop len rest ++ [] ≡ drop len rest = append-nil (drop len rest) in
    let joined : (body : Body) → with_front piece (with_front next body) ≡ with_front (piece ++ next) body = λ body. ap (λ bytes. record body { bytes = bytes }) (sym (append_assoc piece next body.bytes)) in
    record {
      back = λ body q c.
          subst (λ b. Completes old all b q) (joined body)
          (r.back (with_front next body) q (subst (λ s. Completes d s (with_front next body) q) none (k.back [] body q (subst (λ s. Completes new s body q) (sym left) c))));
      forth = λ whole q c.
          let first = r.forth whole q c in
          let second = k.forth [] first.0 q (subst (λ s. Completes d s first.0 q) (sym none) first.2) in
          (second.0, first.1 ∙ (ap (with_front piece) second.1 ∙ joined second.0), subst (λ s. Completes new s second.0 q) left second.2);
    }

-- a decoder whose body tells where it ends goes on as one
pub runs_on : (d new : Decoder) (rest : List ℕ) (len : ℕ) (piece : List ℕ) → d ≢ UntilClose → Runs d rest new len piece → new ≢ UntilClose
runs_on (Length left) new rest len piece ends runs = λ is. absurd (cc (sym runs ∙ is))
runs_on (Chunked chunks max) new rest len piece ends runs = λ is. absurd (cc (sym runs.1 ∙ is))
runs_on UntilClose new rest len piece ends runs = absurd (ends refl)

pub begins : (framing : Framing) → framing ≢ framed.UntilClose → decoder_for limits framing ≢ UntilClose
begins framed.NoBody ends = λ is. absurd (cc is)
begins (framed.Length n) ends = λ is. absurd (cc is)
begins framed.Chunked ends = λ is. absurd (cc is)
begins framed.UntilClose ends = absurd (ends refl)

-- the body once its end came
pub has_body : (framing : Framing) (d : Decoder) (all rest piece : List ℕ) (spans : List HeaderSpan) (len count : ℕ) → length spans ≡ 64 → Reaches (decoder_for limits framing) all d rest piece → Ends d rest spans len count → HasBody framing all piece
has_body framing d all rest piece spans len count room r e =
    let ended = r.back (body_of [] e.trailers) (drop len rest) (subst₂ (λ s q. Completes d s (body_of [] e.trailers) q) (append-nil rest) (append-nil (drop len rest)) (e.completes [])) in
    let count_is : length e.trailers ≡ length (take count spans) = sym (length-map e.trailers name_and_value) ∙ (sym (ap length e.covered) ∙ length-map (take count spans) (header_bytes rest)) in
    let taken : length (take count spans) ≡ count = length-take-le count spans e.within.count_fits in
    let room_is : count ≤ length spans = e.within.count_fits in
    record {
      body = with_front piece (body_of [] e.trailers);
      rest = drop len rest;
      reads = body_from_completes limits framing all _ _ ended;
      few = omega (arith, count_is, taken, room_is, room);
      are = sym (append-nil piece);
    }

-- none is there where the decoder waits for more, or fails
pub has_none : (framing : Framing) (d new : Decoder) (all rest piece : List ℕ) (len : ℕ) → d ≢ UntilClose → Reaches (decoder_for limits framing) all d rest piece → Starves d rest new len → (bytes : List ℕ) → HasBody framing all bytes → ⊥
has_none framing d new all rest piece len ends r s bytes h =
    let left = r.forth h.body h.rest (completes_from_body limits framing all h.body h.rest h.reads) in
    s.unfinished ends left.0 h.rest left.2

pub has_failed : (framing : Framing) (d : Decoder) (all rest piece : List ℕ) (room : ℕ) → room ≡ 64 → Reaches (decoder_for limits framing) all d rest piece → HasNoBody d rest room → (bytes : List ℕ) → HasBody framing all bytes → ⊥
has_failed framing d all rest piece room is r none bytes h =
    let left = r.forth h.body h.rest (completes_from_body limits framing all h.body h.rest h.reads) in
    let more = none [] left.0 h.rest (subst (λ s. Completes d s left.0 h.rest) (sym (append-nil rest)) left.2) in
    let same : h.body.trailers ≡ left.0.trailers = ap (λ b. b.trailers) left.1 in
    let few = h.few in
    let few_left = subst (λ t. length t ≤ 64) same few in
    omega (arith, more, few_left, is)

-- one head alone stands in front
pub one_head : (all : List ℕ) (status code : ℕ) (a b : Framing) (behind rest : List ℕ) → HasHead all status a behind → HasHead all code b rest → (a ≡ b) × (behind ≡ rest)
one_head all status code a b behind rest h k =
    let same = response_unique all h.head k.head behind rest h.reads k.reads in
    let code_is : status ≡ code = h.code ∙ (ap status_code same.0 ∙ sym k.code) in
    let framed : Ok a ≡ Ok b =
    sym h.framed
    ∙ (ap (λ (head : ResponseHead). response_framing Other status head.minor (known_of head.fields)) same.0
    ∙ (ap (λ s. response_framing Other s k.head.minor (known_of k.head.fields)) code_is
    ∙ k.framed)) in
    (cc framed, same.1)

-- what stands behind the one head has no such body
pub has_no_response : (all : List ℕ) (status code : ℕ) (a b : Framing) (behind rest bytes : List ℕ) → HasHead all status a behind → ((bytes : List ℕ) → HasBody a behind bytes → ⊥) → HasHead all code b rest → HasBody b rest bytes → ⊥
has_no_response all status code a b behind rest bytes h none k body =
    let same = one_head all status code a b behind rest h k in
    none bytes (subst₂ (λ f s. HasBody f s bytes) (sym same.0) (sym same.1) body)
