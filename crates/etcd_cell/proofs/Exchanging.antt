-- One request over a stream, from its parts.
use Rattle.std.proofs.Common.{◌≡◌, inr, ℕ, List, sym, subst, ◌∙◌, ap}
use Rattle.std.specs.Prelude.{Option, Result, IfOk}
use Rattle.std.proofs.lemmas.Result.{IfOk-weaker}
use Rattle.http_message.specs.Texts.{request_to}
use Rattle.streams.specs.Counts.{Counts}
use Rattle.streams.specs.Ends.{IsUnread}
use Rattle.streams.specs.Streams.{Writes, traffic}
use Rattle.streams.specs.declared.fault.Fault.{Fault}
use Rattle.etcd_wire.specs.Response.{Responds}
use Rattle.etcd_cell.specs.Exchange.{Hears, IsAnswered, IsUnasked, IsUnheard}

pub asked_so : (host gateway target bytes text : List ℕ) → host ≡ gateway → bytes ≡ text → request_to host target bytes ≡ request_to gateway target text
asked_so host gateway target bytes text same_host same_text = ap (λ h. request_to h target bytes) same_host ∙ ap (request_to gateway target) same_text

pub unanswered : {S : Type 0} (remaining contents : S → Option (List ℕ)) (old between new : Counts S) (request : List ℕ) (fault : Fault) → Writes (traffic contents old between) request → IsUnread (traffic remaining between new) fault → IsUnasked remaining contents old new request
unanswered remaining contents old between new request fault sent unread = inr (record { between = between; sent = sent; fault = fault; unread = unread })

pub unheard : {S : Type 0} (remaining contents : S → Option (List ℕ)) (old new : Counts S) (request all : List ℕ) → IsAnswered remaining contents old new request all → ((status : ℕ) (body : List ℕ) → Responds all status body → ⊥) → IsUnheard remaining contents old new request
unheard remaining contents old new request all answer none = inr (record { all = all; answered = answer; none = none })

-- what was heard tells what its status and its body tell
pub tells_on : {S : Type 0} (remaining contents : S → Option (List ℕ)) (old new : Counts S) (request : List ℕ) (status : ℕ) (body : List ℕ) (P : ℕ → List ℕ → Type 0) → Hears remaining contents old new request (λ s b. (s ≡ status) × (b ≡ body)) → P status body → Hears remaining contents old new request P
tells_on remaining contents old new request status body P h tells =
    record {
      all = h.all;
      answered = h.answered;
      status = h.status;
      body = h.body;
      responds = h.responds;
      tells = subst (λ s. P s h.body) (sym h.tells.0) (subst (λ b. P status b) (sym h.tells.1) tells);
    }

pub tells_if_ok : {S X E : Type 0} {remaining contents : S → Option (List ℕ)} {old new : Counts S} {asked request : List ℕ} (status : ℕ) (body : List ℕ) (P : X → ℕ → List ℕ → Type 0) (r : Result X E) → asked ≡ request → Hears remaining contents old new asked (λ s b. (s ≡ status) × (b ≡ body)) → IfOk r (λ x. P x status body) → IfOk r (λ x. Hears remaining contents old new request (P x))
tells_if_ok {S} {X} {E} {remaining} {contents} {old} {new} {asked} {request} status body P r same h =
    IfOk-weaker r _ _ (λ x told. tells_on remaining contents old new request status body (P x) (subst (λ q. Hears remaining contents old new q (λ s b. (s ≡ status) × (b ≡ body))) same h) told)
