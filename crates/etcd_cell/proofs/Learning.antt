-- What a call of a cell in etcd learns, from what is heard over its connection.
use Rattle.std.proofs.Common.{◌≡◌, ◌⊎◌, inl, inr, ℕ, List, subst}
use Rattle.std.specs.Prelude.{Option, Some, Result, Ok, Err, IfOk, IsErr, OnErr, unwrap_or}
use Rattle.std.proofs.lemmas.Result.{IfOk-weaker, IfOk-from_err}
use Rattle.streams.specs.Counts.{Counts}
use Rattle.cells.specs.Chain.{Version, no_version}
use Rattle.etcd_wire.specs.Answer.{IsFound, Tells}
use Rattle.etcd_cell.specs.Cell.{Learns, LearnsNothing, TellsHeld, unused}
use Rattle.etcd_cell.specs.Exchange.{Hears, IsUnheard}

pub hears_as : {S : Type 0} {remaining contents : S → Option (List ℕ)} {old new : Counts S} {request : List ℕ} {P Q : ℕ → List ℕ → Type 0} → ((status : ℕ) (body : List ℕ) → P status body → Q status body) → Hears remaining contents old new request P → Hears remaining contents old new request Q
hears_as to h = record { all = h.all; answered = h.answered; status = h.status; body = h.body; responds = h.responds; tells = to h.status h.body h.tells }

pub learns_as : {S : Type 0} {remaining contents : S → Option (List ℕ)} {Connects : Option S → Type 0} {request : List ℕ} {P Q : ℕ → List ℕ → Type 0} → ((status : ℕ) (body : List ℕ) → P status body → Q status body) → Learns remaining contents Connects request P → Learns remaining contents Connects request Q
learns_as to l = record { stream = l.stream; made = l.made; after = l.after; hears = hears_as to l.hears }

-- over a connection that was made
pub learns : {S : Type 0} (remaining contents : S → Option (List ℕ)) (Connects : Option S → Type 0) (stream after : Counts S) (asked request : List ℕ) (P : ℕ → List ℕ → Type 0) → Connects (Some stream.inner) × (stream ≡ unused stream.inner) → Hears remaining contents stream after asked P → asked ≡ request → Learns remaining contents Connects request P
learns remaining contents Connects stream after asked request P made h same =
    record { stream = stream.inner; made = made.0; after = after; hears = subst (λ q. Hears remaining contents (unused stream.inner) after q P) same (subst (λ s. Hears remaining contents s after asked P) made.1 h) }

pub ignored : {S : Type 0} (remaining contents : S → Option (List ℕ)) (Connects : Option S → Type 0) (stream after : Counts S) (asked request : List ℕ) → Connects (Some stream.inner) × (stream ≡ unused stream.inner) → IsUnheard remaining contents stream after asked → asked ≡ request → LearnsNothing remaining contents Connects request
ignored remaining contents Connects stream after asked request made u same =
    inr (record { stream = stream.inner; made = made.0; after = after; unheard = subst (λ q. IsUnheard remaining contents (unused stream.inner) after q) same (subst (λ s. IsUnheard remaining contents s after asked) made.1 u) })

pub learns_if_ok : {S X E : Type 0} (remaining contents : S → Option (List ℕ)) (Connects : Option S → Type 0) (stream after : Counts S) (asked request : List ℕ) (P : X → ℕ → List ℕ → Type 0) (r : Result X E) → Connects (Some stream.inner) × (stream ≡ unused stream.inner) → IfOk r (λ x. Hears remaining contents stream after asked (P x)) → asked ≡ request → IfOk r (λ x. Learns remaining contents Connects request (P x))
learns_if_ok remaining contents Connects stream after asked request P r made h same =
    IfOk-weaker r _ _ (λ x heard. learns remaining contents Connects stream after asked request (P x) made heard same) h

pub learns_none : {S : Type 0} (remaining contents : S → Option (List ℕ)) (Connects : Option S → Type 0) (stream after : Counts S) (asked request : List ℕ) (P : ℕ → List ℕ → Type 0) → Connects (Some stream.inner) × (stream ≡ unused stream.inner) → IsUnheard remaining contents stream after asked ⊎ Hears remaining contents stream after asked P → asked ≡ request → LearnsNothing remaining contents Connects request ⊎ Learns remaining contents Connects request P
learns_none remaining contents Connects stream after asked request P made (inl u) same = inl (ignored remaining contents Connects stream after asked request made u same)
learns_none remaining contents Connects stream after asked request P made (inr h) same = inr (learns remaining contents Connects stream after asked request P made h same)

-- what is held, by what was found
pub held_if_ok : {S E F : Type 0} (remaining contents : S → Option (List ℕ)) (Connects : Option S → Type 0) (request : List ℕ) (found : Result (Option Version) E) (r : Result Version F) → IfOk found (λ f. Learns remaining contents Connects request (λ status body. Tells status body (λ _ j. IsFound j f))) → IfOk found (λ f. IfOk r (λ v. v ≡ unwrap_or f no_version)) → OnErr found (IsErr r) → IfOk r (λ v. Learns remaining contents Connects request (λ status body. TellsHeld status body v))
held_if_ok remaining contents Connects request (Ok f) r l is none = IfOk-weaker r _ _ (λ v same. learns_as (λ s b t. (f, t, same)) l) is
held_if_ok remaining contents Connects request (Err e) r l is none = IfOk-from_err r _ none
