-- One request over a stream, and what came of it.
use Rattle.std.specs.Prelude.{◌⊎◌, ℕ, List, Option}
use Rattle.streams.specs.Counts.{Counts}
use Rattle.streams.specs.Ends.{IsUnread}
use Rattle.streams.specs.Streams.{IsInput, Writes, WritesFront, traffic}
use Rattle.streams.specs.declared.fault.Fault.{Fault}
use Rattle.etcd_wire.specs.Response.{Responds}

-- a request was written to a stream, whole, and this is all that came then, to the stream's end
pub record IsAnswered {S : Type 0} (remaining contents : S → Option (List ℕ)) (old new : Counts S)
    (request all : List ℕ) : Type 0 where
  pub between : Counts S
  pub sent : Writes (traffic contents old between) request
  pub came : IsInput (traffic remaining between new) all

-- a request was written, whole, and what came then wasn't read to its end
pub record IsUnanswered {S : Type 0} (remaining contents : S → Option (List ℕ)) (old new : Counts S)
    (request : List ℕ) : Type 0 where
  pub between : Counts S
  pub sent : Writes (traffic contents old between) request
  pub fault : Fault
  pub unread : IsUnread (traffic remaining between new) fault

-- the request wasn't written whole, or what came then wasn't read to its end
abbrev pub IsUnasked : {S : Type 0} → (S → Option (List ℕ)) → (S → Option (List ℕ)) → Counts S
    → Counts S → List ℕ → Type 0
IsUnasked remaining contents old new request =
    WritesFront (traffic contents old new) request ⊎ IsUnanswered remaining contents old new request

-- a response came, and this holds of its status and its body
pub record Hears {S : Type 0} (remaining contents : S → Option (List ℕ)) (old new : Counts S)
    (request : List ℕ) (Tells : ℕ → List ℕ → Type 0) : Type 0 where
  pub all : List ℕ
  pub answered : IsAnswered remaining contents old new request all
  pub status : ℕ
  pub body : List ℕ
  pub responds : Responds all status body
  pub tells : Tells status body

-- all that came is no response that is whole
pub record IsNoResponse {S : Type 0} (remaining contents : S → Option (List ℕ)) (old new : Counts S)
    (request : List ℕ) : Type 0 where
  pub all : List ℕ
  pub answered : IsAnswered remaining contents old new request all
  pub none : (status : ℕ) (body : List ℕ) → Responds all status body → ⊥

-- no response came
abbrev pub IsUnheard : {S : Type 0} → (S → Option (List ℕ)) → (S → Option (List ℕ)) → Counts S
    → Counts S → List ℕ → Type 0
IsUnheard remaining contents old new request =
    IsUnasked remaining contents old new request ⊎ IsNoResponse remaining contents old new request
