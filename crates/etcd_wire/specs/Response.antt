-- The response to a POST, of HTTP/1.1, that bytes begin with.
use Rattle.std.specs.Prelude.{◌≡◌, ◌≢◌, ◌≤◌, ℕ, List, length, Ok}
use Rattle.httparse.specs.Grammar.{ResponseHead, ReadsResponse, status_code}
use Rattle.http1.specs.declared.conn.Limits.{Limits}
use Rattle.http1.specs.declared.framing.Framing.{Framing}
use Rattle.http1.specs.declared.framing.Framing.TheVariants.{UntilClose}
use Rattle.http1.specs.declared.framing.MethodKind.TheVariants.{Other}
use Rattle.http1.specs.Body.{Body, ReadsBody}
use Rattle.http1.specs.Framing.{response_framing}
use Rattle.http1.specs.Message.{known_of}
use Rattle.etcd_wire.specs.declared.response.TheConstants.{MAX_FIELDS}

-- the most bytes that the extensions of a body's chunks have, and its trailers
abbrev pub limits : Limits
limits = record { max_head_len = 16384; max_extensions_len = 16384; max_trailers_len = 16384 }

-- a head of this status stands in front, and tells where the body behind it ends
pub record HasHead (all : List ℕ) (status : ℕ) (framing : Framing) (behind : List ℕ) : Type 0 where
  pub head : ResponseHead
  pub reads : ReadsResponse all head behind
  pub few : length head.fields ≤ MAX_FIELDS
  pub code : status ≡ status_code head
  pub framed : response_framing Other status head.minor (known_of head.fields) ≡ Ok framing
  pub ends : framing ≢ UntilClose

-- a body of these bytes stands in front, whole
pub record HasBody (framing : Framing) (behind bytes : List ℕ) : Type 0 where
  pub body : Body
  pub rest : List ℕ
  pub reads : ReadsBody limits framing behind body rest
  pub few : length body.trailers ≤ MAX_FIELDS
  pub are : bytes ≡ body.bytes

-- a response of this status and body stands in front, whole
pub record Responds (all : List ℕ) (status : ℕ) (body : List ℕ) : Type 0 where
  pub framing : Framing
  pub behind : List ℕ
  pub head : HasHead all status framing behind
  pub carries : HasBody framing behind body
