-- The value under a key of etcd: what is asked of it, over a connection for each call.
use Rattle.std.specs.Prelude.{◌≡◌, ◌⊎◌, ℕ, List, Option, Some, None, unwrap_or}
use Rattle.streams.specs.Counts.{Counts}
use Rattle.cells.specs.Chain.{Version, no_version}
use Rattle.etcd_wire.specs.Answer.{IsFound, Tells}
use Rattle.etcd_cell.specs.Exchange.{Hears, IsUnheard}

-- a gateway, a key there, and what makes connections
pub record EtcdCellView (C : Type 0) : Type 0 where
  pub connector : C
  pub gateway : List ℕ
  pub key : List ℕ

-- a stream of which no call was made
abbrev pub unused : {S : Type 0} → S → Counts S
unused stream = record { inner = stream; calls = 0; failures = 0; interruptions = 0 }

-- a connection was made, over which this was asked, and what was heard tells so
pub record Learns {S : Type 0} (remaining contents : S → Option (List ℕ))
    (Connects : Option S → Type 0) (request : List ℕ) (Tells : ℕ → List ℕ → Type 0) : Type 0 where
  pub stream : S
  pub made : Connects (Some stream)
  pub after : Counts S
  pub hears : Hears remaining contents (unused stream) after request Tells

-- a connection was made, over which this was asked, and no response came
pub record IsIgnored {S : Type 0} (remaining contents : S → Option (List ℕ))
    (Connects : Option S → Type 0) (request : List ℕ) : Type 0 where
  pub stream : S
  pub made : Connects (Some stream)
  pub after : Counts S
  pub unheard : IsUnheard remaining contents (unused stream) after request

-- no connection was made, or no response came over one
abbrev pub LearnsNothing : {S : Type 0} → (S → Option (List ℕ)) → (S → Option (List ℕ))
    → (Option S → Type 0) → List ℕ → Type 0
LearnsNothing remaining contents Connects request =
    Connects None ⊎ IsIgnored remaining contents Connects request

-- a status and a body tell that this is what is held, which is no value yet where nothing was found
abbrev pub TellsHeld : ℕ → List ℕ → Version → Type 0
TellsHeld status body v =
    (found : Option Version) × Tells status body (λ _ j. IsFound j found)
    × (v ≡ unwrap_or found no_version)
