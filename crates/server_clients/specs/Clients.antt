-- The clients of `serve` by their numbers, and what is put back under one.
use Rattle.std.specs.Prelude.{◌≡◌, ◌≢◌, ℕ, ◌+◌, ◌-◌, ◌^◌, min, nat_le, Bool, false, List, [], ◌∷◌, Option, Some, None, Err, IfSome, String, string_bytes}
use Rattle.std.specs.Option.{option_map, option_map_or}
use Rattle.std.specs.declared.alloc.Global.{Global}
use Rattle.mio.specs.declared.net.stream.TcpStream.{TcpStream}
use Rattle.slab.specs.Slab.{Slab, Updates, get}
use Rattle.streams.specs.declared.refused.Refused.{Refused}
use Rattle.http_edge.specs.declared.served.Served.{Served}
use Rattle.http_message.specs.Status.{missing_status}
use Rattle.http_message.specs.Texts.{missing_text}
use Rattle.peers.specs.Client.{Connection}
use Rattle.peers.specs.Peer.{kept_bytes}
use Rattle.rounds.specs.Line.{IsAnswered, with_response}
use Rattle.rounds.specs.declared.answered.AnsweredClient.{AnsweredClient}
use Rattle.rounds.specs.declared.errand.Errand.{Errand}
use Rattle.rounds.specs.declared.receipt.Receipt.{Receipt}
use Rattle.rounds.specs.declared.waiting.WaitingClient.{WaitingClient}
use Rattle.server_clients.specs.declared.entry.Entry.{Entry}

-- ---- one client

-- the entry of a client with its connection
abbrev pub with_client : Connection TcpStream → Entry → Entry
with_client c e = record e { client = Some c; held = kept_bytes c.peer }

-- with what is told of its request
abbrev pub with_note : Option (String Global) → Served → Option Receipt → Entry → Entry
with_note path told taken e =
    record e { note = Some (record { path = path; told = told; taken = taken }) }

-- how many are kept of all, where this many are kept of the client in a place from now on
abbrev pub held_with : ℕ → Option Entry → ℕ → ℕ
held_with bytes None held = held
held_with bytes (Some e) held = min (held - e.held + bytes) (2 ^ 64 - 1)

-- the deadline of a client has come; one that waits for its response has none
abbrev pub is_overdue : ℕ → Entry → Bool
is_overdue now e = option_map_or (λ c. nat_le c.peer.deadline now) e.client false

-- at this number an entry is changed so, and no other is
pub record Changes (change : Entry → Entry) (key : ℕ) (old new : Slab Entry) : Type 0 where
  pub there : (e : Entry) → get old key ≡ Some e → get new key ≡ Some (change e)
  pub others : (other : ℕ) → other ≢ key → get new other ≡ get old other

-- a client is put back as it was answered, with a note; it is let go where memory ran out for the
-- response
abbrev pub IsPutBack : Option (Connection TcpStream) → Option (String Global) → AnsweredClient TcpStream
    → Slab Entry → Slab Entry → Type 0
IsPutBack (Some c) path a old new =
    Changes (λ e. with_client c (with_note path a.told a.taken e)) a.key old new
IsPutBack None path a old new = Updates old new a.key None

-- a client who was answered is put back under its own number, with a note that names this path
abbrev pub IsGivenBack : Option (List ℕ) → AnsweredClient TcpStream → Slab Entry → Slab Entry → Type 0
IsGivenBack named a old new =
    (path : Option (String Global)) × (option_map string_bytes path ≡ named)
    × IsPutBack a.client path a old new

-- a client whose request is refused for this has the response to that
abbrev pub IsRefused : ℕ → Refused → WaitingClient TcpStream → Slab Entry → Slab Entry → Type 0
IsRefused now e w old new =
    (a : AnsweredClient TcpStream) × IsAnswered now (Err e) w.key w.asked a × IsGivenBack None a old new

-- who waited has the response that no such controller is there, unless memory ran out for it
pub record TellsMissing (now : ℕ) (w : WaitingClient TcpStream) (a : AnsweredClient TcpStream) : Type 0 where
  pub same : a.key ≡ w.key
  pub response : IfSome a.client (λ c. c ≡ with_response missing_text now w.asked)
  pub told : a.told ≡ record { status = missing_status; refusal = None }
  pub untaken : a.taken ≡ None

-- a client whose request is for no controller that is there is told so
abbrev pub IsMissed : ℕ → WaitingClient TcpStream → Slab Entry → Slab Entry → Type 0
IsMissed now w old new =
    (a : AnsweredClient TcpStream) × TellsMissing now w a × IsGivenBack None a old new

-- ---- many, one after the other

-- this is so of each of these in turn, from what the clients are to what they are behind the last
abbrev pub InTurn : {X : Type 0} → (X → Slab Entry → Slab Entry → Type 0) → List X → Slab Entry
    → Slab Entry → Type 0
InTurn so [] old new = new ≡ old
InTurn so (x ∷ xs) old new = (mid : Slab Entry) × so x old mid × InTurn so xs mid new

-- these are put back
abbrev pub AreGivenBack : Option (List ℕ) → List (AnsweredClient TcpStream) → Slab Entry → Slab Entry
    → Type 0
AreGivenBack named answered old new = InTurn (IsGivenBack named) answered old new

-- those with these errands are told that no such controller is there
abbrev pub AreMissed : ℕ → List (Errand TcpStream) → Slab Entry → Slab Entry → Type 0
AreMissed now errands old new = InTurn (λ e. IsMissed now e.waiting) errands old new

-- those with these errands are let go
abbrev pub AreLetGo : List (Errand TcpStream) → Slab Entry → Slab Entry → Type 0
AreLetGo errands old new =
    InTurn (λ e before after. Updates before after e.waiting.key None) errands old new
