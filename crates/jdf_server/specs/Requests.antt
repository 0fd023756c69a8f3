-- What becomes of a client's request: who may send it, and where the client stands then.
use Rattle.std.specs.Prelude.{◌≡◌, ◌⊎◌, ◌&&◌, ℕ, Bool, true, false, not, List, Option, Some, None, Ok, codes, is_some, bytes_eq}
use Rattle.std.specs.Option.{option_map}
use Rattle.mio.specs.declared.net.stream.TcpStream.{TcpStream}
use Rattle.slab.specs.Slab.{Slab, Updates}
use Rattle.url.specs.Parts.{Parts}
use Rattle.ticket_items.specs.declared.refusal.Refusal.{Refusal}
use Rattle.controller.specs.declared.message.Message.{Message}
use Rattle.jmf_message.specs.Decoded.{IsDecodedAs, IsRefusalOf}
use Rattle.streams.specs.declared.refused.Refused.TheVariants.{Core, Forbidden}
use Rattle.stored_state.specs.declared.coming.Coming.{Coming}
use Rattle.stored_state.specs.declared.coming.Coming.TheVariants as comings
use Rattle.http_message.specs.Message.{HasLone}
use Rattle.http_message.specs.declared.received.Received.{Received}
use Rattle.peers.specs.declared.turn.Turn.{Turn}
use Rattle.peers.specs.declared.turn.Turn.TheVariants as turns
use Rattle.peers_file.specs.Table.{IsUrlOf, Rows}
use Rattle.rounds.specs.declared.waiting.WaitingClient.{WaitingClient}
use Rattle.server_clients.specs.Clients.{Changes, IsMissed, IsRefused, with_client}
use Rattle.server_steps.specs.Routes.{LeadsNowhere, LeadsTo, LeadsToFile}
use Rattle.jdf_server.specs.Lines.{Joins}
use Rattle.server_clients.specs.declared.entry.Entry.{Entry}
use Rattle.shop_folder.specs.declared.place.Place.{Place}
use Rattle.shop_folder.specs.declared.place.Place.TheVariants as places
use Rattle.server_steps.specs.declared.route.Route.{Route}
use Rattle.jdf_server.specs.declared.server.Server.{Server}

-- ---- who may send

-- whether a field tells this sender, if there is one
abbrev pub is_sender : Option (List ℕ) → List ℕ → Bool
is_sender (Some value) sender = bytes_eq value sender
is_sender None sender = false

-- whether the field of this name in a head tells the sender, where one is to
abbrev pub IsTold : Option (List ℕ) → List ℕ → List ℕ → Bool → Type 0
IsTold (Some name) head sender told =
    (value : Option (List ℕ)) × HasLone head name value × (told ≡ is_sender value sender)
IsTold None head sender told = told ≡ true

-- whether the sender is among the other controllers, where they are known
abbrev pub IsKnown : Option Rows → List ℕ → Bool → Type 0
IsKnown (Some peers) sender known =
    (url : Option Parts) × IsUrlOf sender peers url × (known ≡ is_some url)
IsKnown None sender known = known ≡ true

-- whether a page in a browser sends this, as the head tells: it has one field `Origin` (RFC 6454,
-- section 7.3)
abbrev pub IsOfPage : List ℕ → Bool → Type 0
IsOfPage head page =
    (value : Option (List ℕ)) × HasLone head (codes "Origin") value × (page ≡ is_some value)

-- whether a sender may send to a server
pub record MaySend {R F : Type 0} (s : Server R F) (head sender : List ℕ) (may : Bool)
    : Type 0 where
  pub told : Bool
  pub tells : IsTold (option_map (λ name. name.now) s.sender_field) head sender told
  pub known : Bool
  pub knows : IsKnown (option_map (λ post. post.peers) s.post) sender known
  pub page : Bool
  pub pages : IsOfPage head page
  pub all : may ≡ told && known && not page

-- ---- where a client stands

-- only the clients of a server change, and they do so
abbrev pub OnlyClients : {R F : Type 0} → (Slab Entry → Slab Entry → Type 0) → (old new : Server R F)
    → Type 0
OnlyClients so old new = so old.clients.all new.clients.all × (new.lines ≡ old.lines)

-- a client stands in the line to which a route leads, for what has come
abbrev pub Stands : {R F : Type 0} → Route → WaitingClient TcpStream → Coming → (old new : Server R F)
    → Type 0
Stands r w coming old new =
    Joins r (record { waiting = w; coming = coming }) old.lines new.lines
    × (new.clients.all ≡ old.clients.all)

-- a client whose message leads to a controller stands in its line with it; one whose message leads
-- to none is told so
abbrev pub StandsOrMisses : {R F : Type 0} → WaitingClient TcpStream → Message → (old new : Server R F)
    → Type 0
StandsOrMisses w m old new =
    ((r : Route) × LeadsTo old.place m r × Stands r w (comings.Message m) old new)
    ⊎ (LeadsNowhere old.place m × OnlyClients (IsMissed old.clients.now w) old new)

-- a client with a message: if its sender may send here; and if it may not, the client is refused
abbrev pub StandsIf : {R F : Type 0} → Bool → WaitingClient TcpStream → Message → (old new : Server R F)
    → Type 0
StandsIf true w m old new = StandsOrMisses w m old new
StandsIf false w m old new = OnlyClients (IsRefused old.clients.now Forbidden w) old new

abbrev pub StandsWith : {R F : Type 0} → WaitingClient TcpStream → Message → List ℕ
    → (old new : Server R F) → Type 0
StandsWith w m head old new =
    (may : Bool) × MaySend old head m.sender may × StandsIf may w m old new

-- a client whose request carries no message: the one controller that is served hears of that, and in
-- a folder the client is refused for it
abbrev pub StandsWithout : {R F : Type 0} → Place → WaitingClient TcpStream → Refusal
    → (old new : Server R F) → Type 0
StandsWithout (places.File path) w e old new =
    (r : Route) × LeadsToFile path.now r × Stands r w (comings.Neither e) old new
StandsWithout (places.Folder path) w e old new =
    OnlyClients (IsRefused old.clients.now (Core e) w) old new

-- a client whose request came: the message that its body is, if it is one, tells what becomes of it
abbrev pub StandsInLine : {R F : Type 0} → WaitingClient TcpStream → Received → (old new : Server R F)
    → Type 0
StandsInLine w request old new =
    ((m : Message) × IsDecodedAs request.body (Ok m)
    × StandsWith w m request.head.items old new)
    ⊎ ((e : Refusal) × IsRefusalOf request.body e × StandsWithout old.place w e old new)

-- what becomes of a client by its turn: it is back in its place; or its request is taken; or it has
-- the response to one that is refused; or its response was written, and so is its line of the log;
-- or it is let go
abbrev pub Follows : {R F : Type 0} → ℕ → Turn TcpStream → (old new : Server R F) → Type 0
Follows key (turns.Wait c) old new = OnlyClients (Changes (with_client c) key) old new
Follows key (turns.Again c) old new = OnlyClients (Changes (with_client c) key) old new
Follows key (turns.Request asked request) old new =
    StandsInLine (record { key = key; asked = asked }) request old new
Follows key (turns.Refused asked e) old new =
    OnlyClients (IsRefused old.clients.now e (record { key = key; asked = asked })) old new
Follows key (turns.Written c) old new =
    OnlyClients (Changes (λ e. with_client c (record e { is_told = true })) key) old new
Follows key turns.Closed old new =
    OnlyClients (λ before after. Updates before after key None) old new
