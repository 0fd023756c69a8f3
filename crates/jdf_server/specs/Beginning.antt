-- A server in its beginning, and what is opened beside the listener of messages.
use Rattle.std.specs.Prelude.{◌≡◌, None}
use Rattle.shop_folder.specs.declared.place.Place.{Place}
use Rattle.server_clients.specs.declared.clients.Clients.{Clients}
use Rattle.jdf_server.specs.declared.server.Server.{Server}
use Rattle.jdf_server.specs.declared.service.Service.{Service}

-- clients of what lies there, as many as are asked for
pub record AreClientsOf {R F : Type 0} (service : Service) (served : Place) (c : Clients R F)
    : Type 0 where
  pub place : c.place ≡ served
  pub left : c.left ≡ service.requests

-- a server of what lies there, as it is asked for, from which nothing goes out
pub record IsBegun {R F : Type 0} (service : Service) (served : Place) (s : Server R F)
    : Type 0 where
  pub place : s.place ≡ served
  pub clients : AreClientsOf service served s.clients
  pub sender_field : s.sender_field ≡ service.sender_field
  pub journal : s.journal ≡ service.journal
  pub post : s.post ≡ None

-- what is served, by which field who sends is told, and the clients with their lines stay
pub record ServesOn {R F : Type 0} (old new : Server R F) : Type 0 where
  pub place : new.place ≡ old.place
  pub sender_field : new.sender_field ≡ old.sender_field
  pub journal : new.journal ≡ old.journal
  pub clients : new.clients ≡ old.clients
  pub lines : new.lines ≡ old.lines
