-- Laws of the definitions.
use Rattle.std.specs.Prelude.{◌≡◌, ◌↔◌, true}
use Rattle.ticket_items.specs.SpawnId.{is_spawn_number}
use Rattle.controller.specs.Words.{command_in, is_answer, message_id, spawn_in}
use Rattle.controller.specs.declared.body.Body.{Body}

-- two messages are of the same kind and spawn
pub record SaysTheSame (a b : Body) : Type 0 where
  pub command : command_in a ≡ command_in b
  pub answer : is_answer a ≡ is_answer b
  pub spawn : spawn_in a ≡ spawn_in b

-- the IDs of two messages are equal just if the messages are of the same kind and spawn
abbrev pub IdsTellApart : Type 0
IdsTellApart = (a b : Body) → is_spawn_number (spawn_in a) ≡ true → is_spawn_number (spawn_in b)
    ≡ true → (message_id a ≡ message_id b) ↔ SaysTheSame a b
