-- What is to be done so that something goes out.
use Rattle.std.specs.Prelude.{◌≡◌, ℕ, List, ◌++◌, codes}
use Rattle.ticket_items.specs.SpawnId.{spawn_text}
use Rattle.deliveries.specs.declared.flight.Flight.{Flight}
use Rattle.server_post.specs.declared.own.Own.{Own}
use Rattle.server_post.specs.declared.own.Task.{Task}
use Rattle.server_post.specs.declared.own.Task.TheVariants.{Send, Take}

-- the order to send the part of a spawn once more
abbrev pub resend_text : ℕ → List ℕ
resend_text spawn =
    codes "{\"Order\":\"Resend\",\"SpawnID\":\"" ++ spawn_text spawn ++ codes "\"}"

-- the controller is told to send the part of this spawn
abbrev pub IsToSend : ℕ → Task → Type 0
IsToSend spawn (Send text) = text.items ≡ resend_text spawn
IsToSend spawn (Take answer refusal) = ⊥

-- what is in flight is to be sent, by this moment
pub record SendsFlight (flight : Flight) (until : ℕ) (own : Own) : Type 0 where
  pub parcel : own.parcel ≡ record { spawn = flight.spawn; line = flight.line }
  pub task : IsToSend flight.spawn own.task
  pub moment : own.until ≡ until
