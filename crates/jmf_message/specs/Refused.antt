-- Refusals that answers tell.
use Rattle.std.specs.Prelude.{ℕ, ◌==◌, Option, Some, None, Err, if◌then◌else◌}
use Rattle.controller.specs.declared.body.Body.{Body}
use Rattle.controller.specs.declared.body.Body.TheVariants.{Answer}
use Rattle.controller.specs.declared.command.Command.{Command}
use Rattle.controller.specs.declared.command.Command.TheVariants.{Abort}
use Rattle.ticket_items.specs.Refusal.{number_of}
use Rattle.ticket_items.specs.declared.refusal.Refusal.TheVariants.{Declined}

-- the number of the refusal that a command was answered with: that a spawn is declined is no
-- refusal where the command asked for it
abbrev pub refusal_of_command : Command → ℕ → Option ℕ
refusal_of_command Abort n = if n == number_of Declined then None else Some n
refusal_of_command asked n = Some n

-- the same of the body of a message, which may be no answer
abbrev pub refusal_told : Body → Option ℕ
refusal_told (Answer asked spawn (Err n)) = refusal_of_command asked n
refusal_told body = None
