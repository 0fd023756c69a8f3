-- Steps that leave their controller as it was, as what they reply tells.
use Rattle.std.specs.Prelude.{◌&&◌, Bool, true, false, not, Result, Ok, Err}
use Rattle.ticket_items.specs.declared.refusal.Refusal.{Refusal}
use Rattle.controller.specs.declared.body.Body.{Body}
use Rattle.controller.specs.declared.body.Body.TheVariants as bodies
use Rattle.world_items.specs.declared.reply.Reply.{Reply}
use Rattle.world_items.specs.declared.reply.Reply.TheVariants as replies

-- whether a reply tells of nothing that changes
abbrev pub is_idle_reply : Reply → Bool
is_idle_reply (replies.Sent s) = true
is_idle_reply (replies.Already s) = true
is_idle_reply (replies.Noted s) = true
is_idle_reply (replies.Again s) = true
is_idle_reply (replies.Asked s) = true
is_idle_reply _ = false

-- whether a step on an order leaves the controller as it was: a refusal does
abbrev pub is_idle : Result Reply Refusal → Bool
is_idle (Ok reply) = is_idle_reply reply
is_idle (Err e) = true

-- whether a message is that a spawn is to be given up
abbrev pub is_abort : Body → Bool
is_abort (bodies.Abort s) = true
is_abort _ = false

-- whether a step on a message leaves the controller as it was. That a spawn is to be given up is
-- looked at no further
abbrev pub is_idle_on : Body → Result Reply Refusal → Bool
is_idle_on body reply = not (is_abort body) && is_idle reply
