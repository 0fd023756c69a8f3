-- Each message that was sent is taken by its receiver.
use Rattle.std.proofs.Common.{◌≡◌, ℕ, Bool, true, false, cond, Some, None, Ok, Err, refl, sym, ap, ◌∙◌, subst}
use Rattle.std.proofs.lemmas.List.Elements.{All-contains}
use Rattle.std.specs.Option.{option_map_or}
use Rattle.std.specs.Str.{bytes_eq}
use Rattle.controller.specs.Step.{message_step}
use Rattle.controller.specs.declared.message.Message.{Message}
use Rattle.world_items.specs.declared.reply.Reply.{Reply}
use Rattle.master_core.specs.Messages as master_messages
use Rattle.worker_core.specs.Messages as worker_messages
use Rattle.worker_core.specs.Worker as worker
use Rattle.world.proofs.Shop.AlwaysKept.{message_there}
use Rattle.world.proofs.Messages.MessagesTaken.{master_refuses_nothing, worker_refuses_nothing}
use Rattle.world.proofs.Messages.Receivers.{master_receives, worker_receives}
use Rattle.world.specs.Controllers.{Controllers}
use Rattle.world.specs.Controllers.{worker_of}
use Rattle.stored_state.specs.declared.cause.StepInput.TheVariants as causes
use Rattle.world.specs.Happening.{master_step, next_answer, receiver_takes, worker_step}
use Rattle.world.specs.Laws.{SentIsTaken}
use Rattle.world.specs.Messages.{IsInOrder}
use Rattle.world.specs.State.{IsConsistent, State}
use Rattle.world_items.specs.Word.{word_of}
use Rattle.plain_shop.specs.Step.{StepOrWord}
use Rattle.worker_core.specs.Messages.{take_step as taken_by_worker}
use Rattle.world.specs.Stepping.{worker_moved}
use Rattle.world_items.specs.declared.stop.Stop.TheVariants.{Run}
use Rattle.world_items.specs.declared.word.Word.TheVariants.{Did, NoMessage}

-- what is said to a step that isn't stopped
abbrev Said : State → StepOrWord Controllers Message → Type 0
Said w step = (reply : Reply) × ((next_answer Run w step).word ≡ Did reply)

-- ---- what it says

master_said : (m : Message) (at : ℕ) (w : State) → master_messages.take_refusal m w.controllers.master ≡ None → Said w (master_step (causes.Message m) at w)
master_said m at w none =
    let x = w.controllers.master in
    let t = master_messages.on_body m.body at x in
    (t.reply, ap (λ o. word_of (message_step x.name m at o x t).reply) none)

worker_said : (m : Message) (at : ℕ) (w : State) (v : worker.State) → worker_of w.controllers.workers m.receiver ≡ Some v → worker_messages.take_refusal m v ≡ None → Said w (worker_step m.receiver NoMessage (causes.Message m) at w)
worker_said m at w v found none = (
  (worker_messages.on_body m.body at v).reply,
  ap (λ o. (next_answer Run w (option_map_or (λ u. Ok (worker_moved w.controllers u (taken_by_worker m at u))) o (Err NoMessage))).word) found ∙ ap (λ o. word_of (message_step v.name m at o v (worker_messages.on_body m.body at v)).reply) none,
)

-- who takes it is told by its receiver
by_receiver : (mine : Bool) (m : Message) (at : ℕ) (w : State) → bytes_eq m.receiver w.controllers.master.name ≡ mine → Said w (cond mine (master_step (causes.Message m) at w) (worker_step m.receiver NoMessage (causes.Message m) at w)) → Said w (receiver_takes at w m)
by_receiver mine m at w is said = subst (λ b. Said w (cond b (master_step (causes.Message m) at w) (worker_step m.receiver NoMessage (causes.Message m) at w))) (sym is) said

taken_by : (theirs : Bool) (m : Message) (at : ℕ) (w : State) → worker_messages.is_for_worker m.body ≡ theirs → IsConsistent w → IsInOrder w.controllers m → Said w (receiver_takes at w m)
taken_by false m at w mine ok h = by_receiver true m at w (master_receives w m h mine) (master_said m at w (master_refuses_nothing w.controllers m ok.recorded ok.back mine h))
taken_by true m at w theirs ok h =
    let is = worker_receives w m ok h theirs in
    by_receiver false m at w is.other (worker_said m at w is.by is.found (worker_refuses_nothing w.controllers is.by m is.found is.named is.knows theirs h))

pub sent_is_taken : SentIsTaken
sent_is_taken w k at m ok found =
    let good : IsInOrder w.controllers m = All-contains (IsInOrder w.controllers) w.messages m ok.messages.each (message_there w.messages k m found) in
    let said = taken_by (worker_messages.is_for_worker m.body) m at w refl ok good in
    (said.0, ap (λ o. (next_answer Run w (option_map_or (receiver_takes at w) o (Err NoMessage))).word) found ∙ said.1)
