-- What a line asks for is a step, which has a reply.
use Rattle.std.proofs.Common.{◌≡◌, ◌∙◌, ℕ, Bool, true, false, cond, List, Option, Some, None, is_some, Result, Ok, Err, is_ok, ap, refl, sym}
use Rattle.std.proofs.lemmas.Bool.{true≢false}
use Rattle.std.specs.Option.{option_and_then, option_map, option_map_or}
use Rattle.std.specs.Result.{result_ok}
use Rattle.std.specs.Str.{bytes_eq}
use Rattle.serde_json.specs.Data.{Data}
use Rattle.ticket_items.specs.Ids.{mem}
use Rattle.ticket_items.specs.declared.refusal.Refusal.{Refusal}
use Rattle.ticket_items.specs.declared.refusal.Refusal.TheVariants.{UnknownWorker}
use Rattle.controller.specs.Step.{Step}
use Rattle.controller.specs.declared.message.Message.{Message}
use Rattle.controller_form.specs.Orders.MasterForm.{master_order_read}
use Rattle.controller_form.specs.Orders.WorkerForm.{worker_order_read}
use Rattle.json_profile.specs.ReadAs.{IsReadAs}
use Rattle.plain_shop.specs.Step.{StepOrWord}
use Rattle.stored_state.specs.Seat.{read_in}
use Rattle.worker_core.specs.Orders.{order_step as ordered_worker}
use Rattle.worker_core.specs.Worker as worker
use Rattle.world.proofs.Runs.Cases.{made_of}
use Rattle.world.proofs.Runs.NeedsNoMemory.{is_received}
use Rattle.world.proofs.Worker.SameWorkers.{worker_known}
use Rattle.world.specs.Controllers.{Controllers, worker_of}
use Rattle.world.specs.Happening.{answer_to, next_answer, step_of}
use Rattle.world.specs.Showing.{shows}
use Rattle.world.specs.State.{IsConsistent, State, message_at}
use Rattle.world.specs.Stepping.{worker_moved}
use Rattle.world_items.specs.declared.stop.Stop.TheVariants.{Run}
use Rattle.world_items.specs.declared.what.What.{What}
use Rattle.world_items.specs.declared.what.What.TheVariants.{MasterOrder, WorkerOrder, Deliver}
use Rattle.world_items.specs.declared.word.Word.{Word}
use Rattle.world_items.specs.declared.word.Word.TheVariants.{Refused}
use Rattle.shop_day.specs.Done.{IsReply}
use Rattle.shop_day.specs.Lines.{event, order_in}

-- what bytes are read as
pub read_so : {A : Type 0} (reads : Data → Result A Refusal) (bytes : List ℕ) (a : A) → IsReadAs reads bytes (Ok a) → read_in reads bytes ≡ Some a
read_so reads bytes a is = ap (option_and_then (λ d. result_ok (reads d))) is.json ∙ ap result_ok is.form

-- ---- a step has a reply

abbrev pub HasReply : What → ℕ → State → Type 0
HasReply what at w = IsReply (answer_to (event what at Run) w).word

reply_of : (w : State) (step : StepOrWord Controllers Message) → is_ok step ≡ true → IsReply (next_answer Run w step).word
reply_of w (Ok moved) made = (moved.reply, refl)
reply_of w (Err word) made = absurd (true≢false (sym made))

made_of_some : (c : Controllers) (f : worker.State → Step Controllers Message) (word : Word) (found : Option worker.State) → is_some found ≡ true → is_ok (option_map_or (λ v. Ok (f v)) found (Err word)) ≡ true
made_of_some c f word (Some v) there = refl
made_of_some c f word None there = absurd (true≢false (sym there))

-- ---- an order

order_made : (mine theirs : Bool) (w : State) (name bytes : List ℕ) (what : What) (at : ℕ) → mem name w.controllers.master.workers ≡ theirs → IsConsistent w
    → cond mine (option_map MasterOrder (read_in master_order_read bytes)) (cond theirs (option_map (WorkerOrder name) (read_in worker_order_read bytes)) None) ≡ Some what → is_ok (step_of what at w) ≡ true
order_made true theirs w name bytes what at named ok asked =
    let is = made_of MasterOrder (read_in master_order_read bytes) what asked in
    ap (λ x. is_ok (step_of x at w)) (sym is.2)
order_made false true w name bytes what at named ok asked =
    let is = made_of (WorkerOrder name) (read_in worker_order_read bytes) what asked in
    ap (λ x. is_ok (step_of x at w)) (sym is.2) ∙ made_of_some w.controllers (λ v. worker_moved w.controllers v (ordered_worker is.0 at v)) (Refused UnknownWorker) (worker_of w.controllers.workers name) (worker_known w name ok ∙ named)
order_made false false w name bytes what at named ok asked = absurd (true≢false (ap is_some (sym asked)))

pub order_replies : (w : State) (name bytes : List ℕ) (what : What) (at : ℕ) → IsConsistent w → order_in (shows w).shop name bytes ≡ Some what → HasReply what at w
order_replies w name bytes what at ok asked =
    reply_of w (step_of what at w) (order_made (bytes_eq name w.controllers.master.name) (mem name w.controllers.master.workers) w name bytes what at refl ok asked)

-- ---- a message

taken_made : (w : State) (k at : ℕ) (found : Option Message) → message_at w.messages k ≡ found → IsConsistent w → is_some found ≡ true → is_ok (step_of (Deliver k) at w) ≡ true
taken_made w k at (Some m) is ok there = is_received w k at m ok is
taken_made w k at None is ok there = absurd (true≢false (sym there))

pub message_replies : (w : State) (k at : ℕ) → IsConsistent w → is_some (message_at w.messages k) ≡ true → HasReply (Deliver k) at w
message_replies w k at ok there = reply_of w (step_of (Deliver k) at w) (taken_made w k at (message_at w.messages k) refl ok there)
