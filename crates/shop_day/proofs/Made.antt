-- The step of the controller of a name, as one of the shop.
use Rattle.std.proofs.Common.{◌≡◌, ◌∙◌, ◌⊎◌, inl, inr, ℕ, Bool, true, false, cond, List, Option, Some, None, Result, Ok, Err, is_some, ap, refl, subst, sym}
use Rattle.std.proofs.lemmas.Bool.{true≢false}
use Rattle.std.proofs.lemmas.Slice.Eq.{bytes_eq-Decides}
use Rattle.std.specs.Option.{option_map, option_map_or}
use Rattle.std.specs.Str.{bytes_eq}
use Rattle.serde_json.specs.Data.{Data}
use Rattle.ticket_items.specs.Ids.{mem}
use Rattle.ticket_items.specs.declared.refusal.Refusal.{Refusal}
use Rattle.ticket_items.specs.declared.refusal.Refusal.TheVariants.{UnknownWorker}
use Rattle.ticket_rows.proofs.AtHome.{find-passes}
use Rattle.controller.specs.Step.{Step}
use Rattle.controller.specs.declared.message.Message.{Message}
use Rattle.controller_form.specs.Orders.MasterForm.{master_order_read}
use Rattle.controller_form.specs.Orders.WorkerForm.{worker_order_read}
use Rattle.json_profile.specs.ReadAs.{IsReadAs}
use Rattle.master_core.specs.Master as master
use Rattle.master_core.specs.Messages.{take_step as taken_by_master}
use Rattle.master_core.specs.Orders.{order_step as ordered_master}
use Rattle.jmf_message.specs.Decoded.{IsDecodedAs, message_read}
use Rattle.stored_state.specs.AnyStep.{IsHanded, IsOrdered, take_step_of}
use Rattle.stored_state.specs.Message.{message_text}
use Rattle.stored_state.specs.Names.{master_order_names, master_take_names, worker_order_names, worker_take_names}
use Rattle.stored_state.specs.declared.any_controller.AnyController.{AnyController}
use Rattle.stored_state.specs.declared.any_controller.AnyController.TheVariants.{Master as of_master}
use Rattle.stored_state.specs.declared.any_controller.AnyController.TheVariants.{Worker as of_worker}
use Rattle.stored_state.specs.Seat.{read_in}
use Rattle.stored_state.specs.Step.{TextStep}
use Rattle.stored_state.specs.declared.cause.StepInput.TheVariants as causes
use Rattle.worker_core.specs.Messages.{take_step as taken_by_worker}
use Rattle.worker_core.specs.Orders.{order_step as ordered_worker}
use Rattle.worker_core.specs.Worker as worker
use Rattle.world.proofs.Worker.SameWorkers.{worker_known}
use Rattle.world.proofs.Worker.Stored.{worker_there}
use Rattle.world.specs.Controllers.{Controllers, is_named, worker_of}
use Rattle.world.specs.Happening.{master_step, receiver_takes, step_of, worker_step}
use Rattle.world.specs.Showing.{shows}
use Rattle.world.specs.State.{IsConsistent, State, message_at}
use Rattle.world.specs.Stepping.{master_moved, worker_moved}
use Rattle.world_items.specs.declared.what.What.{What}
use Rattle.world_items.specs.declared.what.What.TheVariants.{MasterOrder, WorkerOrder, Deliver}
use Rattle.world_items.specs.declared.word.Word.TheVariants.{NoMessage, Refused}
use Rattle.shop_day.proofs.Asked.{read_so}
use Rattle.shop_day.specs.Files.{controller_of}
use Rattle.shop_day.specs.Lines.{order_in}

-- what bytes are read as is one value
pub read_once : {A : Type 0} (reads : Data → Result A Refusal) (bytes : List ℕ) (a b : A) → IsReadAs reads bytes (Ok a) → IsReadAs reads bytes (Ok b) → a ≡ b
read_once reads bytes a b is same =
    let found : Some a ≡ Some b = sym (read_so reads bytes a is) ∙ read_so reads bytes b same in
    cc

-- what happens is this step of the controller of a name
pub record IsMade (w : State) (name : List ℕ) (what : What) (at : ℕ) (step : TextStep AnyController) : Type 0 where
  pub moved : Step Controllers Message
  pub made : step_of what at w ≡ Ok moved
  pub reply : step.reply ≡ moved.reply
  pub sent : step.sent ≡ option_map message_text moved.sent
  pub next : controller_of moved.next name ≡ Some step.next

-- ---- who has a name

pub who_of : (mine : Bool) (m : master.State) (found : Option worker.State) (c : AnyController) → cond mine (Some (of_master m)) (option_map of_worker found) ≡ Some c
    → ((mine ≡ true) × (c ≡ of_master m)) ⊎ ((v : worker.State) × (mine ≡ false) × (found ≡ Some v) × (c ≡ of_worker v))
who_of true m found c is =
    let there : Some (of_master m) ≡ Some c = is in
    let same : c ≡ of_master m = cc in
    inl (refl, same)
who_of false m (Some v) c is =
    let there : Some (of_worker v) ≡ Some c = is in
    let same : c ≡ of_worker v = cc in
    inr (v, refl, refl, same)
who_of false m None c is = absurd (true≢false (ap is_some (sym is)))

-- the master as it is next
master_next : (w : State) (name : List ℕ) (next : master.State) → bytes_eq name w.controllers.master.name ≡ true → next.name ≡ w.controllers.master.name → controller_of (record w.controllers { master = next }) name ≡ Some (of_master next)
master_next w name next mine named =
    ap (λ b. cond b (Some (of_master next)) (option_map of_worker (worker_of w.controllers.workers name))) (ap (bytes_eq name) named ∙ mine)

-- a worker as it is next
worker_next : (w : State) (name : List ℕ) (v : worker.State) (moved : Step worker.State Message) → bytes_eq name w.controllers.master.name ≡ false → worker_of w.controllers.workers name ≡ Some v → moved.next.name ≡ v.name
    → controller_of (worker_moved w.controllers v moved).next name ≡ Some (of_worker moved.next)
worker_next w name v moved other found named =
    let own : v.name ≡ name = (bytes_eq-Decides v.name name).0 (find-passes (is_named name) w.controllers.workers v found) in
    let c : Controllers = (worker_moved w.controllers v moved).next in
    let there : worker_of c.workers name ≡ Some moved.next = subst (λ n. worker_of c.workers n ≡ Some moved.next) own (worker_there v.name moved.next w.controllers.workers named ∙ ap (option_map (λ _. moved.next)) (ap (worker_of w.controllers.workers) own ∙ found)) in
    ap (λ b. cond b (Some (of_master c.master)) (option_map of_worker (worker_of c.workers name))) other ∙ ap (option_map of_worker) there

-- ---- an order

abbrev pub OrderMade : State → List ℕ → List ℕ → ℕ → TextStep AnyController → Type 0
OrderMade w name bytes at step = (what : What) × (order_in (shows w).shop name bytes ≡ Some what) × IsMade w name what at step

master_order_made : (w : State) (name bytes : List ℕ) (at : ℕ) (step : TextStep AnyController) → bytes_eq name w.controllers.master.name ≡ true → IsOrdered at bytes (of_master w.controllers.master) step → OrderMade w name bytes at step
master_order_made w name bytes at step mine is =
    let m = w.controllers.master in
    let s : Step master.State Message = ordered_master is.order at m in (
      MasterOrder is.order,
      ap (λ b. cond b (option_map MasterOrder (read_in master_order_read bytes)) (cond (mem name m.workers) (option_map (WorkerOrder name) (read_in worker_order_read bytes)) None)) mine ∙ ap (option_map MasterOrder) (read_so master_order_read bytes is.order is.read),
      record {
        moved = master_moved w.controllers s;
        made = refl;
        reply = ap (λ (t : TextStep AnyController). t.reply) is.is;
        sent = ap (λ (t : TextStep AnyController). t.sent) is.is;
        next = master_next w name s.next mine (master_order_names is.order at m) ∙ ap (λ (t : TextStep AnyController). Some t.next) (sym is.is);
      },
    )

worker_order_made : (w : State) (name bytes : List ℕ) (at : ℕ) (v : worker.State) (step : TextStep AnyController) → IsConsistent w → bytes_eq name w.controllers.master.name ≡ false → worker_of w.controllers.workers name ≡ Some v → IsOrdered at bytes (of_worker v) step → OrderMade w name bytes at step
worker_order_made w name bytes at v step ok other found is =
    let m = w.controllers.master in
    let s : Step worker.State Message = ordered_worker is.order at v in
    let known : mem name m.workers ≡ true = sym (worker_known w name ok) ∙ ap is_some found in (
      WorkerOrder name is.order,
      ap (λ b. cond b (option_map MasterOrder (read_in master_order_read bytes)) (cond (mem name m.workers) (option_map (WorkerOrder name) (read_in worker_order_read bytes)) None)) other
          ∙ ap (λ b. cond b (option_map (WorkerOrder name) (read_in worker_order_read bytes)) None) known ∙ ap (option_map (WorkerOrder name)) (read_so worker_order_read bytes is.order is.read),
      record {
        moved = worker_moved w.controllers v s;
        made = ap (λ o. option_map_or (λ u. Ok (worker_moved w.controllers u (ordered_worker is.order at u))) o (Err (Refused UnknownWorker))) found;
        reply = ap (λ (t : TextStep AnyController). t.reply) is.is;
        sent = ap (λ (t : TextStep AnyController). t.sent) is.is;
        next = worker_next w name v s other found (worker_order_names is.order at v) ∙ ap (λ (t : TextStep AnyController). Some t.next) (sym is.is);
      },
    )

order_by : (w : State) (name bytes : List ℕ) (at : ℕ) (c : AnyController) (step : TextStep AnyController) → IsConsistent w → IsOrdered at bytes c step
    → ((bytes_eq name w.controllers.master.name ≡ true) × (c ≡ of_master w.controllers.master)) ⊎ ((v : worker.State) × (bytes_eq name w.controllers.master.name ≡ false) × (worker_of w.controllers.workers name ≡ Some v) × (c ≡ of_worker v))
    → OrderMade w name bytes at step
order_by w name bytes at c step ok is (inl (mine, same)) = master_order_made w name bytes at step mine (subst (λ x. IsOrdered at bytes x step) same is)
order_by w name bytes at c step ok is (inr (v, other, found, same)) = worker_order_made w name bytes at v step ok other found (subst (λ x. IsOrdered at bytes x step) same is)

pub order_made : (w : State) (name bytes : List ℕ) (at : ℕ) (c : AnyController) (step : TextStep AnyController) → IsConsistent w → controller_of w.controllers name ≡ Some c → IsOrdered at bytes c step → OrderMade w name bytes at step
order_made w name bytes at c step ok there is =
    order_by w name bytes at c step ok is (who_of (bytes_eq name w.controllers.master.name) w.controllers.master (worker_of w.controllers.workers name) c there)

-- ---- a message

took_as : (w : State) (k at : ℕ) (m : Message) (moved : Step Controllers Message) → message_at w.messages k ≡ Some m → receiver_takes at w m ≡ Ok moved → step_of (Deliver k) at w ≡ Ok moved
took_as w k at m moved found takes = ap (λ o. option_map_or (receiver_takes at w) o (Err NoMessage)) found ∙ takes

message_by : (w : State) (k at : ℕ) (m : Message) (c : AnyController) → message_at w.messages k ≡ Some m
    → ((bytes_eq m.receiver w.controllers.master.name ≡ true) × (c ≡ of_master w.controllers.master)) ⊎ ((v : worker.State) × (bytes_eq m.receiver w.controllers.master.name ≡ false) × (worker_of w.controllers.workers m.receiver ≡ Some v) × (c ≡ of_worker v))
    → IsMade w m.receiver (Deliver k) at (take_step_of at m c)
message_by w k at m c found (inl (mine, same)) =
    let x = w.controllers.master in
    let s : Step master.State Message = taken_by_master m at x in
    subst (λ d. IsMade w m.receiver (Deliver k) at (take_step_of at m d)) (sym same)
    (record {
      moved = master_moved w.controllers s;
      made = took_as w k at m (master_moved w.controllers s) found (ap (λ b. cond b (master_step (causes.Message m) at w) (worker_step m.receiver NoMessage (causes.Message m) at w)) mine);
      reply = refl;
      sent = refl;
      next = master_next w m.receiver s.next mine (master_take_names m at x);
    })
message_by w k at m c found (inr (v, other, there, same)) =
    let s : Step worker.State Message = taken_by_worker m at v in
    subst (λ d. IsMade w m.receiver (Deliver k) at (take_step_of at m d)) (sym same)
    (record {
      moved = worker_moved w.controllers v s;
      made = took_as w k at m (worker_moved w.controllers v s) found
          (ap (λ b. cond b (master_step (causes.Message m) at w) (worker_step m.receiver NoMessage (causes.Message m) at w)) other
          ∙ ap (λ o. option_map_or (λ u. Ok (worker_moved w.controllers u (taken_by_worker m at u))) o (Err NoMessage)) there);
      reply = refl;
      sent = refl;
      next = worker_next w m.receiver v s other there (worker_take_names m at v);
    })

pub message_made : (w : State) (k at : ℕ) (m : Message) (c : AnyController) → message_at w.messages k ≡ Some m → controller_of w.controllers m.receiver ≡ Some c → IsMade w m.receiver (Deliver k) at (take_step_of at m c)
message_made w k at m c found there =
    message_by w k at m c found (who_of (bytes_eq m.receiver w.controllers.master.name) w.controllers.master (worker_of w.controllers.workers m.receiver) c there)

-- the step of the message that its text is
pub message_handed : (w : State) (k at : ℕ) (m : Message) (c : AnyController) (step : TextStep AnyController) → message_at w.messages k ≡ Some m → controller_of w.controllers m.receiver ≡ Some c → IsDecodedAs (message_text m) (Ok m) → IsHanded at (message_text m) c step → IsMade w m.receiver (Deliver k) at step
message_handed w k at m c step found there reads is =
    let one : is.message ≡ m = read_once message_read (message_text m) is.message m is.decoded reads in
    let same : step ≡ take_step_of at m c = is.holds ∙ ap (λ x. take_step_of at x c) one in
    subst (IsMade w m.receiver (Deliver k) at) (sym same) (message_made w k at m c found there)
