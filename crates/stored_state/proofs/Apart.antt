-- Jobs stay apart.
use Rattle.std.proofs.Common.{◌≡◌, ◌≢◌, ◌&&◌, ℕ, Bool, true, false, List, [], ◌∷◌, Option, Some, None, ap, refl, sym}
use Rattle.std.specs.Str.{bytes_eq}
use Rattle.std.proofs.lemmas.Slice.Eq.{bytes_eq-Decides}
use Rattle.ticket_items.specs.declared.refusal.Refusal.{Refusal}
use Rattle.ticket_items.specs.declared.refusal.Refusal.TheVariants.{WrongMessage, WrongSender}
use Rattle.ticket_rows.specs.Ticket.{first_of, unless}
use Rattle.controller.specs.Step.{Taking, message_step}
use Rattle.controller.specs.declared.message.Message.{Message}
use Rattle.master_core.specs.Master as masters
use Rattle.master_core.specs.Messages as master_messages
use Rattle.worker_core.specs.Messages as worker_messages
use Rattle.worker_core.specs.Worker as workers
use Rattle.stored_state.specs.AnyStep.{take_step_of}
use Rattle.stored_state.specs.Laws.{JobsStayApart}
use Rattle.stored_state.specs.Opened.{of_master, of_worker}

-- names that differ are told apart
differ : (a b : List ℕ) → a ≢ b → bytes_eq a b ≡ false
differ a b apart =
    (elim (bytes_eq a b) as (λ t. bytes_eq a b ≡ t → t ≡ false) [
      | true ↦ λ is. absurd (apart ((bytes_eq-Decides a b).0 is))
      | false ↦ λ is. refl
    ]) refl

-- what is refused for a later fault changes nothing, whatever the first is
refused_next : {S : Type 0} (name : List ℕ) (m : Message) (at : ℕ) (first : Option Refusal) (e : Refusal) (more : List (Option Refusal)) (w : S) (t : Taking S) → (message_step name m at (first_of (first ∷ Some e ∷ more)) w t).next ≡ w
refused_next name m at None e more w t = refl
refused_next name m at (Some x) e more w t = refl

master_apart : (at : ℕ) (m : Message) (w : masters.State) → w.name ≢ m.receiver → (master_messages.take_step m at w).next ≡ w
master_apart at m w apart = rw (differ m.receiver w.name (λ is. apart (sym is))) refl

worker_apart : (at : ℕ) (m : Message) (w : workers.State) → w.master ≢ m.sender → (worker_messages.take_step m at w).next ≡ w
worker_apart at m w apart =
    rw (differ m.sender w.master (λ is. apart (sym is)))
    (refused_next w.name m at (unless (bytes_eq m.receiver w.name && worker_messages.is_for_worker m.body) WrongMessage) WrongSender (worker_messages.body_refusal m.body w.entries ∷ []) w (worker_messages.on_body m.body at w))

pub jobs_apart : JobsStayApart
jobs_apart at m (of_master w) sent taken = ap of_master (master_apart at m w taken)
jobs_apart at m (of_worker w) sent taken = ap of_worker (worker_apart at m w sent)
