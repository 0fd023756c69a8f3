-- What is said where the controller of a name is started again.
use Rattle.std.proofs.Common.{◌≡◌, ◌∙◌, ℕ, false, ◌||◌, Bool, List, Option, Some, None, if◌then◌else◌, is_some, ap, sym}
use Rattle.std.specs.Str.{bytes_eq}
use Rattle.ticket_items.proofs.Apart.{or_true}
use Rattle.ticket_items.specs.declared.refusal.Refusal.TheVariants.{UnknownWorker}
use Rattle.worker_core.specs.Worker as worker
use Rattle.world.specs.Controllers.{worker_of}
use Rattle.world.specs.Happening.{restart_word}
use Rattle.world.specs.State.{State}
use Rattle.world_items.specs.declared.word.Word.{Word}
use Rattle.world_items.specs.declared.word.Word.TheVariants.{Refused, Restarted}

abbrev word_of_test : Bool → Word
word_of_test found = if found then Restarted else Refused UnknownWorker

pub worker_restarts : (w : State) (name : List ℕ) (v : worker.State) → worker_of w.controllers.workers name ≡ Some v → Restarted ≡ restart_word name w
worker_restarts w name v found =
    let own = bytes_eq name w.controllers.master.name in
    sym (ap (λ (o : Option worker.State). word_of_test (own || is_some o)) found ∙ ap word_of_test (or_true own))

pub none_restarts : (w : State) (name : List ℕ) → bytes_eq name w.controllers.master.name ≡ false → worker_of w.controllers.workers name ≡ None → Refused UnknownWorker ≡ restart_word name w
none_restarts w name other none =
    sym (ap (λ b. word_of_test (b || is_some (worker_of w.controllers.workers name))) other ∙ ap (λ (o : Option worker.State). word_of_test (is_some o)) none)
