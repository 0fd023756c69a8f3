-- What is answered and stored is what the definitions say: for the master, for a worker that is found, and where none is.
use Rattle.std.proofs.Common.{◌≡◌, List, Option, Some, None, Ok, Err, sym, ap, ◌∙◌}
use Rattle.std.specs.Option.{option_map_or}
use Rattle.controller.specs.declared.message.Message.{Message}
use Rattle.master_core.specs.Master as master
use Rattle.worker_core.specs.Worker as worker
use Rattle.world.specs.Controllers.{Controllers}
use Rattle.world.specs.Happening.{next_answer, next_state}
use Rattle.plain_shop.specs.Settling.{answer_left, answer_without_step, messages_left, state_left}
use Rattle.world.specs.State.{State, state}
use Rattle.controller.specs.Step.{Step}
use Rattle.world_items.specs.Word.{word_of}
use Rattle.plain_shop.specs.Step.{StepOrWord}
use Rattle.world.specs.Stepping.{master_moved, worker_moved}
use Rattle.world_items.specs.declared.stop.Stop.{Stop}
use Rattle.world_items.specs.declared.stop.Stop.TheVariants.{Run, BeforeSave, BeforeSend}
use Rattle.world_items.specs.declared.word.Word.{Word}

pub master_settled : (stop : Stop) (m stored : master.State) (workers : List worker.State) (old new : List Message) (moved : Step master.State Message) → stored ≡ state_left stop m moved.next → new ≡ messages_left stop old moved.sent
    → state stored workers new ≡ next_state stop (state m workers old) (Ok (master_moved (record { master = m; workers = workers }) moved))
master_settled Run m stored workers old new moved is sent = λ i. state (is i) workers (sent i)
master_settled BeforeSave m stored workers old new moved is sent = λ i. state (is i) workers (sent i)
master_settled BeforeSend m stored workers old new moved is sent = λ i. state (is i) workers (sent i)

-- the step of a worker that is looked for
abbrev pub step_of_found : State → (worker.State → Step worker.State Message) → Word → Option worker.State → StepOrWord Controllers Message
step_of_found w f word found = option_map_or (λ v. Ok (worker_moved w.controllers v (f v))) found (Err word)

pub none_answers : (stop : Stop) (w : State) (f : worker.State → Step worker.State Message) (word : Word) (found : Option worker.State) → found ≡ None → answer_without_step word ≡ next_answer stop w (step_of_found w f word found)
none_answers stop w f word found none = sym (ap (λ o. next_answer stop w (step_of_found w f word o)) none)

pub none_settles : (stop : Stop) (w : State) (f : worker.State → Step worker.State Message) (word : Word) (found : Option worker.State) → found ≡ None → w ≡ next_state stop w (step_of_found w f word found)
none_settles stop w f word found none = sym (ap (λ o. next_state stop w (step_of_found w f word o)) none)

pub found_answers : (stop : Stop) (w : State) (f : worker.State → Step worker.State Message) (word : Word) (found : Option worker.State) (x : worker.State) (moved : Step worker.State Message) → found ≡ Some x → moved ≡ f x
    → answer_left stop w.messages (word_of moved.reply) moved.sent ≡ next_answer stop w (step_of_found w f word found)
found_answers stop w f word found x moved there is =
    ap (λ (v : Step worker.State Message). answer_left stop w.messages (word_of v.reply) v.sent) is ∙ sym (ap (λ o. next_answer stop w (step_of_found w f word o)) there)

pub found_settles : (stop : Stop) (w : State) (f : worker.State → Step worker.State Message) (word : Word) (found : Option worker.State) (x : worker.State) (moved : Step worker.State Message) → found ≡ Some x → moved ≡ f x
    → next_state stop w (Ok (worker_moved w.controllers x moved)) ≡ next_state stop w (step_of_found w f word found)
found_settles stop w f word found x moved there is =
    ap (λ v. next_state stop w (Ok (worker_moved w.controllers x v))) is ∙ sym (ap (λ o. next_state stop w (step_of_found w f word o)) there)

-- the step of one that is found
pub found_settled_as : (w : State) (f : worker.State → Step worker.State Message) (word : Word) (found : Option worker.State) (x : worker.State) → found ≡ Some x
    → step_of_found w f word found ≡ Ok (worker_moved w.controllers x (f x))
found_settled_as w f word found x there = ap (step_of_found w f word) there
