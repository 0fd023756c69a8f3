-- What comes to a controller one after the other, and what is given out of it.
use Rattle.std.proofs.Common.{◌≡◌, ◌∙◌, ◌⊎◌, ◌++◌, ℕ, List, [], ◌∷◌, Option, None, Result, Ok, Err, ap, inl, inr, length, map, refl, subst, suc, sym, ⊎_elim}
use Rattle.std.proofs.lemmas.List.{length-map, map-append}
use Rattle.serde_json.specs.Data.{Data}
use Rattle.ticket_items.specs.declared.refusal.Refusal.{Refusal}
use Rattle.ticket_items.specs.declared.refusal.Refusal.TheVariants.{Memory}
use Rattle.controller.specs.Step.{Step, with_state}
use Rattle.controller.specs.declared.message.Message.{Message}
use Rattle.json_profile.specs.ReadAs.{IsReadAs, IsRefusalOf}
use Rattle.stored_state.specs.Opened.{AnyController}
use Rattle.stored_state.specs.Step.{IsOfOrder, TextStep, in_text}
use Rattle.stored_state.specs.TakingAll.{AreFrom, CausesNone, Gives, GivesOne, IsCausedBy, Makes, OrdersOne, TakesEach, given_by_result, given_by_step, sender_in}
use Rattle.stored_state.specs.declared.coming.Coming.{Coming}
use Rattle.stored_state.specs.declared.taken_bytes.TakenBytes.{TakenBytes}

-- ---- one

module _ {C : Type 0} (seen : C → AnyController) (at : ℕ) (x : Coming) where
  -- a step that is made of a controller of one kind is one of it as any
  pub made_as : (step : Step C Message) (sender : Option (List ℕ)) (c next : C) (taken : Result TakenBytes Refusal) → IsCausedBy at x (seen c) (with_state seen (in_text step)) → ((e : Refusal) → e ≡ Memory → CausesNone x (seen c) e) → sender ≡ sender_in x → Makes step sender c taken next → GivesOne at x (seen c) taken (seen next)
  made_as step sender c next (Ok taken) caused none from makes =
      record { step = Ok (with_state seen (in_text step)); takes = (caused, ap seen makes.1); gives = ap Ok makes.0; sender = makes.2 ∙ from }
  made_as step sender c next (Err e) caused none from makes =
      record { step = Err e; takes = (none e makes.0, ap seen makes.1); gives = refl; sender = tt }

  -- the same of one by an order
  pub ordered_as : {O : Type 0} (reads : Data → Result O Refusal) (does : O → ℕ → C → Step C Message) (bytes : List ℕ) (c next : C) (taken : Result TakenBytes Refusal) → ((step : TextStep AnyController) → IsOfOrder reads bytes (λ o. with_state seen (in_text (does o at c))) step → IsCausedBy at x (seen c) step) → ((e : Refusal) → IsRefusalOf reads bytes e → CausesNone x (seen c) e) → None ≡ sender_in x → OrdersOne reads does bytes at c taken next → GivesOne at x (seen c) taken (seen next)
  ordered_as reads does bytes c next taken caused none from orders =
      ⊎_elim
      (λ made. made_as (does made.0 at c) None c next taken (caused (with_state seen (in_text (does made.0 at c))) (record { order = made.0; read = made.1; is = refl })) (λ e is. none e (inr (inr is))) from made.2)
      (λ why. subst (λ t. GivesOne at x (seen c) t (seen next)) (sym why.2)
      (record { step = Err why.0; takes = (none why.0 why.1, ap seen why.3); gives = refl; sender = tt })) orders

-- ---- some, and then more

each_append : (at : ℕ) (some more : List Coming) (c mid last : AnyController) (steps others : List (Result (TextStep AnyController) Refusal)) → TakesEach at some c steps mid → TakesEach at more mid others last → TakesEach at (some ++ more) c (steps ++ others) last
each_append at [] more c mid last [] others before after = subst (λ x. TakesEach at more x others last) before after
each_append at [] more c mid last (s ∷ steps) others before after = absurd before
each_append at (x ∷ some) more c mid last [] others before after = absurd before
each_append at (x ∷ some) more c mid last (s ∷ steps) others before after =
    (before.0, before.1, each_append at some more before.0 mid last steps others before.2 after)

from_append : (some more : List Coming) (given others : List (Result TakenBytes Refusal)) → AreFrom some given → AreFrom more others → AreFrom (some ++ more) (given ++ others)
from_append [] more [] others before after = after
from_append [] more (g ∷ given) others before after = absurd before
from_append (x ∷ some) more [] others before after = absurd before
from_append (x ∷ some) more (g ∷ given) others before after =
    (before.0, from_append some more given others before.1 after)

-- and the next
pub gives_more : (at : ℕ) (some : List Coming) (x : Coming) (c mid last : AnyController) (given more : List (Result TakenBytes Refusal)) (taken : Result TakenBytes Refusal) → Gives at some c given mid → GivesOne at x mid taken last → more ≡ given ++ taken ∷ [] → Gives at (some ++ x ∷ []) c more last
gives_more at some x c mid last given more taken before after pushed =
    rw pushed
    record {
      steps = before.steps ++ after.step ∷ [];
      each = each_append at some (x ∷ []) c mid last before.steps (after.step ∷ []) before.each (last, after.takes, refl);
      gives = map-append given_by_result given (taken ∷ []) ∙ ap (λ xs. xs ++ map given_by_result (taken ∷ [])) before.gives ∙ ap (λ t. map given_by_step before.steps ++ t ∷ []) after.gives ∙ sym (map-append given_by_step before.steps (after.step ∷ []));
      senders = from_append some (x ∷ []) given (taken ∷ []) before.senders (after.sender, tt);
    }

-- ---- as many as came

each_as_many : (at : ℕ) (all : List Coming) (c last : AnyController) (steps : List (Result (TextStep AnyController) Refusal)) → TakesEach at all c steps last → length steps ≡ length all
each_as_many at [] c last [] takes = refl
each_as_many at [] c last (s ∷ steps) takes = absurd takes
each_as_many at (x ∷ all) c last [] takes = absurd takes
each_as_many at (x ∷ all) c last (s ∷ steps) takes = ap suc (each_as_many at all takes.0 last steps takes.2)

pub as_many : (at : ℕ) (all : List Coming) (c last : AnyController) (given : List (Result TakenBytes Refusal)) → Gives at all c given last → length given ≡ length all
as_many at all c last given gives =
    sym (length-map given given_by_result) ∙ ap length gives.gives ∙ length-map gives.steps given_by_step ∙ each_as_many at all c last gives.steps gives.each
