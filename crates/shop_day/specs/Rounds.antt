-- What comes to a controller in a round of a server, with one save behind the last, as lines of a
-- day.
use Rattle.std.specs.Prelude.{◌≡◌, ℕ, Bool, true, List, [], ◌∷◌, map, Option, Some, Result, Ok, Err}
use Rattle.std.specs.Prelude.{IfSome, ⊤}
use Rattle.std.specs.Option.{option_map}
use Rattle.ticket_items.specs.declared.refusal.Refusal.{Refusal}
use Rattle.json_profile.specs.ReadAs.{IsReadAs}
use Rattle.stored_state.specs.AnyStep.{text_of}
use Rattle.stored_state.specs.Opened.{any_state_read}
use Rattle.stored_state.specs.TakingAll.{TakesAll, TakesNone}
use Rattle.stored_state.specs.declared.addressee.Addressee.{Addressee}
use Rattle.stored_state.specs.declared.any_controller.AnyController.{AnyController}
use Rattle.stored_state.specs.declared.coming.Coming.{Coming}
use Rattle.stored_state.specs.declared.coming.Coming.TheVariants as comings
use Rattle.stored_state.specs.declared.taken_bytes.TakenBytes.{TakenBytes}
use Rattle.streams.specs.declared.fault.Fault.TheVariants.{Input}
use Rattle.streams.specs.declared.refused.Refused.{Refused}
use Rattle.streams.specs.declared.refused.Refused.TheVariants.{Core, OtherName}
use Rattle.world.specs.State.{IsConsistent, State, message_at}
use Rattle.file_commands.specs.Step.{fault_of, is_refused, step_lines}
use Rattle.shop_day.specs.Done.{DoLines}
use Rattle.shop_day.specs.Files.{IsFileOf}
use Rattle.shop_day.specs.Laws.{HoldsEither}
use Rattle.shop_day.specs.declared.line.Call.TheVariants.{Order, Take}
use Rattle.shop_day.specs.declared.line.Line.{Line}
use Rattle.shop_day.specs.declared.outcome.Outcome.{Outcome}
use Rattle.shop_day.specs.declared.outcome.Outcome.TheVariants.{Wrote, GaveUp}

-- what comes to the controller of a name at a time is what a line asks for: a message that was sent
-- to it, or an order
abbrev pub IsAskedBy : State → List ℕ → ℕ → Coming → Line → Type 0
IsAskedBy w name at (comings.Message m) l =
    (k : ℕ) × (message_at w.messages k ≡ Some m) × (m.receiver ≡ name)
    × (l ≡ record { call = Take k; at = at })
IsAskedBy w name at (comings.Order text) l = l ≡ record { call = Order name text; at = at }
IsAskedBy w name at (comings.Neither why) l = ⊥

-- each by one of them
abbrev pub AreAskedBy : State → List ℕ → ℕ → List Coming → List Line → Type 0
AreAskedBy w name at [] [] = ⊤
AreAskedBy w name at (x ∷ all) (l ∷ lines) =
    IsAskedBy w name at x l × AreAskedBy w name at all lines
AreAskedBy w name at all lines = ⊥

-- what is given out is what a line writes, and where nothing is, it gives up for the same
abbrev pub IsWrittenAs : Result TakenBytes Refusal → Outcome → Type 0
IsWrittenAs (Ok taken) (Wrote out) =
    (out.text.items ≡ step_lines taken.reply (option_map (λ b. b.items) taken.answer))
    × (out.refused ≡ is_refused taken.reply)
IsWrittenAs (Err e) (GaveUp fault) = fault ≡ Input (Core e)
IsWrittenAs given outcome = ⊥

abbrev pub AreWrittenAs : List (Result TakenBytes Refusal) → List Outcome → Type 0
AreWrittenAs [] [] = ⊤
AreWrittenAs (x ∷ given) (o ∷ outcomes) = IsWrittenAs x o × AreWrittenAs given outcomes
AreWrittenAs given outcomes = ⊥

-- what comes to the controller of a name in a round, with one save behind the last, is as many
-- lines of a day, in turn, each with its own outcome; and an honest keeper is the file of the
-- controller then. A state that was saved is read again as it
abbrev pub RoundIsLines : {K : Type 0} → (K → Bool) → (K → List ℕ) → Type 0
RoundIsLines {K = K} is_honest held =
    (w : State) (name : List ℕ) (to : Addressee) (at : ℕ) (all : List Coming)
    (given : List (Result TakenBytes Refusal)) (saved : Option AnyController) (old new : K)
    (lines : List Line) (outcomes : List Outcome) → IsConsistent w
    → IsFileOf is_honest held w name old → is_honest new ≡ true
    → TakesAll is_honest held to at all given saved old new
    → IfSome saved (λ c. IsReadAs any_state_read (text_of c) (Ok c))
    → AreAskedBy w name at all lines → AreWrittenAs given outcomes
    → (then : State) × DoLines lines outcomes w then × IsFileOf is_honest held then name new

-- where a round gives nothing out, as its one save failed, or its load, or memory ran out, what came
-- is as many lines of a day, in turn, which give up for the same; and what is held is the
-- controller as it was, or as it is behind them all
abbrev pub FailedRoundIsLines : {K : Type 0} → (K → Bool) → (K → List ℕ) → (K → List ℕ) → (K → ℕ)
    → (K → K → Type 0) → (K → List ℕ → K → Type 0) → Type 0
FailedRoundIsLines {K = K} is_honest held place count load_fails save_fails =
    (w : State) (name : List ℕ) (to : Addressee) (at : ℕ) (all : List Coming) (old new : K)
    (why : Refused) (lines : List Line) → IsConsistent w → IsFileOf is_honest held w name old
    → TakesNone is_honest held place count load_fails save_fails to at all old new why
    → ¬ (why ≡ OtherName) → AreAskedBy w name at all lines
    → (then : State) × DoLines lines (map (λ _. GaveUp (fault_of why)) lines) w then
    × HoldsEither held w then name old new
