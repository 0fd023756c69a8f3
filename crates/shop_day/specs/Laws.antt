-- Laws that tie the lines of a day to the commands over keepers.
use Rattle.std.specs.Prelude.{◌≡◌, ◌⊎◌, ℕ, Bool, false, true, List, Option, Some, Result, Ok}
use Rattle.std.specs.Global.{Vec}
use Rattle.ticket_items.specs.declared.refusal.Refusal.{Refusal}
use Rattle.controller.specs.declared.message.Message.{Message}
use Rattle.jmf_message.specs.Decoded.{IsDecodedAs, IsRefusalOf}
use Rattle.stored_state.specs.AnyStep.{IsHanded, IsNoOrder, IsOrdered, text_of}
use Rattle.stored_state.specs.Held.{KeptState}
use Rattle.stored_state.specs.Message.{message_text}
use Rattle.stored_state.specs.declared.any_controller.AnyController.{AnyController}
use Rattle.streams.specs.declared.command.Output.{Output}
use Rattle.streams.specs.declared.fault.Fault.{Fault}
use Rattle.world.specs.State.{IsConsistent, State, message_at}
use Rattle.world_items.specs.declared.reply.Reply.{Reply}
use Rattle.file_commands.specs.Commands.{GivesHeld, Shows}
use Rattle.file_commands.specs.Opening.{IsLoaded, IsNotLoaded}
use Rattle.file_commands.specs.Step.{GivesNoOutput, is_refused, step_lines}
use Rattle.shop_day.specs.Done.{DoesLine}
use Rattle.shop_day.specs.Files.{IsFileOf, controller_of}
use Rattle.shop_day.specs.declared.line.Call.TheVariants.{Order, Take, Show}
use Rattle.shop_day.specs.declared.line.Line.{Line}
use Rattle.shop_day.specs.declared.outcome.Outcome.TheVariants.{Wrote, GaveUp}

-- a line is done so that this is written, and a keeper is the file of its controller then
abbrev pub WritesLine : {K : Type 0} → (K → Bool) → (K → List ℕ) → Line → List ℕ → State → Output
    → K → Type 0
WritesLine is_honest held l name w out keep =
    (new : State) × DoesLine l w new (Wrote out) × IsFileOf is_honest held new name keep

-- what `order` gives out of the file of a controller is what a line of a day writes
abbrev pub OrderIsLine : {K : Type 0} → (K → Bool) → (K → List ℕ) → (K → List ℕ) → Type 0
OrderIsLine {K = K} is_honest held place =
    (w : State) (name : List ℕ) (bytes : Vec ℕ) (at : ℕ) (keep : K)
    (after : KeptState AnyController K) (reply : Result Reply Refusal) (sent : Option (List ℕ))
    (out : Output) → IsConsistent w → IsFileOf is_honest held w name keep
    → GivesHeld is_honest held place (IsOrdered at) bytes.items keep after reply sent
    → out.text.items ≡ step_lines reply sent → out.refused ≡ is_refused reply
    → WritesLine is_honest held (record { call = Order name bytes; at = at }) name w out after.keep

-- and what `take` does of the text of a message that was sent, which is read as it
abbrev pub TakeIsLine : {K : Type 0} → (K → Bool) → (K → List ℕ) → (K → List ℕ) → Type 0
TakeIsLine {K = K} is_honest held place =
    (w : State) (k at : ℕ) (m : Message) (keep : K) (after : KeptState AnyController K)
    (reply : Result Reply Refusal) (sent : Option (List ℕ)) (out : Output) → IsConsistent w
    → message_at w.messages k ≡ Some m → IsDecodedAs (message_text m) (Ok m)
    → IsFileOf is_honest held w m.receiver keep
    → GivesHeld is_honest held place (IsHanded at) (message_text m) keep after reply sent
    → out.text.items ≡ step_lines reply sent → out.refused ≡ is_refused reply
    → WritesLine is_honest held (record { call = Take k; at = at }) m.receiver w out after.keep

-- what `show` writes of the file of a controller is what a line of a day writes
abbrev pub ShowIsLine : {K : Type 0} → (K → Bool) → (K → List ℕ) → (K → List ℕ) → Type 0
ShowIsLine {K = K} is_honest held place =
    (w : State) (name : List ℕ) (at now : ℕ) (keep : K) (out : Output) (notes : List ℕ)
    → IsFileOf is_honest held w name keep
    → Shows false now is_honest held place keep out.text.items out.refused notes
    → DoesLine (record { call = Show name; at = at }) w w (Wrote out)

-- ---- where nothing is given out

-- a keeper holds what it held of the controllers of a shop, or the text of the controller of a name
-- as it is then
abbrev pub HoldsEither : {K : Type 0} → (K → List ℕ) → State → State → List ℕ → K → K → Type 0
HoldsEither held old new name before since =
    ((new ≡ old) × (held since ≡ held before))
    ⊎ ((c : AnyController) × (controller_of new.controllers name ≡ Some c)
    × (held since ≡ text_of c))

-- where an order gives nothing out of the file of a controller, a line of a day gives up, for the
-- same; and what is held is the controller as it was, or as it is then
abbrev pub FailedOrderIsLine : {K : Type 0} → (K → Bool) → (K → List ℕ) → (K → List ℕ) → (K → ℕ)
    → (K → List ℕ → K → Type 0) → Type 0
FailedOrderIsLine {K = K} is_honest held place count save_fails =
    (w : State) (name : List ℕ) (bytes : Vec ℕ) (at : ℕ) (keep : K)
    (before after : KeptState AnyController K) (fault : Fault) → IsConsistent w
    → IsFileOf is_honest held w name keep → IsLoaded is_honest held place keep before
    → is_honest after.keep ≡ true
    → GivesNoOutput is_honest held count save_fails text_of
    (IsNoOrder bytes.items before.controller)
    (IsOrdered at bytes.items before.controller) before after fault
    → (new : State) × DoesLine (record { call = Order name bytes; at = at }) w new (GaveUp fault)
    × HoldsEither held w new name keep after.keep

-- and so it is where the text of a message that was sent gives nothing out
abbrev pub FailedTakeIsLine : {K : Type 0} → (K → Bool) → (K → List ℕ) → (K → List ℕ) → (K → ℕ)
    → (K → List ℕ → K → Type 0) → Type 0
FailedTakeIsLine {K = K} is_honest held place count save_fails =
    (w : State) (k at : ℕ) (m : Message) (keep : K) (before after : KeptState AnyController K)
    (fault : Fault) → IsConsistent w → message_at w.messages k ≡ Some m
    → IsDecodedAs (message_text m) (Ok m) → IsFileOf is_honest held w m.receiver keep
    → IsLoaded is_honest held place keep before → is_honest after.keep ≡ true
    → GivesNoOutput is_honest held count save_fails text_of (IsRefusalOf (message_text m))
    (IsHanded at (message_text m) before.controller) before after fault
    → (new : State) × DoesLine (record { call = Take k; at = at }) w new (GaveUp fault)
    × HoldsEither held w new m.receiver keep after.keep

-- where none is loaded, it does too, and nothing is changed
abbrev pub NotLoadedIsLine : {K : Type 0} → (K → Bool) → (K → List ℕ) → (K → K → Type 0) → Type 0
NotLoadedIsLine {K = K} is_honest held load_fails =
    (w : State) (name : List ℕ) (bytes : Vec ℕ) (at : ℕ) (keep : K) (fault : Fault)
    → IsFileOf is_honest held w name keep → IsNotLoaded is_honest held load_fails keep fault
    → DoesLine (record { call = Order name bytes; at = at }) w w (GaveUp fault)
