-- What is written of a step of a controller, and what is not.
use Rattle.std.specs.Prelude.{◌≡◌, ◌⊎◌, ◌++◌, ℕ, Bool, not, List, [], ◌∷◌}
use Rattle.std.specs.Prelude.{Option, Some, None, Result, is_ok}
use Rattle.ticket_items.specs.declared.refusal.Refusal.{Refusal}
use Rattle.ticket_items.specs.declared.refusal.Refusal.TheVariants.{Memory}
use Rattle.world_items.specs.declared.reply.Reply.{Reply}
use Rattle.world_items.specs.Word.{word_of}
use Rattle.world_script.specs.AnswerText.{answer_text}
use Rattle.streams.specs.declared.refused.Refused.{Refused as CallRefused}
use Rattle.streams.specs.declared.refused.Refused.TheVariants.{Core}
use Rattle.streams.specs.declared.fault.Fault.{Fault}
use Rattle.streams.specs.declared.fault.Fault.TheVariants.{Input, Device}
use Rattle.stored_state.specs.Held.{GivesNothing, KeptState}
use Rattle.stored_state.specs.Step.{IsLeft, SavesStep, TextStep}

-- ---- what is written

-- the text of a reply or a refusal, and its line
abbrev pub reply_text : Result Reply Refusal → List ℕ
reply_text reply = answer_text (record { word = word_of reply; number = None })

abbrev pub reply_line : Result Reply Refusal → List ℕ
reply_line reply = reply_text reply ++ 10 ∷ []

-- a text on a line of its own, if there is one
abbrev pub text_line : Option (List ℕ) → List ℕ
text_line None = []
text_line (Some text) = text ++ 10 ∷ []

-- the line of the reply, and that of the text that goes out
abbrev pub step_lines : Result Reply Refusal → Option (List ℕ) → List ℕ
step_lines reply sent = reply_line reply ++ text_line sent

-- whether what was asked for was refused
abbrev pub is_refused : Result Reply Refusal → Bool
is_refused reply = not (is_ok reply)

-- ---- steps that aren't given out

-- the fault that a refusal of a step is: what was given is refused, or the keeper failed
abbrev pub fault_of : CallRefused → Fault
fault_of (Core e) = Input (Core e)
fault_of other = Device other

-- why nothing is given out of such a step, and what that leaves: what is given is refused, which
-- changes nothing; or memory ran out, or the keeper failed, in the step; or memory ran out once it
-- was saved
abbrev pub GivesNoOutput : {C K : Type 0} → (K → Bool) → (K → List ℕ) → (K → ℕ)
    → (K → List ℕ → K → Type 0) → (C → List ℕ) → (Refusal → Type 0) → (TextStep C → Type 0)
    → KeptState C K → KeptState C K → Fault → Type 0
GivesNoOutput is_honest held count save_fails state_text Refuses IsStep old new fault =
    ((refused : CallRefused) × (fault ≡ fault_of refused)
    × GivesNothing is_honest held count save_fails Refuses (IsLeft state_text IsStep)
    old new refused)
    ⊎ ((fault ≡ Input (Core Memory)) × SavesStep is_honest held state_text IsStep new)
