-- The texts of messages are read as those.
use Rattle.std.proofs.Common.{◌≡◌, ◌∙◌, ℕ, List, Option, Some, None, IfSome, Ok, option_map, option_and_then, ap, sym, subst}
use Rattle.std.specs.Result.{result_ok}
use Rattle.controller.specs.declared.message.Message.{Message}
use Rattle.jmf_message.specs.Decoded.{IsDecodedAs, message_read}
use Rattle.stored_state.specs.Message.{IsMessageText, message_in, message_text}

pub decoded_in : (bytes : List ℕ) (m : Message) → IsDecodedAs bytes (Ok m) → message_in bytes ≡ Some m
decoded_in bytes m is = ap (option_and_then (λ d. result_ok (message_read d))) is.json ∙ ap result_ok is.form

-- ---- the text of a message that goes out

text_is : {B : Type 0} (items : B → List ℕ) (b : B) (m : Message) → Some (items b) ≡ Some (message_text m) → items b ≡ message_text m
text_is items b m same = cc

pub sent_text : {B : Type 0} (items : B → List ℕ) (text : Option B) (sent : Option Message) → option_map items text ≡ option_map message_text sent → IfSome sent (λ m. IsDecodedAs (message_text m) (Ok m)) → IfSome text (λ b. IsMessageText (items b))
sent_text items None sent is again = tt
sent_text items (Some b) None is again = absurd (let e : Some (items b) ≡ None = is in cc)
sent_text items (Some b) (Some m) is again =
    let same = text_is items b m is in
    record { message = m; decoded = subst (λ t. IsDecodedAs t (Ok m)) (sym same) again; holds = same }

-- and the message that it is
pub sent_back : {B : Type 0} (items : B → List ℕ) (text : Option B) (sent : Option Message) → option_map items text ≡ option_map message_text sent → IfSome sent (λ m. IsDecodedAs (message_text m) (Ok m)) → option_and_then message_in (option_map items text) ≡ sent
sent_back items text None is again = ap (option_and_then message_in) is
sent_back items text (Some m) is again = ap (option_and_then message_in) is ∙ decoded_in (message_text m) m again
