-- The texts of messages are those of what they are read as, one by one.
use Rattle.std.proofs.Common.{◌≡◌, ◌∙◌, ℕ, zero, suc, List, [], ◌∷◌, ◌++◌, map, length, slice_get, Some, IfSome, Ok, option_map, ap, sym, refl, subst, length-append, arith}
use Rattle.std.proofs.lemmas.List.Elements.{All-head, All-push, All-tail, filter_map-append}
use Rattle.std.proofs.lemmas.List.{length-map, map-append}
use Rattle.std.proofs.lemmas.Option.{slice_get-map}
use Rattle.std.specs.List.{All, cons_option}
use Rattle.jmf_message.specs.Decoded.{IsDecodedAs}
use Rattle.stored_state.proofs.MessageTexts.{decoded_in}
use Rattle.stored_state.specs.Message.{message_text}
use Rattle.stored_state.specs.Message.{IsMessageText, message_in, messages_in}
use Rattle.plain_shop.specs.Settling.{number_of, with_sent}
use Rattle.world.specs.State.{message_at}

-- ---- one text, and those behind it

first_in : (t : List ℕ) (ts : List (List ℕ)) (is : IsMessageText t) → messages_in (t ∷ ts) ≡ is.message ∷ messages_in ts
first_in t ts is = ap (λ o. cons_option o (messages_in ts)) (decoded_in t is.message is.decoded)

pub texts_of_messages : (ts : List (List ℕ)) → All IsMessageText ts → ts ≡ map message_text (messages_in ts)
texts_of_messages [] all = refl
texts_of_messages (t ∷ ts) all =
    let is = All-head IsMessageText t ts all in
    ap (λ s. s ∷ ts) is.holds
    ∙ ap (λ ss. message_text is.message ∷ ss) (texts_of_messages ts (All-tail IsMessageText t ts all))
    ∙ ap (map message_text) (sym (first_in t ts is))

-- as many are read as there are
pub as_many : (ts : List (List ℕ)) → All IsMessageText ts → length (messages_in ts) ≡ length ts
as_many [] all = refl
as_many (t ∷ ts) all =
    let is = All-head IsMessageText t ts all in
    ap length (first_in t ts is) ∙ ap suc (as_many ts (All-tail IsMessageText t ts all))

-- ---- by number

text_at : (ts : List (List ℕ)) (k : ℕ) → All IsMessageText ts → slice_get ts k ≡ option_map message_text (slice_get (messages_in ts) k)
text_at ts k all = ap (λ ss. slice_get ss k) (texts_of_messages ts all) ∙ slice_get-map message_text (messages_in ts) k

pub place_text : {B : Type 0} (items : B → List ℕ) (texts : List B) (k : ℕ) → All IsMessageText (map items texts) → option_map items (slice_get texts k) ≡ option_map message_text (slice_get (messages_in (map items texts)) k)
place_text items texts k all = sym (slice_get-map items texts k) ∙ text_at (map items texts) k all

pub read_at : (ts : List (List ℕ)) (k : ℕ) → All IsMessageText ts → IfSome (slice_get (messages_in ts) k) (λ m. IsDecodedAs (message_text m) (Ok m))
read_at [] k all = tt
read_at (t ∷ ts) zero all =
    let is = All-head IsMessageText t ts all in
    subst (λ ms. IfSome (slice_get ms 0) (λ m. IsDecodedAs (message_text m) (Ok m))) (sym (first_in t ts is)) (subst (λ s. IsDecodedAs s (Ok is.message)) is.holds is.decoded)
read_at (t ∷ ts) (suc k) all =
    let is = All-head IsMessageText t ts all in
    subst (λ ms. IfSome (slice_get ms (suc k)) (λ m. IsDecodedAs (message_text m) (Ok m))) (sym (first_in t ts is)) (read_at ts k (All-tail IsMessageText t ts all))

pub number_read : (ts : List (List ℕ)) (k : ℕ) → All IsMessageText ts → IfSome (message_at (messages_in ts) k) (λ m. IsDecodedAs (message_text m) (Ok m))
number_read ts zero all = tt
number_read ts (suc k) all = read_at ts k all

pub numbered_text : {B : Type 0} (items : B → List ℕ) (texts : List B) (number : ℕ) → All IsMessageText (map items texts) → option_map items (message_at texts number) ≡ option_map message_text (message_at (messages_in (map items texts)) number)
numbered_text items texts zero all = refl
numbered_text items texts (suc k) all = place_text items texts k all

-- ---- one more

one_more_read : (ts : List (List ℕ)) (t : List ℕ) → IsMessageText t → messages_in (ts ++ t ∷ []) ≡ with_sent (messages_in ts) (message_in t)
one_more_read ts t is =
    filter_map-append message_in ts (t ∷ [])
    ∙ ap (λ ms. messages_in ts ++ ms) (first_in t [] is)
    ∙ sym (ap (with_sent (messages_in ts)) (decoded_in t is.message is.decoded))

mapped : {B : Type 0} (items : B → List ℕ) (old new : List B) (b : B) → new ≡ old ++ b ∷ [] → map items new ≡ map items old ++ items b ∷ []
mapped items old new b is = ap (map items) is ∙ map-append items old (b ∷ [])

pub one_more_there : {B : Type 0} (items : B → List ℕ) (old new : List B) (b : B) → new ≡ old ++ b ∷ [] → All IsMessageText (map items old) → IsMessageText (items b) → All IsMessageText (map items new)
one_more_there items old new b is all text = subst (All IsMessageText) (sym (mapped items old new b is)) (All-push IsMessageText (map items old) (items b) all text)

pub one_more_sent : {B : Type 0} (items : B → List ℕ) (old new : List B) (b : B) → new ≡ old ++ b ∷ [] → IsMessageText (items b) → messages_in (map items new) ≡ with_sent (messages_in (map items old)) (message_in (items b))
one_more_sent items old new b is text = ap messages_in (mapped items old new b is) ∙ one_more_read (map items old) (items b) text

one_longer : {B : Type 0} (old new : List B) (b : B) → new ≡ old ++ b ∷ [] → length new ≡ suc (length old)
one_longer old new b is = omega (arith, ap length is, length-append old (b ∷ []))

pub next_number : {B : Type 0} (items : B → List ℕ) (old new : List B) (b : B) (n : ℕ) → new ≡ old ++ b ∷ [] → All IsMessageText (map items old) → IsMessageText (items b) → n ≡ length new → Some n ≡ number_of (messages_in (map items old)) (message_in (items b))
next_number items old new b n is all text counted =
    ap Some (counted ∙ one_longer old new b is ∙ ap suc (sym (length-map old items)) ∙ sym (ap suc (as_many (map items old) all)))
    ∙ sym (ap (number_of (messages_in (map items old))) (decoded_in (items b) text.message text.decoded))
