-- The message of a number, and its text.
use Rattle.std.proofs.Common.{◌≡◌, ◌∙◌, ℕ, zero, suc, true, false, List, [], ◌∷◌, ◌++◌, length, map, Option, Some, None, is_some, slice_get, Ok, Err, ap, refl, sym}
use Rattle.std.proofs.lemmas.Bool.{true≢false}
use Rattle.std.proofs.lemmas.Option.{slice_get-map}
use Rattle.std.specs.Borrow.{Bor}
use Rattle.std.specs.Global.{Vec}
use Rattle.std.specs.Option.{option_and_then, option_copied, option_map}
use Rattle.controller.specs.declared.message.Message.{Message}
use Rattle.stored_state.specs.Message.{message_text}
use Rattle.plain_shop.specs.Settling.{message_at, number_of, with_sent}
use Rattle.plain_shop.specs.Step.{StepOrWord}
use Rattle.world.specs.Controllers.{Controllers}
use Rattle.world.specs.Happening.{next_answer, next_state}
use Rattle.world.specs.State.{State}
use Rattle.world_items.specs.declared.stop.Stop.{Stop}
use Rattle.world_items.specs.declared.stop.Stop.TheVariants.{Run, BeforeSave, BeforeSend}
use Rattle.shop_day.specs.Done.{text_at}

message_at-map : {X Y : Type 0} (f : X → Y) (xs : List X) (k : ℕ) → message_at (map f xs) k ≡ option_map f (message_at xs k)
message_at-map f xs zero = refl
message_at-map f xs (suc k) = slice_get-map f xs k

pub some-map : {X Y : Type 0} (f : X → Y) (o : Option X) → is_some (option_map f o) ≡ is_some o
some-map f None = refl
some-map f (Some x) = refl

pub none_so : {X : Type 0} (o : Option X) → is_some o ≡ false → o ≡ None
none_so None is = refl
none_so (Some x) is = absurd (true≢false is)

pub numbered_some : {X : Type 0} (xs : List X) (k : ℕ) (x : X) → message_at xs k ≡ Some x → is_some (message_at xs k) ≡ true
numbered_some xs k x found = ap is_some found

-- what stands for the same has the same numbers
pub numbered_alike : {X Y Z : Type 0} (f : X → Z) (g : Y → Z) (xs : List X) (ys : List Y) (k : ℕ) → map f xs ≡ map g ys → is_some (message_at xs k) ≡ is_some (message_at ys k)
numbered_alike f g xs ys k same =
    sym (some-map f (message_at xs k)) ∙ ap is_some (sym (message_at-map f xs k)) ∙ ap (λ zs. is_some (message_at zs k)) same ∙ ap is_some (message_at-map g ys k) ∙ some-map g (message_at ys k)

pub numbered-map : {X Y : Type 0} (f : X → Y) (xs : List X) (k : ℕ) → is_some (message_at (map f xs) k) ≡ is_some (message_at xs k)
numbered-map f xs k = ap is_some (message_at-map f xs k) ∙ some-map f (message_at xs k)

-- a reference and what is behind it
pub some_copied : {X : Type 0} (found : Option (Bor X)) → is_some (option_copied found) ≡ is_some found
some_copied None = refl
some_copied (Some r) = refl

-- texts are numbered as their messages
pub texts_numbered : (texts : List (Vec ℕ)) (messages : List Message) (k : ℕ) → map (λ (t : Vec ℕ). t.items) texts ≡ map message_text messages → is_some (message_at texts k) ≡ is_some (message_at messages k)
texts_numbered texts messages k same = numbered_alike (λ (t : Vec ℕ). t.items) message_text texts messages k same

-- texts are those of messages, also by number
pub same_at : (texts : List (Vec ℕ)) (messages : List Message) (k : ℕ) → map (λ (t : Vec ℕ). t.items) texts ≡ map message_text messages → option_map (λ (t : Vec ℕ). t.items) (message_at texts k) ≡ text_at messages (Some k)
same_at texts messages k same =
    sym (message_at-map (λ (t : Vec ℕ). t.items) texts k) ∙ ap (λ ts. message_at ts k) same ∙ message_at-map message_text messages k

-- ---- what a step sends

last_there : {X : Type 0} (xs : List X) (x : X) → slice_get (xs ++ x ∷ []) (length xs) ≡ Some x
last_there [] x = refl
last_there (y ∷ xs) x = last_there xs x

-- the message that is sent has the number that is told
pub sent_there : {M : Type 0} (messages : List M) (sent : Option M) → option_and_then (message_at (with_sent messages sent)) (number_of messages sent) ≡ sent
sent_there messages None = refl
sent_there messages (Some m) = last_there messages m

numbered_so : (messages : List Message) (sent : Option Message) → is_some (text_at (with_sent messages sent) (number_of messages sent)) ≡ is_some (number_of messages sent)
numbered_so messages None = refl
numbered_so messages (Some m) = ap (λ o. is_some (option_map message_text o)) (last_there messages m)

-- a number is told just where there is such a text
pub told_numbered : (stop : Stop) (w : State) (step : StepOrWord Controllers Message) → is_some (text_at (next_state stop w step).messages (next_answer stop w step).number) ≡ is_some (next_answer stop w step).number
told_numbered Run w (Ok moved) = numbered_so w.messages moved.sent
told_numbered BeforeSave w (Ok moved) = refl
told_numbered BeforeSend w (Ok moved) = refl
told_numbered stop w (Err word) = refl
