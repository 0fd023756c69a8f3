-- The text of the message of a number, and whether it is too long.
use Rattle.std.proofs.Common.{◌≡◌, ◌∙◌, ℕ, zero, suc, false, List, map, Option, Some, None, ap, refl, sym}
use Rattle.std.specs.Global.{Vec}
use Rattle.std.specs.Option.{option_map, option_map_or}
use Rattle.std.proofs.lemmas.Option.{slice_get-map}
use Rattle.controller.specs.declared.message.Message.{Message}
use Rattle.stored_state.specs.Message.{message_text}
use Rattle.world.specs.State.{message_at}
use Rattle.jdf_loop.specs.Losses.{is_too_long}

message_at-map : {X Y : Type 0} (f : X → Y) (xs : List X) (k : ℕ) → message_at (map f xs) k ≡ option_map f (message_at xs k)
message_at-map f xs zero = refl
message_at-map f xs (suc k) = slice_get-map f xs k

-- texts are those of messages, also by number
same_at : (texts : List (Vec ℕ)) (messages : List Message) (k : ℕ) → map (λ (t : Vec ℕ). t.items) texts ≡ map message_text messages → option_map (λ (t : Vec ℕ). t.items) (message_at texts k) ≡ option_map message_text (message_at messages k)
same_at texts messages k same =
    sym (message_at-map (λ (t : Vec ℕ). t.items) texts k) ∙ ap (λ ts. message_at ts k) same ∙ message_at-map message_text messages k

long_so : (found : Option (Vec ℕ)) (m : Option Message) → option_map (λ (t : Vec ℕ). t.items) found ≡ option_map message_text m
    → option_map_or (λ (t : Vec ℕ). is_too_long t.items) found false ≡ option_map_or (λ m. is_too_long (message_text m)) m false
long_so (Some t) (Some m) same =
    let text : t.items ≡ message_text m = cc in
    ap is_too_long text
long_so (Some t) None same = cc
long_so None (Some m) same = cc
long_so None None same = refl

-- whether the message of a number is too long is told by its text
pub long_at : (texts : List (Vec ℕ)) (messages : List Message) (k : ℕ) (found : Option (Vec ℕ)) → map (λ (t : Vec ℕ). t.items) texts ≡ map message_text messages → found ≡ message_at texts k
    → option_map_or (λ (t : Vec ℕ). is_too_long t.items) found false ≡ option_map_or (λ m. is_too_long (message_text m)) (message_at messages k) false
long_at texts messages k found same is =
    long_so found (message_at messages k) (ap (option_map (λ (t : Vec ℕ). t.items)) is ∙ same_at texts messages k same)
