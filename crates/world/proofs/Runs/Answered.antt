-- What holds of a result holds as more is known.
use Rattle.std.proofs.Common.{◌≡◌, List, Option, Some, None, IfOk, IfSome, IsErr, Result, Ok, Err, OnOk, OnErr, refl, subst, sym}
use Rattle.std.proofs.lemmas.Bool.{true≢false}
use Rattle.plain_shop.specs.Settling.{messages_left, state_left, with_sent}
use Rattle.world_items.specs.declared.stop.Stop.{Stop}
use Rattle.world_items.specs.declared.stop.Stop.TheVariants.{Run, BeforeSave, BeforeSend}

pub on_ok : {C E : Type 0} (P Q R : Type 0) (r : Result C E) → OnOk r P → OnOk r Q → (P → Q → R) → OnOk r R
on_ok P Q R (Ok m) p q go = go p q
on_ok P Q R (Err e) p q go = tt

pub if_some : {A : Type 0} (P Q : A → Type 0) (o : Option A) → ((x : A) → P x → Q x) → IfSome o P → IfSome o Q
if_some P Q None f p = tt
if_some P Q (Some x) f p = f x p

pub on_err : {C E : Type 0} (P : Type 0) (r : Result C E) → P → OnErr r P
on_err P (Ok m) p = tt
on_err P (Err e) p = p

-- what holds of a result holds of another that has the same value, or is refused where it is
pub if_ok_by : {T E F : Type 0} (r : Result T E) (s : Result T F) (P : T → Type 0) → IfOk s (λ x. r ≡ Ok x) → IfOk r P → IfOk s P
if_ok_by r (Ok x) P is p = subst (λ q. IfOk q P) is p
if_ok_by r (Err e) P is p = tt

pub on_err_by : {T E F : Type 0} (r : Result T E) (s : Result T F) (P : Type 0) → OnErr s (IsErr r) → OnErr r P → OnErr s P
on_err_by (Ok x) (Ok y) P is p = tt
on_err_by (Ok x) (Err e) P is p = absurd (true≢false (sym is))
on_err_by (Err f) (Ok y) P is p = tt
on_err_by (Err f) (Err e) P is p = p

-- a step that isn't lost is stored
pub stored_so : {S : Type 0} (stop : Stop) (old next : S) → ¬ (stop ≡ BeforeSave) → next ≡ state_left stop old next
stored_so Run old next kept = refl
stored_so BeforeSave old next kept = absurd (kept refl)
stored_so BeforeSend old next kept = refl

-- and with no stop its message is sent
pub sent_so : {M : Type 0} (stop : Stop) (messages : List M) (sent : Option M) → ¬ (stop ≡ BeforeSave) → ¬ (stop ≡ BeforeSend) → with_sent messages sent ≡ messages_left stop messages sent
sent_so Run messages sent kept runs = refl
sent_so BeforeSave messages sent kept runs = absurd (kept refl)
sent_so BeforeSend messages sent kept runs = absurd (runs refl)
