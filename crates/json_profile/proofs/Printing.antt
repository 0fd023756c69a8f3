-- What follows where a call succeeds, and of what was printed into an empty text.
use Rattle.std.proofs.Common.{◌≡◌, ◌∙◌, [], ◌++◌, Result, Ok, Err, OnOk, ap}
use Rattle.json.specs.Written.{Written}
use Rattle.serde_json.specs.Data.{Data}
use Rattle.json_text.specs.Printed.{data_tokens, IsPrinted}

pub on_three : {T E P Q R S : Type 0} (r : Result T E) → OnOk r P → OnOk r Q → OnOk r R → (P → Q → R → S) → OnOk r S
on_three (Ok x) p q s f = f p q s
on_three (Err e) p q s f = tt

-- nothing stands before it, and its tokens are all
pub alone : {d : Data} {old new : Written} → IsPrinted d old new → old.before ≡ [] → old.tokens ≡ [] → (new.before ≡ []) × (new.tokens ≡ data_tokens d)
alone {d} {old} {new} printed before tokens = (printed.appended.before ∙ before, printed.appended.tokens ∙ ap (λ ts. ts ++ data_tokens d) tokens)
