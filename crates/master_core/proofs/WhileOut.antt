-- What comes of the record of a spawn, as that is out or isn't.
use Rattle.std.proofs.Common.{◌≡◌, ◌∙◌, Bool, true, false, Option, Some, None, cond, refl, sym, ap}
use Rattle.std.proofs.lemmas.Bool.{true≢false}
use Rattle.std.specs.Option.{option_map_or}
use Rattle.controller.specs.Step.{Taking}
use Rattle.spawn.specs.Records.{is_out}
use Rattle.spawn.specs.declared.records.spawn_rec.SpawnRec.{SpawnRec}
use Rattle.master_core.specs.Master.{State}
use Rattle.master_core.specs.Messages.{while_out}

-- the record of a spawn that is out
pub out_record : (o : Option SpawnRec) → option_map_or is_out o false ≡ true → (r : SpawnRec) × (o ≡ Some r) × (is_out r ≡ true)
out_record None out = absurd (true≢false (sym out))
out_record (Some r) out = (r, refl, out)

pub made_out : (made : SpawnRec → Taking State) (other : Taking State) (o : Option SpawnRec) (r : SpawnRec) → o ≡ Some r → is_out r ≡ true → while_out made other o ≡ made r
made_out made other o r found out = ap (while_out made other) found ∙ ap (λ b. cond b (made r) other) out

pub made_in : (made : SpawnRec → Taking State) (other : Taking State) (o : Option SpawnRec) → option_map_or is_out o false ≡ false → while_out made other o ≡ other
made_in made other None out = refl
made_in made other (Some r) out = ap (λ b. cond b (made r) other) out

-- what holds of two holds of either
pub either_so : (P : Taking State → Type 0) (b : Bool) (x y : Taking State) → P x → P y → P (cond b x y)
either_so P true x y p q = p
either_so P false x y p q = q

-- and of what comes of the record of a spawn
pub while_out_so : (P : Taking State → Type 0) (made : SpawnRec → Taking State) (other : Taking State) (o : Option SpawnRec) → ((r : SpawnRec) → P (made r)) → P other → P (while_out made other o)
while_out_so P made other None p q = q
while_out_so P made other (Some r) p q = either_so P (is_out r) (made r) other (p r) q
