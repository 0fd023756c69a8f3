-- Whether a part that comes back fits, as it is tested.
use Rattle.std.proofs.Common.{◌≡◌, ◌↔◌, Bool, true, false, IsTrue, refl, sym}
use Rattle.ticket_rows.specs.Ticket.{Job}
use Rattle.ticket_tree.specs.Part.{PartCopy}
use Rattle.spawn.specs.declared.records.spawn_rec.SpawnRec.{SpawnRec}
use Rattle.merge.proofs.Fitting.{fits_part, part_fits}
use Rattle.merge.specs.Alike.{is_fit}
use Rattle.merge.specs.Shape.{Fits}

same_test : (b c : Bool) → (b ≡ true → c ≡ true) → (c ≡ true → b ≡ true) → b ≡ c
same_test true c to from = sym (to refl)
same_test false true to from = from refl
same_test false false to from = refl

-- what tells whether a part fits is the test of it
pub fit_told : (b : Bool) (t : Job) (r : SpawnRec) (p : PartCopy) → (IsTrue b ↔ Fits t r p) → b ≡ is_fit t r p
fit_told b t r p tells = same_test b (is_fit t r p) (λ e. fits_part t r p (tells.0 e)) (λ e. tells.1 (part_fits t r p e))
