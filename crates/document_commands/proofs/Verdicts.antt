-- Lines of places where something is refused for anything else.
use Rattle.std.proofs.Common.{◌≡◌, ◌≢◌, ◌++◌, ◌∷◌, ◌∙◌, ℕ, List, [], ap, refl}
use Rattle.std.specs.Prelude.{true, false}
use Rattle.std.specs.List.{flat_map}
use Rattle.std.proofs.lemmas.Bool.{eq-eqb}
use Rattle.std.proofs.lemmas.List.{flat_map_more}
use Rattle.std.proofs.lemmas.List.Elements.{All-nil, All-push}
use Rattle.ticket_items.specs.contracts.refusal.RefusalPartialEq.TheImpl as refusals
use Rattle.ticket_items.specs.declared.refusal.Refusal.{Refusal}
use Rattle.ticket_items.specs.declared.refusal.Refusal.TheVariants.{NotHeld}
use Rattle.fault_finder.specs.declared.place.Place.{Place}
use Rattle.document_commands.specs.CheckCommand.Verdict.{AreOthers, place_line}

-- refusals that aren't told to be equal are others
same : (e : Refusal) → (refusals.ghosts).eq e e ≡ true
same (NotHeld x) = eq-eqb x x refl
same e = refl

pub apart : (a b : Refusal) → (refusals.ghosts).eq a b ≡ false → a ≢ b
apart a b unequal is =
    let equal : (refusals.ghosts).eq a b ≡ true = ap (λ o. (refusals.ghosts).eq o b) is ∙ same b in
    cc

-- no lines are others
pub no_others : (e : Refusal) → AreOthers e []
no_others e = ([], All-nil (λ f. f.0 ≢ e), refl)

-- others stay others with the lines of one more refusal behind them
pub more_others : (e other : Refusal) (places : List Place) (old new : List ℕ) → other ≢ e → AreOthers e old → new ≡ old ++ flat_map (place_line other) places → AreOthers e new
more_others e other places old new differs so is = (
  so.0 ++ (other, places) ∷ [],
  All-push (λ f. f.0 ≢ e) so.0 (other, places) so.1 differs,
  is ∙ (ap (λ lines. lines ++ flat_map (place_line other) places) so.2 ∙ flat_map_more (λ f. flat_map (place_line f.0) f.1) [] so.0 (other, places)),
)
