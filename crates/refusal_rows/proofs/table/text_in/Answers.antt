use Rattle.std.proofs.Common.{◌≡◌, ◌∙◌, ℕ, Bool, true, false, List, [], ◌∷◌, Bor, Option, Some, ap, cond, find, map, option_map, refl}
use Rattle.std.specs.Str.{bytes_eq}
use Rattle.refusal_rows.specs.Rows.{text_in}
use Rattle.refusal_rows.proofs.table.text_in.Goals as goal

by_test : (test : Bool) (row : Bor (List ℕ) × Bor (List ℕ)) (more : Option (Bor (List ℕ) × Bor (List ℕ))) (spelled : Option (List ℕ × List ℕ))
    → option_map (λ r. r.1.now) more ≡ option_map (λ r. r.1) spelled → option_map (λ r. r.1.now) (cond test (Some row) more) ≡ option_map (λ r. r.1) (cond test (Some (row.0.now, row.1.now)) spelled)
by_test true row more spelled is = refl
by_test false row more spelled is = is

-- a row is found by its texts
found : (number : List ℕ) (table : List (Bor (List ℕ) × Bor (List ℕ))) → option_map (λ row. row.1.now) (find (λ row. bytes_eq row.0.now number) table) ≡ text_in (map (λ row. (row.0.now, row.1.now)) table) number
found number [] = refl
found number (row ∷ table) = by_test (bytes_eq row.0.now number) row _ _ (found number table)

pub returns-in-None : goal.returns-in-None
returns-in-None c = ap (option_map (λ row. row.1.now)) c.in-None.ensures ∙ found c.args.number.now c.args.table.now

pub returns-in-Some : goal.returns-in-Some
returns-in-Some c = ap (option_map (λ row. row.1.now)) c.in-Some.ensures ∙ found c.args.number.now c.args.table.now
