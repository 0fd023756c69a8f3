use Rattle.std.proofs.Common.{◌≡◌, ◌∙◌, ◌++◌, List, OnOk, ap, map, string_bytes, subst, sym, ℕ}
use Rattle.std.proofs.lemmas.List.{take-map}
use Rattle.job_picture.specs.Wall.{most_cards, placed_cards}
use Rattle.job_picture.proofs.wall.push_first_cards.Goals as goal

pub returns : goal.returns
returns c =
    let same = ap (map string_bytes) c.first_cards.ensures ∙ sym (take-map string_bytes most_cards c.args.cards.now) in
    subst (λ (cards : List (List ℕ)). OnOk c.push_placed_cards.result (c.push_placed_cards.new.text.items ≡ c.args.text.now.items ++ placed_cards cards)) same c.push_placed_cards.ensures
