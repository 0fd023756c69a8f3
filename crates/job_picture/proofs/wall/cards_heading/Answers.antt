use Rattle.std.proofs.Common.{◌≡◌, ◌++◌, IfOk, append_assoc, codes, decimal, rules, string_bytes, subst}
use Rattle.job_picture.specs.Svg.{label}
use Rattle.job_picture.specs.Wall.{cards_heading, count_left_out, most_cards}
use Rattle.job_picture.proofs.wall.cards_heading.Goals as goal

pub returns : goal.returns
unfolding cards_heading
returns c =
    let n = c.args.count in
    let text : c.as_str.result.now ≡ c.args.words.now ++ codes ": " ++ decimal n ++ count_left_out most_cards n (codes "without room here") = simp append_assoc (rw (← c.in_ok-others.ensures) (search rules)) in
    subst (λ t. IfOk c.label.result (λ made. string_bytes made ≡ label (codes "h") 30 136 t)) text c.label.ensures
