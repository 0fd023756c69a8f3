use Rattle.std.proofs.Common.{◌∙◌, ◌∷◌, [], ◌++◌, ◌-◌, ap, sym, take}
use Rattle.std.proofs.lemmas.List.{map_push, take-map}
use Rattle.spawn.proofs.Ancestry.{borrowed}
use Rattle.spawn.proofs.claims.above.go_to.Goals as goal

pub returns : goal.returns
returns c =
    ap borrowed c.in_ok-push.ensures.items ∙ map_push (λ s. s.now) c.truncate.new.self.items c.args.row
    ∙ ap (λ rs. borrowed rs ++ c.args.row.now ∷ []) (c.truncate.ensures.items ∙ ap (λ n. take n c.args.way.now.items) c.saturating_sub.ensures)
    ∙ ap (λ rs. rs ++ c.args.row.now ∷ []) (sym (take-map (λ s. s.now) (c.args.row.now.depth - 1) c.args.way.now.items))
