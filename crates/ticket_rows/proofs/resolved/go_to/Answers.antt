use Rattle.std.proofs.Common.{◌∙◌, ◌∷◌, [], ◌++◌, ◌-◌, ap, sym, take}
use Rattle.std.proofs.lemmas.List.{map_push, take-map}
use Rattle.ticket_items.proofs.Apart.{texts_of}
use Rattle.ticket_rows.proofs.resolved.go_to.Goals as goal

pub returns : goal.returns
returns c =
    ap texts_of c.in_ok-push.ensures.items ∙ map_push (λ s. s.now) c.truncate.new.self.items c.as_str.result
    ∙ ap (λ ts. texts_of ts ++ c.as_str.result.now ∷ []) (c.truncate.ensures.items ∙ ap (λ n. take n c.args.path.now.items) c.saturating_sub.ensures)
    ∙ ap (λ ts. ts ++ c.as_str.result.now ∷ []) (sym (take-map (λ s. s.now) (c.args.row.now.depth - 1) c.args.path.now.items))
    ∙ ap (λ i. take (c.args.row.now.depth - 1) (texts_of c.args.path.now.items) ++ i ∷ []) c.as_str.ensures.value
