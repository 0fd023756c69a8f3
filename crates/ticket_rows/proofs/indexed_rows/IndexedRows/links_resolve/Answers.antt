use Rattle.std.proofs.Common.{◌∙◌, ◌+◌, ◌&&◌, Bool, List, ℕ, false, drop, sym, ap, arith}
use Rattle.std.proofs.lemmas.List.{drop_all, drop_more}
use Rattle.std.specs.List.{list_all}
use Rattle.std.specs.Option.{option_map_or}
use Rattle.ticket_items.specs.declared.link.Link.{Link}
use Rattle.ticket_rows.specs.Homes.{home_of}
use Rattle.ticket_rows.specs.Place.{below}
use Rattle.ticket_rows.proofs.indexed_rows.IndexedRows.links_resolve.Goals as goal

pub loop-link-preserved : goal.loop-link-preserved
loop-link-preserved c p there =
    let f = λ (k : Link). option_map_or {T = List ℕ} {U = Bool} (λ h. below h p) (home_of c.args.self.now k.rref) false in
    let links = c.args.links.now in
    let i = c.loop-link.link-index in
    let rest = list_all f (drop (i + 1) links) in
    sym (ap (list_all f) (drop_more links i c.link-item.result c.loop-link-test.true) ∙ ap (λ b. b && rest) (ap f (sym c.link-item.is) ∙ sym (c.reaches.ensures p there) ∙ c.if-not-reaches.false))
    ∙ c.loop-link.invariant p there

pub returns : goal.returns
returns c p there =
    let f = λ (k : Link). option_map_or {T = List ℕ} {U = Bool} (λ h. below h p) (home_of c.args.self.now k.rref) false in
    sym (ap (list_all f) (drop_all c.loop-link.link-index c.args.links.now (omega (arith, c.loop-link-test.false)))) ∙ c.loop-link.invariant p there
