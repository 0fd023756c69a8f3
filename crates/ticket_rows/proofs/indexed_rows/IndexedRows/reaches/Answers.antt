use Rattle.std.proofs.Common.{◌∙◌, ◌&&◌, false, sym, ap, nat_lt}
use Rattle.std.proofs.lemmas.Bool.{le-leb, lt-leb}
use Rattle.std.specs.Option.{option_map_or}
use Rattle.ticket_items.proofs.Places.{below_length}
use Rattle.ticket_rows.proofs.AtHome.{holds}
use Rattle.ticket_rows.proofs.LinksByRuns.{not_reached, reached}
use Rattle.ticket_rows.proofs.Shapes.{home_missing}
use Rattle.ticket_rows.specs.Place.{below}
use Rattle.ticket_rows.proofs.indexed_rows.IndexedRows.reaches.Goals as goal

pub returns-in-None : goal.returns-in-None
returns-in-None c p there = sym (ap (λ o. option_map_or (λ h. below h p) o false) (home_missing c.args.id.now c.args.self.now (sym c.in-None.ensures)))

pub run_end-requires : goal.run_end-requires
run_end-requires c = below_length (holds c.args.id.now) c.args.self.now c.in-Some.home (sym c.in-Some.ensures)

pub returns-then-home-place : goal.returns-then-home-place
returns-then-home-place c p there =
    let k = c.args.place in
    let end = c.run_end.result in
    sym (reached c.args.self.now c.args.id.now c.in-Some.home k end p c.requires.tree c.requires.distinct (sym c.in-Some.ensures) c.run_end.ensures.end there
    ∙ ap (λ b. b && nat_lt k end) (le-leb _ _ c.if-home-place.true))

pub returns-else-home-place : goal.returns-else-home-place
returns-else-home-place c p there =
    lt-leb _ _ c.if-home-place.false ∙ sym (not_reached c.args.self.now c.args.id.now c.in-Some.home c.args.place p c.requires.tree c.requires.distinct (sym c.in-Some.ensures) there (lt-leb _ _ c.if-home-place.false))
