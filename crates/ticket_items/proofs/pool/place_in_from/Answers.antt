use Rattle.std.proofs.Common.{◌∙◌, sym}
use Rattle.ticket_items.proofs.KeyPlaces.{key_behind, key_in_front}
use Rattle.ticket_items.proofs.pool.place_in_from.Goals as goal

pub returns-in-Some : goal.returns-in-Some
returns-in-Some c =
    key_behind (λ x. x.id) c.args.id.now c.args.pool.now c.split_at.result.0.now c.split_at.result.1.now c.in-Some.place c.split_at.ensures.by_index.0 c.requires (sym c.in-Some.ensures)

pub returns-in-None : goal.returns-in-None
returns-in-None c =
    c.place_in-in-None.ensures ∙ key_in_front (λ x. x.id) c.args.id.now c.args.pool.now c.split_at.result.0.now c.split_at.result.1.now c.split_at.ensures.by_index.0 (sym c.in-None.ensures)
