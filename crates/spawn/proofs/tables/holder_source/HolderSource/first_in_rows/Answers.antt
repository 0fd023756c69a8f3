use Rattle.std.proofs.Common.{◌∙◌, ◌+◌, drop, sym, ap, arith}
use Rattle.std.specs.Option.{option_or}
use Rattle.ticket_rows.specs.Ticket.{ids}
use Rattle.spawn.proofs.Entries.{none_of, some_first}
use Rattle.spawn.proofs.FirstHeld.{next_row}
use Rattle.spawn.specs.FirstHeld.{first_answer, spawn_if_asked}
use Rattle.spawn.proofs.tables.holder_source.HolderSource.first_in_rows.Goals as goal

pub returns-then-is_some : goal.returns-then-is_some
returns-then-is_some c =
    let k = c.args.self.now in
    let h = spawn_if_asked k.ticket.now.rows k.records.now c.args.some in
    let rows = c.args.rows.now in
    let i = c.loop-place.place in
    let later = first_answer h (ids (drop (i + 1) rows)) in
    sym (c.loop-place.invariant ∙ next_row h rows i c.at-row.result.now (omega (arith, c.loop-place-test.true, c.len-place-end.ensures)) c.at-row.ensures ∙ ap (λ o. option_or o later) (sym c.first_in_row-found.ensures)
    ∙ some_first c.first_in_row-found.result later (sym c.is_some.ensures ∙ c.if-is_some.true))

pub loop-place-preserved : goal.loop-place-preserved
loop-place-preserved c =
    let k = c.args.self.now in
    let h = spawn_if_asked k.ticket.now.rows k.records.now c.args.some in
    let rows = c.args.rows.now in
    let i = c.loop-place.place in
    let later = first_answer h (ids (drop (i + 1) rows)) in
    c.loop-place.invariant ∙ next_row h rows i c.at-row.result.now (omega (arith, c.loop-place-test.true, c.len-place-end.ensures)) c.at-row.ensures
    ∙ ap (λ o. option_or o later) (sym c.first_in_row-found.ensures ∙ none_of c.first_in_row-found.result (sym c.is_some.ensures ∙ c.if-is_some.false))
