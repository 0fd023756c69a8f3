use Rattle.ticket_rows.proofs.indexed_rows.IndexedRows.change.Goals as goal

pub invariant_of-self : goal.invariant_of-self
invariant_of-self c = c.change.ensures.index
