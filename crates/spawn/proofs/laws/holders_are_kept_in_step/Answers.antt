use Rattle.spawn.proofs.HoldingsEdited.{edit_keeps_table}
use Rattle.spawn.proofs.HoldingsKept.{claim_is_free, end_keeps_table, spawn_keeps_table}
use Rattle.spawn.proofs.laws.holders_are_kept_in_step.Goals as goal

pub returns-clause-edits : goal.returns-clause-edits
returns-clause-edits c = edit_keeps_table

pub returns-clause-free : goal.returns-clause-free
returns-clause-free c = claim_is_free

pub returns-clause-spawns : goal.returns-clause-spawns
returns-clause-spawns c = spawn_keeps_table

pub returns-clause-ends : goal.returns-clause-ends
returns-clause-ends c = end_keeps_table
