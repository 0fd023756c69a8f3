use Rattle.cells.proofs.Following.{may_behind, swaps_behind}
use Rattle.cells.proofs.Growing.{none_sent, swaps_sends}
use Rattle.cells.proofs.scripted_cell.ScriptedCell.ask.Goals as goal

pub returns-in-Answered : goal.returns-in-Answered
returns-in-Answered c = swaps_behind _ _ _ _ _ c.begin.ensures c.answer.ensures

pub returns-in-Mute : goal.returns-in-Mute
returns-in-Mute c = may_behind _ _ _ _ c.begin.ensures (swaps_sends _ _ _ c.answer-in-Mute.result c.answer-in-Mute.ensures)

pub returns-in-Lost : goal.returns-in-Lost
returns-in-Lost c = none_sent _ _ _ c.begin.ensures

pub returns-in-Delayed : goal.returns-in-Delayed
returns-in-Delayed c = may_behind _ _ _ _ c.begin.ensures c.delay.ensures
