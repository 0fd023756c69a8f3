use Rattle.master_core.proofs.MessageKept.{message_is_kept}
use Rattle.master_core.proofs.MessageLaws.{answer_frees_alone, message_ends_spawns}
use Rattle.master_core.proofs.PartsKept.{message_keeps_spawns}
use Rattle.master_core.proofs.laws.a_message_changes_as_it_ends_a_spawn.Goals as goal

pub returns-clause-ends : goal.returns-clause-ends
returns-clause-ends c = message_ends_spawns

pub returns-clause-answers : goal.returns-clause-answers
returns-clause-answers c = answer_frees_alone

pub returns-clause-kept : goal.returns-clause-kept
returns-clause-kept c = message_is_kept

pub returns-clause-spawns : goal.returns-clause-spawns
returns-clause-spawns c = message_keeps_spawns
