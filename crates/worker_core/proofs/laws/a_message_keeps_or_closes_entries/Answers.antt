use Rattle.worker_core.proofs.Kept.{message_is_kept}
use Rattle.worker_core.proofs.MessageLaws.{message_keeps_entries, refusal_changes_nothing}
use Rattle.worker_core.proofs.laws.a_message_keeps_or_closes_entries.Goals as goal

pub returns-clause-entries : goal.returns-clause-entries
returns-clause-entries c = message_keeps_entries

pub returns-clause-answers : goal.returns-clause-answers
returns-clause-answers c = refusal_changes_nothing

pub returns-clause-kept : goal.returns-clause-kept
returns-clause-kept c = message_is_kept
