-- What the withdrawal of a spawn makes of a ticket: an audit tells of it, and nothing else is
-- changed.
use Rattle.std.specs.Prelude.{ℕ, ◌++◌, codes}
use Rattle.ticket_items.specs.SpawnId.{spawn_text}
use Rattle.ticket_items.specs.declared.audit.Audit.{Audit}
use Rattle.ticket_items.specs.declared.audit.Audit.TheVariants.{Notification}
use Rattle.ticket_rows.specs.OneRow.{rows_with_audit}
use Rattle.ticket_rows.specs.Ticket.{Job}
use Rattle.spawn.specs.Spawning.{parent_of}
use Rattle.spawn.specs.declared.records.spawn_rec.SpawnRec.{SpawnRec}

-- the audit that tells of a withdrawal (JDF 1.5, 3.11): a note with the spawn's id (our own)
abbrev pub withdrawn_audit : SpawnRec → ℕ → Audit
withdrawn_audit r at = Notification at (codes "Withdrawn " ++ spawn_text r.id)

-- the ticket after a withdrawal: that audit stands last at the parent of the spawned node
abbrev pub job_after_withdrawal : Job → SpawnRec → ℕ → Job
job_after_withdrawal t r at =
    record t { rows = rows_with_audit (parent_of t.rows r.node) (withdrawn_audit r at) t.rows }
