use Rattle.std.proofs.Common.{◌∙◌, ap}
use Rattle.spawn.proofs.NewRecord.{new_changes, new_reads, record_with}
use Rattle.spawn.proofs.spawns.spawning.new_record.Goals as goal

pub returns-clause-ok : goal.returns-clause-ok
returns-clause-ok c =
    let rows = c.args.ticket.now.rows in
    let n = c.args.node in
    let ids = c.args.rw.now in
    let valid = c.in-Some.ensures.valid in
    let changes = c.new.ensures ∙ c.in_ok-copies.ensures.rw ∙ new_changes rows n c.in-Some.here ids valid c.requires.known c.in-Some.ensures.at in
    let reads = c.new-2.ensures ∙ c.in_ok-copies.ensures.ro ∙ new_reads rows n c.in-Some.here ids valid c.requires.known c.in-Some.ensures.at in
    ap (λ x. record_with c.args.id n c.args.worker c.args.at x c.new-2.result) changes ∙ ap (record_with c.args.id n c.args.worker c.args.at _) reads
