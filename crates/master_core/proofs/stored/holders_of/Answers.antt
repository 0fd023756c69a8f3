use Rattle.std.proofs.Common.{◌∙◌, sym}
use Rattle.master_core.proofs.KeptStored.{kept_by}
use Rattle.master_core.specs.Master.{state}
use Rattle.master_core.proofs.stored.holders_of.Goals as goal

pub returns-clause-kept : goal.returns-clause-kept
returns-clause-kept c =
    kept_by c.holders_by.result (state c.args.name.now c.args.workers.now c.args.ticket.now c.args.records.now) c.holders_by.ensures.valid c.holders_by.ensures.table (sym c.in_ok-are_apart.ensures ∙ c.if-not-branch.false) (sym c.are_numbered.ensures ∙ c.if-not-are_numbered.false)
    (sym c.are_sent.ensures ∙ c.if-not-are_sent.false) c.holders_by.ensures.test
