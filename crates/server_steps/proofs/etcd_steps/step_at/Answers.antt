use Rattle.std.proofs.Common.{◌∙◌, true, false, sym}
use Rattle.server_steps.proofs.AtPath.{journal_alike, steps_alike, steps_in_file}
use Rattle.server_steps.proofs.etcd_steps.step_at.Goals as goal

pub returns-then-is_etcd-clause-steps : goal.returns-then-is_etcd-clause-steps
returns-then-is_etcd-clause-steps g c =
    steps_alike _ c.args.path.now c.args.to c.args.now c.args.last c.args.errands.items true _ c.step_in_etcd.result (sym c.if-is_etcd.true ∙ c.is_etcd.ensures) c.step_in_etcd.ensures.steps

pub returns-then-is_etcd-clause-journaled : goal.returns-then-is_etcd-clause-journaled
returns-then-is_etcd-clause-journaled g c honest =
    journal_alike _ c.args.path.now c.args.to c.args.now c.args.last g.J.Journal.held g.J.Journal.is_missed c.args.journal.now c.step_in_etcd.new.journal c.args.errands.items true _ c.step_in_etcd.result (sym c.if-is_etcd.true ∙ c.is_etcd.ensures) (c.step_in_etcd.ensures.journaled honest)

pub returns-clause-steps : goal.returns-clause-steps
returns-clause-steps g c =
    steps_in_file _ c.args.path.now c.args.to c.args.now c.args.last c.args.errands.items _ c.step_in_file.result (sym c.is_etcd.ensures ∙ c.if-is_etcd.false) c.step_in_file.ensures.steps

pub returns-clause-journaled : goal.returns-clause-journaled
returns-clause-journaled g c honest =
    journal_alike _ c.args.path.now c.args.to c.args.now c.args.last g.J.Journal.held g.J.Journal.is_missed c.args.journal.now c.step_in_file.new.journal c.args.errands.items false _ c.step_in_file.result (sym c.if-is_etcd.false ∙ c.is_etcd.ensures) (c.step_in_file.ensures.journaled honest)
