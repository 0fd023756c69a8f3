use Rattle.std.proofs.Common.{◌∙◌, false, true, sym}
use Rattle.server_steps.proofs.AtPath.{orders_alike, orders_in_file, orders_journal_alike}
use Rattle.server_steps.proofs.order_steps.order_at.Goals as goal

pub returns-then-is_etcd-clause-steps : goal.returns-then-is_etcd-clause-steps
returns-then-is_etcd-clause-steps g c =
    orders_alike _ c.args.path.now c.args.to c.args.now c.args.last c.args.orders.items true _ c.order_in_etcd.result (sym c.if-is_etcd.true ∙ c.is_etcd.ensures) c.order_in_etcd.ensures.steps

pub returns-then-is_etcd-clause-journaled : goal.returns-then-is_etcd-clause-journaled
returns-then-is_etcd-clause-journaled g c honest =
    orders_journal_alike _ c.args.path.now c.args.to c.args.now c.args.last g.J.Journal.held g.J.Journal.is_missed c.args.journal.now c.order_in_etcd.new.journal c.args.orders.items true _ c.order_in_etcd.result (sym c.if-is_etcd.true ∙ c.is_etcd.ensures) (c.order_in_etcd.ensures.journaled honest)

pub returns-clause-steps : goal.returns-clause-steps
returns-clause-steps g c =
    orders_in_file _ c.args.path.now c.args.to c.args.now c.args.last c.args.orders.items _ c.order_in_file.result (sym c.is_etcd.ensures ∙ c.if-is_etcd.false) c.order_in_file.ensures.steps

pub returns-clause-journaled : goal.returns-clause-journaled
returns-clause-journaled g c honest =
    orders_journal_alike _ c.args.path.now c.args.to c.args.now c.args.last g.J.Journal.held g.J.Journal.is_missed c.args.journal.now c.order_in_file.new.journal c.args.orders.items false _ c.order_in_file.result (sym c.if-is_etcd.false ∙ c.is_etcd.ensures) (c.order_in_file.ensures.journaled honest)
