use Rattle.master_core.proofs.master.Master.do_order.Goals as goal

pub returns-in-Resend : goal.returns-in-Resend
returns-in-Resend c = rw c.in-Resend.is (c.do_resend.ensures c.args.at)

pub returns-in-Withdraw : goal.returns-in-Withdraw
returns-in-Withdraw c = rw c.in-Withdraw.is (c.do_withdraw.ensures c.args.at)
