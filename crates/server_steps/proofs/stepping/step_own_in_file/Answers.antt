use Rattle.server_steps.proofs.OwnSteps.{own_in_file}
use Rattle.server_steps.proofs.stepping.step_own_in_file.Goals as goal

pub returns : goal.returns
returns g c =
    (c.in-Some.at, own_in_file g.row.R.Denot c.args.path.now c.args.to c.in-Some.at c.args.all.items c.args.last c.try_lock-found.result c.step_own_found.result c.try_lock-found.ensures.ok c.step_own_found.ensures.steps, c.step_own_found.ensures.journaled)
