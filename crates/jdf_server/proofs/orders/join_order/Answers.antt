use Rattle.std.proofs.Common.{◌∙◌, refl, rules}
use Rattle.jdf_server.specs.Lines.{with_order}
use Rattle.jdf_server.proofs.LinesJoined.{changed_new, changed_there, same_queue}
use Rattle.jdf_server.proofs.orders.join_order.Goals as goal

pub returns-in-Some : goal.returns-in-Some
returns-in-Some c =
    changed_there c.args.route.to (with_order c.args.order) c.args.lines.now _ _ c.as_str.result.now c.in-Some.line.now (record { to = c.in-Some.line.now.to; errands = c.in-Some.line.now.errands; orders = c.push.new.self; own = c.in-Some.line.now.own }) c.as_str.ensures.value c.in-Some.ensures.value ((c.get_mut.follows.holds (record { to = c.in-Some.line.now.to; errands = c.in-Some.line.now.errands; orders = c.push.new.self; own = c.in-Some.line.now.own })).3 (search rules)) (same_queue refl refl c.in_ok-push.ensures.items refl)

pub returns : goal.returns
returns c =
    changed_new c.args.route.to (with_order c.args.order) c.args.lines.now c.insert.new.self c.args.route.path c.as_str.result.now c.get_mut.follows.lender-at-none (record { to = c.new-line.result.to; errands = c.new-line.result.errands; orders = c.push-2.new.self; own = c.new-line.result.own }) c.get_mut.follows.holds-at-none c.as_str.ensures.value c.in_default.ensures.value c.in_ok-insert.ensures.updates (same_queue c.new-line.ensures.owner c.new-line.ensures.items (search rules) c.new-line.ensures.own)
