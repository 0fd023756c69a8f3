use Rattle.std.proofs.Common.{◌∙◌, ap, refl, rules, string_bytes}
use Rattle.jdf_server.specs.Lines.{with_own}
use Rattle.jdf_server.specs.Posting.{owner_at}
use Rattle.jdf_server.proofs.LinesJoined.{changed_new, changed_there, same_queue}
use Rattle.jdf_server.proofs.posting.join_own.Goals as goal

pub returns-in-Some : goal.returns-in-Some
returns-in-Some c =
    changed_there (owner_at c.args.watched.now (string_bytes c.args.path)) (with_own c.args.own) c.args.lines.now _ _ c.as_str.result.now c.in-Some.line.now (record { to = c.in-Some.line.now.to; errands = c.in-Some.line.now.errands; orders = c.in-Some.line.now.orders; own = c.push.new.self }) c.as_str.ensures.value c.in-Some.ensures.value ((c.get_mut.follows.holds (record { to = c.in-Some.line.now.to; errands = c.in-Some.line.now.errands; orders = c.in-Some.line.now.orders; own = c.push.new.self })).3 (search rules)) (same_queue refl refl refl c.in_ok-push.ensures.items)

pub returns : goal.returns
returns c =
    let watched = c.args.watched.now in
    let owner = c.new-line.ensures.owner ∙ c.in_ok-to.ensures ∙ ap (owner_at watched) c.as_str-2.ensures.value in
    changed_new (owner_at watched (string_bytes c.args.path)) (with_own c.args.own) c.args.lines.now c.insert.new.self c.args.path c.as_str.result.now c.get_mut.follows.lender-at-none (record { to = c.new-line.result.to; errands = c.new-line.result.errands; orders = c.new-line.result.orders; own = c.push-2.new.self }) c.get_mut.follows.holds-at-none c.as_str.ensures.value c.in_default.ensures.value c.in_ok-insert.ensures.updates (same_queue owner c.new-line.ensures.items c.new-line.ensures.orders (search rules))
