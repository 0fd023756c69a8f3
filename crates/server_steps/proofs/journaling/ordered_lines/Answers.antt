use Rattle.std.proofs.lemmas.Iterator.{YieldsList-from_slice, YieldsList-from_zip}
use Rattle.std.proofs.lemmas.Iterator.Consumers.{YieldsList-at, YieldsList-end}
use Rattle.stored_state.specs.Addressee.{name_of}
use Rattle.server_steps.specs.OrderLines.{kept_name, order_line, reply_in}
use Rattle.server_steps.proofs.JournalLines.{lines_more}
use Rattle.server_steps.proofs.OrderLines.{all_lines}
use Rattle.server_steps.proofs.journaling.ordered_lines.Goals as goal

pub loop-word-preserved : goal.loop-word-preserved
loop-word-preserved g c =
    lines_more (λ p. order_line (name_of c.args.controller.now) c.args.at (kept_name p.0.now) (reply_in p.1.now)) c.loop-word.lines.items c.push_ordered.new.lines.items c.loop-word.yielded
    (c.in-Some.word, c.in-Some.one) c.loop-word.invariant c.in_ok-push_ordered.ensures

pub returns : goal.returns
returns g c =
    let first = YieldsList-at c.zip-word-items.ensures.first (YieldsList-from_slice {s = c.iter.result} c.args.words.now c.iter.ensures.rest) in
    let second = YieldsList-at c.zip-word-items.ensures.second (YieldsList-from_slice {s = c.iter-2.result} c.args.ordered.now c.iter-2.ensures.rest) in
    let road = YieldsList-at c.into_iter-word-iterator.ensures.into_iter_gives (YieldsList-from_zip {s = c.zip-word-items.result} first second) in
    let all = YieldsList-end road c.loop-word.yielded c.loop-word.word-iterator c.loop-word.yielded_by c.next.result c.next.new.self c.in-None.is c.next.ensures.steps in
    all_lines (name_of c.args.controller.now) c.args.at kept_name reply_in c.args.words.now c.args.ordered.now c.loop-word.yielded c.loop-word.lines.items c.loop-word.invariant all.0
