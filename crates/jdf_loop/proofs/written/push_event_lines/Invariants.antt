use Rattle.jdf_loop.proofs.EventLines.{IsSoFar}
use Rattle.jdf_loop.proofs.written.push_event_lines.Given as goal

abbrev pub invariant-loop-line : goal.invariant-loop-line
invariant-loop-line l = IsSoFar l.lines l.line-index l.fn.text.items l.text.items
