use Rattle.std.proofs.Common.{◌∙◌, ◌<◌, ◌&&◌, nat_lt, length, rules, subst, sym, ap}
use Rattle.std.proofs.lemmas.Bool.{and_parts}
use Rattle.courier.proofs.Keeping.{IsConsistent-idle, IsConsistent-moved, at-read, turn-once}
use Rattle.courier.specs.Destination.{IsPaced, after_hearing, waits}
use Rattle.courier.specs.Table.{destination_at, waits_at}
use Rattle.courier.specs.Turns.{IsMoved, times}
use Rattle.courier.proofs.courier.Courier.hear_from.Goals as goal

-- a destination that waits has one turn
pub advance-requires : goal.advance-requires
advance-requires c =
    let ds = c.self.inside.lines.items in
    let line = c.args.line in
    let within : line < length ds = search rules in
    let is = at-read ds line c.index_mut.result.now within c.index_mut.ensures.value in
    let ends = ap (λ d. waits d && nat_lt c.args.now d.due) (sym is) ∙ sym c.hear.ensures.ends ∙ c.if-hear.true in
    let waiting = (and_parts (waits_at ds line) (nat_lt c.args.now (destination_at ds line).due) ends).0 in
    let due = c.due_time-due.ensures.value ∙ ap (λ d. d.due) (at-read ds line c.index.result.now within c.index.ensures) in
    ap (λ due. times (record { due = due; line = line }) c.self.inside.schedule.turns) due ∙ turn-once ds c.self.inside.schedule line c.self.invariant waiting

pub invariant_of-self : goal.invariant_of-self
invariant_of-self c =
    let ds = c.self.inside.lines.items in
    let line = c.args.line in
    let within : line < length ds = search rules in
    let is = at-read ds line c.index_mut.result.now within c.index_mut.ensures.value in
    let value = c.hear.ensures.value ∙ ap (after_hearing c.args.now) is in
    let ends = ap (λ d. waits d && nat_lt c.args.now d.due) (sym is) ∙ sym c.hear.ensures.ends ∙ c.if-hear.true in
    let due = c.due_time-due.ensures.value ∙ ap (λ d. d.due) (at-read ds line c.index.result.now within c.index.ensures) in
    let moved = subst (λ due. IsMoved (record { due = due; line = line }) c.args.now c.self.inside.schedule c.advance.new.self) due c.advance.ensures in
    rw value (IsConsistent-moved ds line c.args.now c.self.inside.schedule c.advance.new.self within (subst IsPaced value c.hear.ensures.paced) c.self.invariant ends moved)

pub invariant_of-self-else-hear : goal.invariant_of-self-else-hear
invariant_of-self-else-hear c =
    let ds = c.self.inside.lines.items in
    let line = c.args.line in
    let within : line < length ds = search rules in
    let is = at-read ds line c.index_mut.result.now within c.index_mut.ensures.value in
    let value = c.hear.ensures.value ∙ ap (after_hearing c.args.now) is in
    let idle = ap (λ d. waits d && nat_lt c.args.now d.due) (sym is) ∙ sym c.hear.ensures.ends ∙ c.if-hear.false in
    rw value (IsConsistent-idle ds line c.args.now c.self.inside.schedule within (subst IsPaced value c.hear.ensures.paced) c.self.invariant idle)
