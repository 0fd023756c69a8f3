use Rattle.std.proofs.Common.{rules, ◌∙◌, ap, map, option_map, sym}
use Rattle.stored_state.specs.Outgoing as out
use Rattle.stored_state.proofs.OutSoFar.{none_more, some_more}
use Rattle.stored_state.proofs.outgoing.returnings_of.Goals as goal
use Rattle.stored_state.proofs.outgoing.returnings_of.Goals.{in-Some, in_default}

pub loop-entry-preserved : goal.loop-entry-preserved
loop-entry-preserved c =
    let l = c.loop-entry in
    elim c.match-returning_of.branch [
      | in-Some w ↦ record {
        out = some_more (out.returning_of c.args.master.now) out.sending_seen c.args.entries.now l.entry-index c.entry-item.result c.entry-item.result w.in-Some.returning l.all.items c.match-returning_of.all.items c.loop-entry-test.true c.entry-item.is l.invariant.out (ap (option_map out.sending_seen) (sym w.in-Some.is) ∙ c.returning_of.ensures) (ap (λ v. v.items) w.all-is ∙ w.push_reserved.ensures.items);
        few = search rules;
        room = search rules;
      }
      | in_default w ↦ record {
        out = none_more (out.returning_of c.args.master.now) out.sending_seen c.args.entries.now l.entry-index c.entry-item.result c.entry-item.result c.match-returning_of.all.items c.loop-entry-test.true c.entry-item.is (ap (λ v. map out.sending_seen v.items) w.all-is ∙ l.invariant.out) (ap (option_map out.sending_seen) (sym w.in_default.is) ∙ c.returning_of.ensures);
        few = search rules;
        room = search rules;
      }
    ]
