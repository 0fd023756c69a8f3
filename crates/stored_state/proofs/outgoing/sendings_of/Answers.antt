use Rattle.std.proofs.Common.{rules, ◌∙◌, ap, map, option_map, sym}
use Rattle.stored_state.specs.Outgoing as out
use Rattle.stored_state.proofs.OutSoFar.{none_more, some_more}
use Rattle.stored_state.proofs.outgoing.sendings_of.Goals as goal
use Rattle.stored_state.proofs.outgoing.sendings_of.Goals.{in-Some, in_default}

pub loop-spawned-preserved : goal.loop-spawned-preserved
loop-spawned-preserved c =
    let l = c.loop-spawned in
    elim c.match-sending_of.branch [
      | in-Some w ↦ record {
        out = some_more out.sending_of out.sending_seen c.args.records.now l.spawned-index c.spawned-item.result c.spawned-item.result w.in-Some.sending l.all.items c.match-sending_of.all.items c.loop-spawned-test.true c.spawned-item.is l.invariant.out (ap (option_map out.sending_seen) (sym w.in-Some.is) ∙ c.sending_of.ensures) (ap (λ v. v.items) w.all-is ∙ w.push_reserved.ensures.items);
        few = search rules;
        room = search rules;
      }
      | in_default w ↦ record {
        out = none_more out.sending_of out.sending_seen c.args.records.now l.spawned-index c.spawned-item.result c.spawned-item.result c.match-sending_of.all.items c.loop-spawned-test.true c.spawned-item.is (ap (λ v. map out.sending_seen v.items) w.all-is ∙ l.invariant.out) (ap (option_map out.sending_seen) (sym w.in_default.is) ∙ c.sending_of.ensures);
        few = search rules;
        room = search rules;
      }
    ]
