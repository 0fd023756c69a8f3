use Rattle.std.proofs.Common.{◌≡◌, ◌≤◌, length, map, take, vec_capacity}
use Rattle.std.specs.List.{filter_map}
use Rattle.stored_state.specs.Outgoing as out
use Rattle.stored_state.proofs.outgoing.returnings_of.Given as goal

-- what those so far have out, and there is room for that of the others
abbrev pub invariant-loop-entry : goal.invariant-loop-entry
invariant-loop-entry l =
    record {
      out : map out.sending_seen l.all.items ≡ filter_map (out.returning_of l.master) (take l.entry-index l.entries);
      few : length l.all.items ≤ l.entry-index;
      room : length l.entries ≤ vec_capacity l.all;
    }
