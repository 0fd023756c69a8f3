use Rattle.std.proofs.Common.{◌≡◌, ◌≤◌, length, map, take, vec_capacity}
use Rattle.std.specs.List.{filter_map}
use Rattle.stored_state.specs.Outgoing as out
use Rattle.stored_state.proofs.outgoing.sendings_of.Given as goal

-- what those so far have out, and there is room for that of the others
abbrev pub invariant-loop-spawned : goal.invariant-loop-spawned
invariant-loop-spawned l =
    record {
      out : map out.sending_seen l.all.items ≡ filter_map out.sending_of (take l.spawned-index l.records);
      few : length l.all.items ≤ l.spawned-index;
      room : length l.records ≤ vec_capacity l.all;
    }
