use Rattle.rounds.specs.Kept.{IsFront, IsUnique}
use Rattle.rounds.proofs.saved_states.SavedStates.make_room.Given as goal

-- only the last went
abbrev pub invariant-loop : goal.invariant-loop
invariant-loop l =
    record {
      front : IsFront l.self-inside.of_path.entries l.initial.self-inside.of_path.entries;
      unique : IsUnique l.self-inside.of_path.entries;
    }
