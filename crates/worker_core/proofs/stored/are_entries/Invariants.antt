use Rattle.std.proofs.Common.{◌≡◌, true, take}
use Rattle.std.specs.List.{All, list_all}
use Rattle.worker_core.specs.Stored.{is_entry}
use Rattle.worker_core.specs.Worker.{IsKeptEntry}
use Rattle.worker_core.proofs.stored.are_entries.Given as goal

-- each entry so far passes, and is as all are that a worker keeps
abbrev pub invariant-loop-entry : goal.invariant-loop-entry
invariant-loop-entry l =
    record {
      test : list_all is_entry (take l.entry-index l.entries) ≡ true;
      kept : All IsKeptEntry (take l.entry-index l.entries);
    }
