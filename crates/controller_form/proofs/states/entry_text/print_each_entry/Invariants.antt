use Rattle.std.proofs.Common.{take}
use Rattle.std.specs.List.{All}
use Rattle.json_text.proofs.PrintedLists.{IsSoFar}
use Rattle.controller_form.specs.States.EntryForm.{entry_data}
use Rattle.controller_form.specs.States.StateFormat.{written_format}
use Rattle.controller_form.specs.States.Writable.{IsWritableEntry}
use Rattle.controller_form.proofs.states.entry_text.print_each_entry.Given as goal

-- the entries so far, and what is known of them
abbrev pub invariant-loop-entry : goal.invariant-loop-entry
invariant-loop-entry l =
    IsSoFar (entry_data written_format) l.entries l.entry-index l.fn.out l.out × All IsWritableEntry (take l.entry-index l.entries)
