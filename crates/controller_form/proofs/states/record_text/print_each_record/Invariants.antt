use Rattle.std.proofs.Common.{◌≡◌, true, take}
use Rattle.std.specs.List.{list_all}
use Rattle.json_text.proofs.PrintedLists.{IsSoFar}
use Rattle.controller_form.specs.States.RecordForm.{record_data, spawn_has_names, spawn_has_texts}
use Rattle.controller_form.proofs.states.record_text.print_each_record.Given as goal

-- the records so far, and what is known of them
abbrev pub invariant-loop-spawn : goal.invariant-loop-spawn
invariant-loop-spawn l =
    IsSoFar record_data l.records l.spawn-index l.fn.out l.out × (list_all spawn_has_names (take l.spawn-index l.records) ≡ true) × (list_all spawn_has_texts (take l.spawn-index l.records) ≡ true)
