use Rattle.shop_page.specs.WorkerJson.{entry_data}
use Rattle.json_text.proofs.PrintedLists.{IsSoFar}
use Rattle.shop_page.proofs.worker_entries.print_entries.Given as goal

-- those so far are printed
abbrev pub invariant-loop-entry : goal.invariant-loop-entry
invariant-loop-entry l = IsSoFar entry_data l.entries l.entry-index l.initial.out l.out
