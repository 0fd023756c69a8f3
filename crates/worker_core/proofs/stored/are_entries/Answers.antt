use Rattle.std.proofs.Common.{◌≡◌, ◌∙◌, ◌+◌, ◌++◌, ◌∷◌, [], true, sym, ap, take}
use Rattle.std.proofs.lemmas.List.Elements.{All-push, All-same}
use Rattle.std.specs.List.{list_all}
use Rattle.worker_core.proofs.KeptStored.{front_more, passes_more}
use Rattle.worker_core.specs.Stored.{is_entry}
use Rattle.worker_core.specs.Worker.{IsKeptEntry}
use Rattle.worker_core.proofs.stored.are_entries.Goals as goal

pub loop-entry-preserved : goal.loop-entry-preserved
loop-entry-preserved c =
    let entries = c.args.entries.now in
    let i = c.loop-entry.entry-index in
    let e = c.entry-item.result in
    let more : take (i + 1) entries ≡ take i entries ++ e ∷ [] = front_more entries i e c.loop-entry-test.true c.entry-item.is in
    let passes : is_entry e ≡ true = sym c.is_entry.ensures.test ∙ c.if-not-is_entry.false in
    record {
      test = ap (list_all is_entry) more ∙ passes_more (take i entries) e c.loop-entry.invariant.test passes;
      kept = All-same IsKeptEntry (take (i + 1) entries) (take i entries ++ e ∷ []) more (All-push IsKeptEntry (take i entries) e c.loop-entry.invariant.kept (c.is_entry.ensures.kept c.if-not-is_entry.false));
    }
