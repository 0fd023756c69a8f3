use Rattle.std.proofs.Common.{[]}
use Rattle.std.proofs.lemmas.Result.{IfErr-weaker, IfOk-weaker}
use Rattle.cells.specs.Kept.{CellKeepView}
use Rattle.keepers.specs.Keeper.{CountRose}
use Rattle.rounds.proofs.Anewed.{all_taken, none_taken}
use Rattle.rounds.proofs.anew.CellKeepRoundKeep.take_round.Goals as goal

pub returns-clause-ok : goal.returns-clause-ok
returns-clause-ok g c =
    IfOk-weaker c.take_anew.result _ _
    (λ taken is. all_taken (λ (keep : CellKeepView _). []) (λ (keep : CellKeepView _). keep.count) c.args.to c.args.at c.args.all.items (taken.0.items, taken.1) c.args.self.now c.take_anew.new.keep is)
    c.take_anew.ensures.taken

pub returns-clause-refused : goal.returns-clause-refused
returns-clause-refused g c =
    IfErr-weaker c.take_anew.result _ _
    (λ e none. none_taken (λ (keep : CellKeepView _). []) (λ (keep : CellKeepView _). keep.count) (λ (old new : CellKeepView _). CountRose old.count new.count) (λ (old : CellKeepView _) text (new : CellKeepView _). CountRose old.count new.count) c.args.to c.args.at c.args.all.items c.args.self.now c.take_anew.new.keep e (λ rose. rose) (λ text rose. rose) none)
    c.take_anew.ensures.refused
