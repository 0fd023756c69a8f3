use Rattle.std.proofs.Common.{◌≡◌, subst}
use Rattle.std.specs.Prelude.{option_map}
use Rattle.cells.specs.Calls.{Goes}
use Rattle.cells.specs.Chain.{Swap}
use Rattle.cells.specs.Scripted.{ScriptedView, view_of}
use Rattle.cells.proofs.Following.{came_as}
use Rattle.cells.proofs.scripted_cell.ScriptedCell.land_last.Goals as goal

pub returns-clause-goes : goal.returns-clause-goes
returns-clause-goes c =
    let inside : ScriptedView = record { chain = c.self.inside.chain.items; delayed = c.self.inside.delayed.items; script = c.self.inside.script.items } in
    let asked : Swap = record { over = c.into_parts-over.result.0; bytes = option_map (λ b. b.items) c.into_parts-over.result.1 } in
    subst (λ (v : ScriptedView). Goes (view_of v) (view_of c.make.new.self)) c.self.view_is
    (came_as inside c.make.new.self c.in-Some.delayed asked c.pop.new.self.items c.make.result c.into_parts-over.ensures.over c.into_parts-over.ensures.bytes c.in-Some.ensures.items c.make.ensures.made c.make.ensures.other c.make.ensures.err)
