use Rattle.std.proofs.Common.{◌≡◌, ◌∙◌, ap}
use Rattle.cells.specs.Chain.{Version, newest}
use Rattle.cell_commands.proofs.beginning.revision_in.Goals as goal

pub returns-in-Ok-clause-goes : goal.returns-in-Ok-clause-goes
returns-in-Ok-clause-goes g c honest = (c.read.ensures honest).goes

pub returns-in-Ok-clause-value : goal.returns-in-Ok-clause-value
returns-in-Ok-clause-value g c honest =
    let value : c.in-Ok.version ≡ newest (g.C.Cell.view c.read.new.self).chain = (c.in-Ok.ensures honest).value in
    c.revision.ensures ∙ ap (λ (v : Version). v.revision) value
