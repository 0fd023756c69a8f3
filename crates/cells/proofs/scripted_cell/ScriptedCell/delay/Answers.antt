use Rattle.std.proofs.Common.{◌≡◌, subst}
use Rattle.std.specs.Prelude.{is_ok, option_map}
use Rattle.cells.specs.Calls.{MayMake}
use Rattle.cells.specs.Chain.{Swap}
use Rattle.cells.specs.Scripted.{ScriptedView, view_of}
use Rattle.cells.proofs.Following.{delayed_more}
use Rattle.cells.proofs.scripted_cell.ScriptedCell.delay.Goals as goal

pub returns : goal.returns
returns c =
    let inside : ScriptedView = record { chain = c.self.inside.chain.items; delayed = c.self.inside.delayed.items; script = c.self.inside.script.items } in
    let new : ScriptedView = record { chain = c.self.inside.chain.items; delayed = c.push.new.self.items; script = c.self.inside.script.items } in
    let sent = subst (λ (s : Swap). MayMake (view_of inside) s (view_of new)) c.new.ensures (delayed_more inside c.new.result c.push.new.self.items (is_ok c.push.result) c.push.ensures.items) in
    subst (λ (v : ScriptedView). MayMake (view_of v) (record { over = c.args.over; bytes = option_map (λ b. b.items) c.args.bytes }) (view_of new)) c.self.view_is sent
