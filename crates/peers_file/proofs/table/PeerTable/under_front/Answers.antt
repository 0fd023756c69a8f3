use Rattle.std.proofs.Common.{◌∙◌, sym}
use Rattle.std.specs.Option.{option_copied}
use Rattle.peers_file.proofs.Found.{copied_some, front_found, no_front, none_tried, one_tried}
use Rattle.peers_file.proofs.table.PeerTable.under_front.Goals as goal

pub loop-shorter-init : goal.loop-shorter-init
loop-shorter-init c = none_tried c.args.name.now c.args.self.now

pub loop-shorter-preserved : goal.loop-shorter-preserved
loop-shorter-preserved c =
    one_tried c.args.name.now c.args.self.now c.loop-shorter.shorter (option_copied c.under-found.result) c.loop-shorter-test.true
    c.loop-shorter.invariant c.under-found.ensures (copied_some c.under-found.result ∙ sym c.is_some.ensures ∙ c.if-is_some.false)

pub returns-then-is_some : goal.returns-then-is_some
returns-then-is_some c =
    front_found c.args.name.now c.args.self.now c.loop-shorter.shorter (option_copied c.under-found.result) c.loop-shorter-test.true
    c.loop-shorter.invariant c.under-found.ensures (copied_some c.under-found.result ∙ sym c.is_some.ensures ∙ c.if-is_some.true)

pub returns : goal.returns
returns c = no_front c.args.name.now c.args.self.now c.loop-shorter.shorter c.loop-shorter-test.false c.loop-shorter.invariant
