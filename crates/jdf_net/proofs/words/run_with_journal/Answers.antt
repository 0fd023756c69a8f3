use Rattle.std.proofs.Common.{inr}
use Rattle.streams.specs.Streams.{stream}
use Rattle.jdf_net.proofs.words.run_with_journal.Goals as goal

pub returns : goal.returns
returns g c = inr (stream g.F.Write.contents c.run_call-status.new.faults, c.run_call-status.ensures)
