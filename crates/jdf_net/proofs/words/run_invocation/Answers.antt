use Rattle.std.proofs.Common.{option_map, refl, subst}
use Rattle.streams.specs.Streams.{Traffic, traffic}
use Rattle.jdf_net.specs.Words.{EndsFrom}
use Rattle.jdf_net.proofs.words.run_invocation.Goals as goal

pub returns-in-Some : goal.returns-in-Some
returns-in-Some g c =
    let input : Traffic = traffic g.I.Read.remaining c.args.reader.now c.args.reader.now in
    let output : Traffic = traffic g.W.Write.contents c.args.writer.now c.run_from.new.writer in
    let told : Traffic = traffic g.F.Write.contents c.args.faults.now c.run_from.new.faults in
    subst (λ from. EndsFrom from (option_map (λ path. path.now) c.args.invocation.now.journal) c.args.invocation.now.call input output told c.run_from.result) c.in-Some.ensures (refl, c.run_from.ensures)

pub returns-in-None : goal.returns-in-None
returns-in-None g c =
    let input : Traffic = traffic g.I.Read.remaining c.args.reader.now c.run_journaled.new.reader in
    let output : Traffic = traffic g.W.Write.contents c.args.writer.now c.run_journaled.new.writer in
    let told : Traffic = traffic g.F.Write.contents c.args.faults.now c.run_journaled.new.faults in
    subst (λ from. EndsFrom from (option_map (λ path. path.now) c.args.invocation.now.journal) c.args.invocation.now.call input output told c.run_journaled.result) c.in-None.ensures c.run_journaled.ensures
