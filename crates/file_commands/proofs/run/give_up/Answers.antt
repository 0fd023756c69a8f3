use Rattle.std.proofs.Common.{subst, sym}
use Rattle.document_commands.specs.Caused.{TellsCaused}
use Rattle.file_commands.specs.Ends.{TellsInFile}
use Rattle.file_commands.proofs.Told.{told_alone}
use Rattle.file_commands.proofs.run.give_up.Goals as goal
use Rattle.streams.specs.Streams.{Traffic, traffic}

pub returns-in-List-clause-told : goal.returns-in-List-clause-told
returns-in-List-clause-told g c =
    let told : Traffic = traffic g.F.Write.contents c.args.faults.now c.give_up_caused.new.faults in
    subst (λ k. TellsInFile k c.args.fault told) (sym c.in-List.is)
    (subst (λ f. TellsCaused f told) c.at_path-caused.ensures c.give_up_caused.ensures.errors)

pub returns-in_default-clause-told : goal.returns-in_default-clause-told
returns-in_default-clause-told g c = told_alone c.args.call c.args.fault _ c.in_default.not-List c.tell.ensures
