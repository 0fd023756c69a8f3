use Rattle.std.proofs.Common.{Bool, IfErr, subst}
use Rattle.std.proofs.lemmas.Result.{IfErr-weaker}
use Rattle.streams.specs.Streams.{traffic}
use Rattle.stored_state.specs.declared.addressee.Addressee.{Addressee}
use Rattle.keepers.specs.SystemFile.{keep_in_new_file, save_fails}
use Rattle.file_commands.specs.Commands.{BeginsNone}
use Rattle.file_commands.proofs.run.new_in_file.Goals as goal

pub returns-clause-refused : goal.returns-clause-refused
returns-clause-refused g c =
    let input = traffic g.I.Read.remaining c.args.reader.now c.new_noted.new.reader in
    let owner = c.in_ok-to.to in
    IfErr-weaker c.new_noted.result (BeginsNone save_fails c.exists-is_there.result (keep_in_new_file c.args.file.now) owner input) (λ fault. (is_there : Bool) × (to : Addressee) × BeginsNone save_fails is_there (keep_in_new_file c.args.file.now) to input fault) (λ fault why. (c.exists-is_there.result, owner, why))
    (subst (λ keep. IfErr c.new_noted.result (BeginsNone save_fails c.exists-is_there.result keep owner input)) c.create_new-keep.ensures c.new_noted.ensures.refused)
