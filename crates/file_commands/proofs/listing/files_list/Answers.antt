use Rattle.std.proofs.Common.{[], List, subst}
use Rattle.std.proofs.lemmas.List.{take_all}
use Rattle.shop_folder.specs.declared.folder_file.FolderFile.{FolderFile}
use Rattle.file_commands.proofs.ListedFiles.{IsListed, all_listed, listed_at}
use Rattle.file_commands.proofs.listing.files_list.Goals as goal

pub loop-file-init : goal.loop-file-init
loop-file-init g c =
    let none = c.new-listed.ensures in
    record { came = []; of_files = tt; first = none.first; rest = none.rest; notes = none.notes; refused = none.refused }

pub loop-file-preserved : goal.loop-file-preserved
loop-file-preserved g c =
    let step = c.in_ok-push.ensures in
    listed_at c.args.asked c.args.files.now c.loop-file.file-index c.file-item.result step.0 c.loop-file.listed c.push.new.self c.loop-file-test.true c.file-item.is c.loop-file.invariant step.1 step.2

pub returns-clause-ok : goal.returns-clause-ok
returns-clause-ok g c =
    let l = c.loop-file.listed in
    let whole = subst (λ (files : List FolderFile). IsListed c.args.asked files l) (take_all c.loop-file.file-index c.args.files.now c.loop-file-test.false) c.loop-file.invariant in
    all_listed c.args.asked c.args.files.now l c.in_ok-text.field-0.items c.in_ok-text.ensures whole
