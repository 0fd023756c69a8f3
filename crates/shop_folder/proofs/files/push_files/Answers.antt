use Rattle.std.proofs.Common.{refl}
use Rattle.shop_folder.specs.declared.folder_file.FolderFile.{FolderFile}
use Rattle.shop_folder.specs.declared.owner.Owner.TheVariants.{Named}
use Rattle.shop_folder.proofs.FilesFound.{named_lies, one_more}
use Rattle.shop_folder.proofs.files.push_files.Goals as goal

pub returns-in_ok-push-in-File : goal.returns-in_ok-push-in-File
returns-in_ok-push-in-File g c =
    let folder = c.args.folder.now in
    let id = c.in_ok-from_valid-in-File.field-0 in
    let file : FolderFile = record { path = c.in_ok-path.path; owner = Named id } in
    one_more folder file c.args.found.now.items c.push.new.self.items c.requires.others
    (named_lies folder c.args.name.now file id c.requires.name refl c.in_ok-from_valid-in-File.ensures c.in_ok-path.ensures)
    c.in_ok-push-in-File.ensures.items
