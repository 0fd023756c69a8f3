use Rattle.std.proofs.Common.{refl}
use Rattle.shop_folder.specs.declared.folder_file.FolderFile.{FolderFile}
use Rattle.shop_folder.specs.declared.owner.Owner.TheVariants.{WorkerOf}
use Rattle.shop_folder.proofs.FilesFound.{one_more, worker_lies}
use Rattle.shop_folder.proofs.files.push_worker.Goals as goal

pub returns : goal.returns
returns g c =
    let folder = c.args.folder.now in
    let first = c.in_ok-from_valid.field-0 in
    let second = c.in_ok-from_valid-2.field-0 in
    let file : FolderFile = record { path = c.in_ok-path.path; owner = WorkerOf first second } in
    one_more folder file c.args.found.now.items c.push.new.self.items c.requires.others
    (worker_lies folder c.args.worker.now c.args.master.now file first second c.requires.worker c.requires.master refl c.in_ok-from_valid.ensures c.in_ok-from_valid-2.ensures c.in_ok-path.ensures)
    c.in_ok-push.ensures.items
