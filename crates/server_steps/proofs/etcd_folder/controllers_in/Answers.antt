use Rattle.std.proofs.Common.{◌≡◌, option_map, subst, sym}
use Rattle.etcd_place.specs.Folder.{etcd_folder_in}
use Rattle.etcd_place.specs.NamedFolder.{named_folder}
use Rattle.server_steps.proofs.ListedFiles.{each_listed}
use Rattle.server_steps.proofs.etcd_folder.controllers_in.Goals as goal

pub returns : goal.returns
returns g c = (
  named_folder c.in-Some.folder,
  sym (subst (λ found. option_map named_folder found ≡ etcd_folder_in c.args.path.now) c.in-Some.is c.of.ensures),
  each_listed c.args.path.now (named_folder c.in-Some.folder).name _ c.in_ok-controllers_of.field-0.items c.in_ok-controllers_of.ensures,
)
