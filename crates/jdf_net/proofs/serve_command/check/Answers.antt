use Rattle.std.proofs.Common.{◌≡◌, ◌∙◌, ap, is_some, option_map, subst, sym}
use Rattle.std.proofs.lemmas.Bool.{true≢false}
use Rattle.etcd_place.specs.Folder.{etcd_folder_in}
use Rattle.etcd_place.specs.NamedFolder.{named_folder}
use Rattle.jdf_net.specs.ServeCommand.{IsNowhere}
use Rattle.jdf_net.proofs.serve_command.check.Goals as goal

pub returns-in-File : goal.returns-in-File
returns-in-File g c nowhere =
    let at = subst IsNowhere c.in-File.is nowhere in
    c.check_path.ensures at.0 at.1

pub returns-then-not-is_etcd : goal.returns-then-not-is_etcd
returns-then-not-is_etcd g c nowhere =
    let at = subst IsNowhere c.in-Folder.is nowhere in
    absurd (true≢false (sym at.0 ∙ sym c.is_etcd.ensures ∙ c.if-not-is_etcd.true))

pub returns-in-Some : goal.returns-in-Some
returns-in-Some g c nowhere =
    let at = subst IsNowhere c.in-Folder.is nowhere in
    absurd (true≢false (ap is_some (subst (λ found. option_map named_folder found ≡ etcd_folder_in c.in-Folder.path.now) c.in-Some.is c.of.ensures ∙ at.1)))
