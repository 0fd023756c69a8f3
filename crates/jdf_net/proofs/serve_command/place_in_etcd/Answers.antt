use Rattle.std.proofs.Common.{◌∙◌, None, Some, refl, sym}
use Rattle.std.specs.Prelude.{codes}
use Rattle.jdf_net.proofs.ServedPlaces.{no_other_folder, stripped_end}
use Rattle.jdf_net.proofs.serve_command.place_in_etcd.Goals as goal

pub returns-then-is_etcd : goal.returns-then-is_etcd
returns-then-is_etcd c =
    (stripped_end (codes "/") c.args.text.now (Some c.in-Some.folder) c.in-Some.ensures.cases, sym c.is_etcd.ensures ∙ c.if-is_etcd.true)

pub returns-else-is_etcd : goal.returns-else-is_etcd
returns-else-is_etcd c =
    (refl, no_other_folder c.args.text.now c.in-Some.folder.now (stripped_end (codes "/") c.args.text.now (Some c.in-Some.folder) c.in-Some.ensures.cases) (sym c.is_etcd.ensures ∙ c.if-is_etcd.false))

pub returns-in-None : goal.returns-in-None
returns-in-None c = (refl, λ folder is etcd. stripped_end (codes "/") c.args.text.now None c.in-None.ensures.cases folder is)
