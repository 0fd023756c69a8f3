use Rattle.std.proofs.Common.{◌≡◌, ◌∙◌, ap, option_map, subst, sym}
use Rattle.etcd_place.specs.Named.{named}
use Rattle.etcd_place.specs.Place.{etcd_place_in}
use Rattle.server_steps.specs.InEtcd.{EtcdKeep}
use Rattle.server_steps.proofs.etcd_steps.keep_for.Goals as goal

pub returns : goal.returns
returns g c =
    record {
      named = named c.in-Some.place;
      place = sym (subst (λ found. option_map named found ≡ etcd_place_in c.args.path.now) c.in-Some.is c.of.ensures.place);
      gateway = ap (λ (keep : EtcdKeep _). keep.cell.gateway) c.over.ensures ∙ c.in_ok-cell.ensures.0;
      key = ap (λ (keep : EtcdKeep _). keep.cell.key) c.over.ensures ∙ c.in_ok-cell.ensures.1;
    }
