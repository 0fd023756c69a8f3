use Rattle.std.proofs.Common.{◌≡◌, ◌∙◌, ap, is_some, option_map, refl, subst, sym}
use Rattle.etcd_place.specs.Named.{named}
use Rattle.etcd_place.specs.Place.{etcd_place_in}
use Rattle.jdf_net.proofs.AnyCalls.{in_etcd, in_file, nowhere}
use Rattle.jdf_net.proofs.words.run_kept.Goals as goal

pub returns-then-not-is_etcd : goal.returns-then-not-is_etcd
returns-then-not-is_etcd g c =
    in_file c.args.file.now c.args.call _ _ _ _ _ (sym c.is_etcd.ensures ∙ c.if-not-is_etcd.true) c.run_file.ensures.ends

pub returns-in-Some : goal.returns-in-Some
returns-in-Some g c =
    let placed = ap is_some (sym (subst (λ found. option_map named found ≡ etcd_place_in c.args.file.now) c.in-Some.is c.of.ensures.place)) in
    in_etcd c.args.file.now c.args.call _ _ _ _ _ (sym c.is_etcd.ensures ∙ c.if-not-is_etcd.false) placed c.run_in_cell.ensures.ends

pub returns-in-None : goal.returns-in-None
returns-in-None g c =
    let unplaced = ap is_some (sym (subst (λ found. option_map named found ≡ etcd_place_in c.args.file.now) c.in-None.is c.of.ensures.place)) in
    nowhere c.args.file.now c.args.call _ _ _ _ _ (sym c.is_etcd.ensures ∙ c.if-not-is_etcd.false) unplaced (refl, refl, c.refuse_place.ensures)
