use Rattle.std.proofs.Common.{refl, subst, sym}
use Rattle.std.proofs.lemmas.Result.{on_ok_weaker}
use Rattle.jdf_server.specs.Requests.{StandsWithout}
use Rattle.shop_folder.specs.declared.owner.Owner.TheVariants as owners
use Rattle.jdf_server.proofs.server.Server.stand_without.Goals as goal

pub returns-in_ok-from_str-in-File : goal.returns-in_ok-from_str-in-File
returns-in_ok-from_str-in-File g c =
    on_ok_weaker c.stand.result
    (λ stands. subst (λ place. StandsWithout place c.args.waiting c.args.refusal c.args.self.now c.stand.new.self) (sym c.in-File.is)
    (record { path = c.in_ok-from_str-in-File.field-0; to = owners.Any }, record { file = c.in_ok-from_str-in-File.ensures.ok; any = refl }, stands))
    c.stand.ensures
