use Rattle.std.proofs.Common.{◌∙◌, ap, sym}
use Rattle.std.specs.BTreeMap.{get_by_text}
use Rattle.spawn.proofs.Holdings.{held_in}
use Rattle.spawn.specs.Holdings.{holding_spawn}
use Rattle.spawn.proofs.tables.holders.Holders.get.Goals as goal

pub returns : goal.returns
returns c =
    let x = c.args.id.now in
    c.copied.ensures ∙ c.get.ensures.value ∙ ap (get_by_text c.self.inside.spawns) c.as_str.ensures.value ∙ sym (held_in c.self.inside.spawns x) ∙ ap (λ h. holding_spawn h x) c.self.view_is
