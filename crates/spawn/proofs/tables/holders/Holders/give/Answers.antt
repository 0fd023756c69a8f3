use Rattle.std.proofs.Common.{◌∙◌, Some}
use Rattle.spawn.proofs.Holdings.{inserted_in}
use Rattle.spawn.proofs.tables.holders.Holders.give.Goals as goal

pub returns-clause-ok : goal.returns-clause-ok
returns-clause-ok c = inserted_in c.in_ok-text.text c.args.id.now (Some c.args.spawn) c.self.inside.spawns c.insert.new.self c.args.self.now (c.in_ok-text.ensures.ok ∙ c.as_str.ensures.value) c.self.view_is c.in_ok-insert.ensures.updates
