use Rattle.std.proofs.Common.{◌∙◌, ap}
use Rattle.slab.specs.Slab.{get}
use Rattle.server_clients.specs.Clients.{held_with}
use Rattle.server_clients.proofs.Held.{held_same}
use Rattle.server_clients.proofs.clients.Clients.let_go.Goals as goal

pub returns-clause-held : goal.returns-clause-held
returns-clause-held g c =
    c.forget_preferred.ensures.held ∙ c.count_held.ensures.held
    ∙ ap (held_with 0 (get c.tell.new.self.all c.args.key)) c.tell.ensures.held
    ∙ held_same 0 c.args.self.now.held (get c.tell.new.self.all c.args.key) (get c.args.self.now.all c.args.key) c.tell.ensures.kept
