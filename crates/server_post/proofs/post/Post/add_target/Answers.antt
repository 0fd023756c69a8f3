use Rattle.std.proofs.Common.{ap}
use Rattle.courier.specs.Destination.{new_at}
use Rattle.deliveries.specs.Ledger.{Ledger}
use Rattle.server_post.proofs.Numbers.{line_last, paired_last}
use Rattle.server_post.proofs.post.Post.add_target.Goals as goal

pub returns-clause-its : goal.returns-clause-its
returns-clause-its c =
    λ paired. line_last c.args.self.now.targets c.reserve.new.self c.insert.new.self c.args.url c.in-Some.destination c.requires c.in_ok-reserve.ensures.entries c.in_ok-insert.ensures.entries c.in_ok-line.line c.args.self.now.deliveries.destinations c.in_ok-line.ensures.number paired

pub returns-clause-paired : goal.returns-clause-paired
returns-clause-paired c =
    λ paired. paired_last c.args.self.now.targets c.reserve.new.self c.insert.new.self c.args.url c.in-Some.destination c.requires c.in_ok-reserve.ensures.entries c.in_ok-insert.ensures.entries c.args.self.now.deliveries.destinations c.add_destination.new.self.destinations (new_at c.args.now) (ap (λ (l : Ledger). l.destinations) c.in_ok-line.ensures.ok) paired
