use Rattle.rounds.specs.Parted.{IsParted}
use Rattle.server_clients.specs.Waiting.{is_gone}
use Rattle.server_clients.proofs.giving_back.gone_and_there.Given as goal

-- those so far
abbrev pub invariant-loop-one : goal.invariant-loop-one
invariant-loop-one l = IsParted (is_gone l.clients) l.yielded l.there.items l.gone.items
