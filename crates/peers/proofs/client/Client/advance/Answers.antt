use Rattle.std.proofs.Common.{◌∙◌, ap, sym}
use Rattle.peers.proofs.Turning.{turned_as, turns_as}
use Rattle.peers.proofs.client.Client.advance.Goals as goal

pub returns : goal.returns
returns g c =
    turned_as g.S.Read.remaining g.S.Write.contents c.args.now c.args.self
    (record { peer = c.advance-event.new.peer; stream = c.into_inner.result }) c.advance-event.result c.turn_of.result
    (turns_as g.S.Read.remaining g.S.Write.contents c.args.now _ c.args.self.stream _ c.into_inner.result _ c.args.self.peer
    c.advance-event.new.peer c.advance-event.result (ap (λ s. s.inner) c.new-counted.ensures ∙ ap (λ s. s.stream) c.self.view_is)
    (sym c.into_inner.ensures) (ap (λ s. s.peer) c.self.view_is) c.advance-event.ensures)
    c.turn_of.ensures
