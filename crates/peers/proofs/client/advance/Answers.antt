use Rattle.std.proofs.Common.{◌∙◌, sym}
use Rattle.peers.specs.declared.event.Event.TheVariants as events
use Rattle.peers.proofs.Turning.{turns_read, turns_written}
use Rattle.peers.proofs.client.advance.Goals as goal

pub returns-in_default : goal.returns-in_default
returns-in_default g c =
    turns_read g.S.Read.remaining g.S.Write.contents c.args.now c.args.stream.now c.read_on.new.stream c.args.peer.now c.read_on.new.peer
    c.read_on.result (record {
      reading = c.read_on.ensures.reading;
      lingering = c.read_on.ensures.lingering;
      quiet = c.read_on.ensures.quiet;
      quiet_event = c.read_on.ensures.quiet_event;
    })

pub returns-else-wants_write : goal.returns-else-wants_write
returns-else-wants_write g c =
    turns_read g.S.Read.remaining g.S.Write.contents c.args.now c.args.stream.now c.read_on.new.stream c.args.peer.now c.read_on.new.peer
    events.Wait (record {
      reading = c.in-Wait.ensures.reading;
      lingering = c.in-Wait.ensures.lingering;
      quiet = c.in-Wait.ensures.quiet;
      quiet_event = c.in-Wait.ensures.quiet_event;
    })

pub returns-then-wants_write : goal.returns-then-wants_write
returns-then-wants_write g c =
    turns_written g.S.Read.remaining g.S.Write.contents c.args.now c.args.stream.now c.read_on.new.stream c.write_on.new.stream
    c.args.peer.now c.read_on.new.peer c.write_on.new.peer c.write_on.result (record {
      reading = c.in-Wait.ensures.reading;
      lingering = c.in-Wait.ensures.lingering;
      quiet = c.in-Wait.ensures.quiet;
      quiet_event = c.in-Wait.ensures.quiet_event;
    }) (sym c.wants_write.ensures ∙ c.if-wants_write.true) c.write_on.ensures
