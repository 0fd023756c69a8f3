use Rattle.std.proofs.Common.{◌∙◌, sym}
use Rattle.ticket_rows.proofs.Table.{put_home}
use Rattle.ticket_rows.proofs.resolved.add_home.Goals as goal

pub returns : goal.returns
returns c = put_home c.args.homes.now c.insert.new.self c.args.id c.args.home c.in_ok-insert.ensures.updates (sym c.contains_key.ensures ∙ c.if-contains_key.false)
