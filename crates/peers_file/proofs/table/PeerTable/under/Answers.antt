use Rattle.std.proofs.Common.{◌∙◌, ◌++◌, Some, get_or, sym, ap}
use Rattle.peers_file.proofs.Places.{url_there, no_url}
use Rattle.peers_file.proofs.table.PeerTable.under.Goals as goal

pub returns-in-Ok : goal.returns-in-Ok
returns-in-Ok c =
    ap (λ r. Some r.1) c.index.ensures ∙ ap (λ rows. Some (get_or rows c.in-Ok.place c.index.result.now).1) c.self.view_is
    ∙ sym (url_there (c.args.front.now ++ c.args.end.now) c.args.self.now c.in-Ok.place _ c.in-Ok.ensures.found)

pub returns-in-Err : goal.returns-in-Err
returns-in-Err c = sym (no_url (c.args.front.now ++ c.args.end.now) c.args.self.now _ c.in-Err.ensures.missing)
