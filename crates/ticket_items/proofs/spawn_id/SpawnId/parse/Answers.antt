use Rattle.std.proofs.Common.{sym, ap}
use Rattle.ticket_items.proofs.SpawnTexts.{spawn_of-spawn_text, spawn_of-Some}
use Rattle.ticket_items.specs.SpawnId.{spawn_of}
use Rattle.ticket_items.proofs.spawn_id.SpawnId.parse.Goals as goal

pub returns-in-None-clause-named : goal.returns-in-None-clause-named
returns-in-None-clause-named c n ok named = cc (c.in-None.ensures, ap spawn_of named, spawn_of-spawn_text n ok)

pub returns-in-Some-clause-ok : goal.returns-in-Some-clause-ok
returns-in-Some-clause-ok c = spawn_of-Some c.args.text.now c.in-Some.number (sym c.in-Some.ensures)

pub returns-in-Some-clause-named : goal.returns-in-Some-clause-named
returns-in-Some-clause-named c n ok named = cc (c.in-Some.ensures, ap spawn_of named, spawn_of-spawn_text n ok)
