-- What the messages tell of a shop, while the spawns that they tell of are out.
use Rattle.std.specs.Prelude.{◌≡◌, ℕ, true, List, Some, ⊤}
use Rattle.std.specs.List.{Contains}
use Rattle.ticket_tree.specs.PartView.{part_row}
use Rattle.controller.specs.Reply.{spawn_in}
use Rattle.controller.specs.declared.body.Body.{Body}
use Rattle.controller.specs.declared.body.Body.TheVariants.{Submit, Return, Abort, Answer}
use Rattle.controller.specs.declared.message.Message.{Message}
use Rattle.spawn.specs.Parts.{part_for}
use Rattle.spawn.specs.Records.{is_out}
use Rattle.spawn.specs.declared.records.spawn_rec.SpawnRec.{SpawnRec}
use Rattle.world_items.specs.declared.holder.Holder.TheVariants.{Spawn}
use Rattle.master_core.specs.Master.{record_of}
use Rattle.plain_shop.specs.SeenTicket.{ticket_seen}
use Rattle.plain_shop.specs.Shop.{PlainState, Rows}
use Rattle.world.specs.Showing.{shop_shown}
use Rattle.world.specs.State.{State}

-- what a spawn holds has in a part the rows that it has there
abbrev pub HasHeld : PlainState → ℕ → Rows → Rows → Type 0
HasHeld p s part rows = (x : List ℕ) → p.holder x ≡ Some (Spawn s) → part x ≡ rows x

-- what goes out with a spawn is the part of the ticket as it is seen, with the record's copies to
-- read: what the spawn holds is in it as it is seen. In what comes back it is as it is now
abbrev pub TellsOf : PlainState → SpawnRec → Body → Type 0
TellsOf p r (Submit part) =
    (part ≡ part_for (ticket_seen p) r) × HasHeld p r.id (part_row part) p.seen
TellsOf p r (Return part) = HasHeld p r.id (part_row part) p.now
TellsOf p r (Abort s) = ⊤
TellsOf p r (Answer command s told) = ⊤

-- so does each message whose spawn is out, of what the controllers show
abbrev pub AreTold : State → Type 0
AreTold w =
    (m : Message) (r : SpawnRec) → Contains w.messages m
    → record_of w.controllers.master.records (spawn_in m.body) ≡ Some r → is_out r ≡ true
    → TellsOf (shop_shown w.controllers) r m.body
