-- What the messages tell of the shop that is shown, while their spawns are out.
use Rattle.std.proofs.Common.{◌≡◌, ◌∙◌, true, Some, IfSome, refl, sym, ap, subst}
use Rattle.std.proofs.lemmas.List.Elements.{All-contains}
use Rattle.std.specs.Option.{option_and_then, option_map, option_map_or}
use Rattle.ticket_items.proofs.Places.{same_found}
use Rattle.ticket_tree.specs.Part.{PartCopy}
use Rattle.ticket_tree.specs.PartView.{part_row}
use Rattle.controller.specs.Reply.{spawn_in}
use Rattle.controller.specs.declared.body.Body.{Body}
use Rattle.controller.specs.declared.body.Body.TheVariants.{Submit, Return, Abort, Answer}
use Rattle.controller.specs.declared.message.Message.{Message}
use Rattle.spawn.specs.Parts.{part_for}
use Rattle.spawn.specs.Records.{is_out}
use Rattle.spawn.specs.declared.records.spawn_rec.SpawnRec.{SpawnRec}
use Rattle.master_core.proofs.Recorded.{number_is}
use Rattle.master_core.specs.Master as master
use Rattle.worker_core.proofs.Closing.{ended_shut}
use Rattle.worker_core.specs.Orders.{part_return}
use Rattle.worker_core.specs.declared.entry.Entry.{Entry}
use Rattle.world.proofs.Messages.MessagesTaken.{held_part}
use Rattle.world.proofs.Worker.PartsTaken.{claim_as_seen}
use Rattle.world.proofs.Worker.Stored.{and_found}
use Rattle.world.proofs.Master.TicketSeen.{ticket_is_seen}
use Rattle.world.specs.Messages.{IsInOrder, SaysRight, entry_for}
use Rattle.world.specs.Showing.{part_of_spawn, row_at, seen_shown, shop_shown}
use Rattle.world.specs.State.{IsConsistent, State}
use Rattle.world.specs.Telling.{AreTold, TellsOf}

submitted : (p q : PartCopy) → Submit p ≡ Submit q → p ≡ q
submitted p q e = cc

returned : (p q : PartCopy) → Return p ≡ Return q → p ≡ q
returned p q e = cc

tells : (w : State) (m : Message) (r : SpawnRec) (body : Body) → IsConsistent w → m.body ≡ body → master.record_of w.controllers.master.records r.id ≡ Some r → is_out r ≡ true → SaysRight w.controllers r m body → TellsOf (shop_shown w.controllers) r body
tells w m r (Submit p) ok is found out says =
    let c = w.controllers in
    let t = c.master.ticket in
    let made : p ≡ part_for t r = submitted p (part_for t r) (sym is ∙ ap (λ (n : Message). n.body) (says out)) in
    (made ∙ ap (λ u. part_for u r) (sym (ticket_is_seen w ok)), λ x held. ap (λ q. part_row q x) made ∙ claim_as_seen c.master r.id r x ok.master found out held)
tells w m r (Return p) ok is found out says =
    let c = w.controllers in
    let ended = and_found _ (entry_for c r) says in
    let e : Entry = ended.0 in
    let held_as = held_part c r e ok.recorded found ended.1 out (ended_shut e ended.2.0).1 in
    let q : PartCopy = held_as.0 in
    let sent = subst (λ o. IfSome (option_map (part_return r.worker c.master.name e.at) o) (λ n. m ≡ n)) held_as.1 ended.2.1 in
    let part : p ≡ q = returned p q (sym is ∙ ap (λ (n : Message). n.body) sent) in
    let has : part_of_spawn c r.id ≡ Some q = ap (option_and_then (λ (f : Entry). f.part)) (ap (option_and_then (entry_for c)) found ∙ ended.1) ∙ held_as.1 in
    λ x held. ap (λ p'. part_row p' x) part ∙ sym (ap (row_at c x) held ∙ ap (λ o. option_map_or (λ p'. part_row p' x) o (seen_shown c x)) has)
tells w m r (Abort s) ok is found out says = tt
tells w m r (Answer command s told) ok is found out says = tt

pub messages_told : (w : State) → IsConsistent w → AreTold w
messages_told w ok m r there found out =
    let c = w.controllers in
    let h = All-contains (IsInOrder c) w.messages m ok.messages.each there in
    let same : h.spawn ≡ r = same_found h.spawn r (master.record_of c.master.records (spawn_in m.body)) h.recorded found in
    let own : master.record_of c.master.records r.id ≡ Some r = ap (master.record_of c.master.records) (number_is c.master.records (spawn_in m.body) r found) ∙ found in
    tells w m r m.body ok refl own out (subst (λ q. SaysRight c q m m.body) same h.says)
