use Rattle.std.proofs.Common.{◌≡◌, ◌∙◌, true, false, [], nat_le, ap, map-id, sym, arith, rules}
use Rattle.std.specs.Option.{option_map_or}
use Rattle.std.proofs.lemmas.Bool.{le-leb}
use Rattle.std.proofs.lemmas.Iterator.Adapters.{YieldsList-from_vec}
use Rattle.std.proofs.lemmas.Iterator.Consumers.{YieldsList-end}
use Rattle.listeners.proofs.Late.{all_gone, keys_push, without_more}
use Rattle.server_clients.specs.Clients.{is_overdue}
use Rattle.server_clients.proofs.clients.Clients.close_late.Goals as goal

pub loop-key-preserved-in-loop-key : goal.loop-key-preserved-in-loop-key
loop-key-preserved-in-loop-key g c =
    let now = c.args.self.now.now in
    let entry = c.in-Some.entry.now in
    let late : is_overdue now entry ≡ true = ap (λ o. option_map_or (λ k. nat_le k.peer.deadline now) o false) c.in-Some-client.is ∙ le-leb c.in-Some-client.client.peer.deadline now (omega (arith, c.if-deadline-self.true, c.deadline.ensures)) in
    record {
      next = tt;
      finite = tt;
      keys = keys_push (is_overdue now) (c.in-Some.key, entry) c.next.new.self c.loop-key.key-iterator c.loop-key.late.items c.push.new.self.items _ late c.in_ok-push.ensures.items c.in-Some.ensures.steps c.loop-key.invariant.keys;
    }

pub loop-key-2-preserved : goal.loop-key-2-preserved
loop-key-2-preserved g c =
    record {
      all = without_more c.loop-key-2.yielded c.in-Some-key.key c.args.self.now.all c.loop-key-2.self.all c.let_go.new.self.all c.loop-key-2.invariant.all c.let_go.ensures.clients;
      moment = c.let_go.ensures.moment ∙ c.loop-key-2.invariant.moment;
    }

pub returns-clause-left : goal.returns-clause-left
returns-clause-left g c =
    let none : c.loop-key.key-iterator ≡ [] = search rules in
    let gives = c.into_iter-key-iterator-2.ensures.into_iter_gives in
    let road = YieldsList-from_vec {s = c.into_iter-key-iterator-2.result} c.loop-key.late.items gives.0 (gives.1 ∙ c.loop-key.late.ok.0) in
    let end = YieldsList-end road c.loop-key-2.yielded c.loop-key-2.key-iterator c.loop-key-2.yielded_by c.next-in-loop-key-2.result c.next-in-loop-key-2.new.self c.in-None-key.is c.next-in-loop-key-2.ensures.steps in
    let all : c.loop-key-2.yielded ≡ c.loop-key.late.items = sym (map-id c.loop-key-2.yielded) ∙ end.0 in
    all_gone (is_overdue c.args.self.now.now) c.args.self.now.all c.loop-key-2.self.all c.loop-key.late.items c.loop-key-2.yielded c.loop-key.key-iterator none c.loop-key.invariant.keys all c.loop-key-2.invariant.all
