use Rattle.std.proofs.Common.{◌∙◌, arith, map-id, sym}
use Rattle.std.proofs.lemmas.Iterator.Adapters.{YieldsList-from_vec}
use Rattle.std.proofs.lemmas.Iterator.Consumers.{YieldsList-end, YieldsList-turn}
use Rattle.rounds.proofs.Answering.{refused_all, refused_more, room_refused}
use Rattle.rounds.proofs.line.refuse_all.Goals as goal

pub push_reserved-requires : goal.push_reserved-requires
push_reserved-requires g c =
    let gives = c.into_iter-one-iterator.ensures.into_iter_gives in
    let road = YieldsList-from_vec {s = c.into_iter-one-iterator.result} c.args.waiting.items gives.0 (gives.1 ∙ c.args.waiting.ok.0) in
    let turn = YieldsList-turn road c.loop-one.yielded c.loop-one.one-iterator c.loop-one.yielded_by c.next.result c.next.new.self c.in-Some.one c.in-Some.is c.next.ensures.steps in
    room_refused (g.A.Recipient.is_told c.args.now) c.args.refused c.args.waiting.items c.loop-one.yielded c.loop-one.answered.items _ _ c.loop-one.invariant.refused turn.0 c.loop-one.invariant.room c.loop-one.answered.ok.0

pub loop-one-preserved : goal.loop-one-preserved
loop-one-preserved g c =
    record {
      refused = refused_more (g.A.Recipient.is_told c.args.now) c.args.refused c.loop-one.yielded c.loop-one.answered.items c.push_reserved.new.self.items c.in-Some.one c.tell.result c.loop-one.invariant.refused c.tell.ensures c.push_reserved.ensures.items;
      room = omega arith;
    }

pub returns : goal.returns
returns g c =
    let gives = c.into_iter-one-iterator.ensures.into_iter_gives in
    let road = YieldsList-from_vec {s = c.into_iter-one-iterator.result} c.args.waiting.items gives.0 (gives.1 ∙ c.args.waiting.ok.0) in
    let all = YieldsList-end road c.loop-one.yielded c.loop-one.one-iterator c.loop-one.yielded_by c.next.result c.next.new.self c.in-None.is c.next.ensures.steps in
    refused_all (g.A.Recipient.is_told c.args.now) c.args.refused c.args.waiting.items c.loop-one.yielded c.loop-one.answered.items c.loop-one.invariant.refused (sym (map-id c.loop-one.yielded) ∙ all.0)
