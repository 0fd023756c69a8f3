use Rattle.std.proofs.Common.{◌∙◌, arith, map-id, subst, sym}
use Rattle.std.proofs.lemmas.Iterator.{YieldsList-from_zip}
use Rattle.std.proofs.lemmas.Iterator.Adapters.{YieldsList-from_vec}
use Rattle.std.proofs.lemmas.Iterator.Consumers.{YieldsList-at, YieldsList-end, YieldsList-turn}
use Rattle.std.specs.Iterator.Adapters.{zip_second}
use Rattle.rounds.proofs.Answering.{given_all, given_more, room_given}
use Rattle.rounds.proofs.line.give_all.Goals as goal

pub push_reserved-requires : goal.push_reserved-requires
push_reserved-requires g c =
    let first = YieldsList-at c.zip-one-items.ensures.first (YieldsList-from_vec {s = c.into_iter.result} c.args.waiting.items c.into_iter.ensures.rest (c.into_iter.ensures.len ∙ c.args.waiting.ok.0)) in
    let gives = c.zip-one-items.ensures.second in
    let second = YieldsList-from_vec {s = zip_second c.zip-one-items.result} c.args.given.items gives.0 (gives.1 ∙ c.args.given.ok.0) in
    let road = YieldsList-at c.into_iter-one-iterator.ensures.into_iter_gives (YieldsList-from_zip {s = c.zip-one-items.result} first second) in
    let turn = YieldsList-turn road c.loop-one.yielded c.loop-one.one-iterator c.loop-one.yielded_by c.next.result c.next.new.self (c.in-Some.one, c.in-Some.taken) c.in-Some.is c.next.ensures.steps in
    room_given (g.A.Recipient.is_told c.args.now) c.args.waiting.items c.args.given.items c.loop-one.yielded c.loop-one.answered.items _ _ c.loop-one.invariant.given turn.0 c.loop-one.invariant.room c.loop-one.answered.ok.0

pub loop-one-preserved : goal.loop-one-preserved
loop-one-preserved g c =
    record {
      given = given_more (g.A.Recipient.is_told c.args.now) c.loop-one.yielded c.loop-one.answered.items c.push_reserved.new.self.items c.in-Some.one c.in-Some.taken c.tell.result c.loop-one.invariant.given (subst (λ came. g.A.Recipient.is_told c.args.now came c.in-Some.one c.tell.result) c.taken_bytes_of.ensures c.tell.ensures) c.push_reserved.ensures.items;
      room = omega arith;
    }

pub returns : goal.returns
returns g c =
    let first = YieldsList-at c.zip-one-items.ensures.first (YieldsList-from_vec {s = c.into_iter.result} c.args.waiting.items c.into_iter.ensures.rest (c.into_iter.ensures.len ∙ c.args.waiting.ok.0)) in
    let gives = c.zip-one-items.ensures.second in
    let second = YieldsList-from_vec {s = zip_second c.zip-one-items.result} c.args.given.items gives.0 (gives.1 ∙ c.args.given.ok.0) in
    let road = YieldsList-at c.into_iter-one-iterator.ensures.into_iter_gives (YieldsList-from_zip {s = c.zip-one-items.result} first second) in
    let all = YieldsList-end road c.loop-one.yielded c.loop-one.one-iterator c.loop-one.yielded_by c.next.result c.next.new.self c.in-None.is c.next.ensures.steps in
    given_all (g.A.Recipient.is_told c.args.now) c.args.waiting.items c.args.given.items c.loop-one.yielded c.loop-one.answered.items c.loop-one.invariant.given (sym (map-id c.loop-one.yielded) ∙ all.0) c.requires.each
