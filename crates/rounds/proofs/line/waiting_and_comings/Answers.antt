use Rattle.std.proofs.Common.{◌≡◌, ◌∙◌, arith, map-id, subst, sym}
use Rattle.std.proofs.lemmas.Iterator.Adapters.{YieldsList-from_vec}
use Rattle.std.proofs.lemmas.Iterator.Consumers.{YieldsList-end, YieldsList-turn}
use Rattle.rounds.specs.Line.{coming_in, comings_of, waiting_in, waiting_of}
use Rattle.rounds.proofs.Parting.{one_has_room, one_more}
use Rattle.rounds.proofs.line.waiting_and_comings.Goals as goal

pub push_reserved-requires : goal.push_reserved-requires
push_reserved-requires g c =
    let gives = c.into_iter-errand-iterator.ensures.into_iter_gives in
    let road = YieldsList-from_vec {s = c.into_iter-errand-iterator.result} c.args.errands.items gives.0 (gives.1 ∙ c.args.errands.ok.0) in
    let turn = YieldsList-turn road c.loop-errand.yielded c.loop-errand.errand-iterator c.loop-errand.yielded_by c.next.result c.next.new.self c.in-Some.errand c.in-Some.is c.next.ensures.steps in
    one_has_room waiting_in c.args.errands.items c.loop-errand.yielded c.loop-errand.waiting.items _ _ c.loop-errand.invariant.waiting turn.0 c.loop-errand.invariant.waiting_room c.loop-errand.waiting.ok.0

pub push_reserved-requires-in-loop-errand : goal.push_reserved-requires-in-loop-errand
push_reserved-requires-in-loop-errand g c =
    let gives = c.into_iter-errand-iterator.ensures.into_iter_gives in
    let road = YieldsList-from_vec {s = c.into_iter-errand-iterator.result} c.args.errands.items gives.0 (gives.1 ∙ c.args.errands.ok.0) in
    let turn = YieldsList-turn road c.loop-errand.yielded c.loop-errand.errand-iterator c.loop-errand.yielded_by c.next.result c.next.new.self c.in-Some.errand c.in-Some.is c.next.ensures.steps in
    one_has_room coming_in c.args.errands.items c.loop-errand.yielded c.loop-errand.comings.items _ _ c.loop-errand.invariant.comings turn.0 c.loop-errand.invariant.comings_room c.loop-errand.comings.ok.0

pub loop-errand-preserved : goal.loop-errand-preserved
loop-errand-preserved g c =
    record {
      waiting = one_more waiting_in c.loop-errand.yielded c.in-Some.errand c.loop-errand.waiting.items c.push_reserved.new.self.items c.loop-errand.invariant.waiting c.push_reserved.ensures.items;
      comings = one_more coming_in c.loop-errand.yielded c.in-Some.errand c.loop-errand.comings.items c.push_reserved-in-loop-errand.new.self.items c.loop-errand.invariant.comings c.push_reserved-in-loop-errand.ensures.items;
      waiting_room = omega arith;
      comings_room = omega arith;
    }

pub returns-clause-waiting : goal.returns-clause-waiting
returns-clause-waiting g c =
    let gives = c.into_iter-errand-iterator.ensures.into_iter_gives in
    let road = YieldsList-from_vec {s = c.into_iter-errand-iterator.result} c.args.errands.items gives.0 (gives.1 ∙ c.args.errands.ok.0) in
    let end = YieldsList-end road c.loop-errand.yielded c.loop-errand.errand-iterator c.loop-errand.yielded_by c.next.result c.next.new.self c.in-None.is c.next.ensures.steps in
    subst (λ es. c.loop-errand.waiting.items ≡ waiting_of es) (sym (map-id c.loop-errand.yielded) ∙ end.0) c.loop-errand.invariant.waiting

pub returns-clause-comings : goal.returns-clause-comings
returns-clause-comings g c =
    let gives = c.into_iter-errand-iterator.ensures.into_iter_gives in
    let road = YieldsList-from_vec {s = c.into_iter-errand-iterator.result} c.args.errands.items gives.0 (gives.1 ∙ c.args.errands.ok.0) in
    let end = YieldsList-end road c.loop-errand.yielded c.loop-errand.errand-iterator c.loop-errand.yielded_by c.next.result c.next.new.self c.in-None.is c.next.ensures.steps in
    subst (λ es. c.loop-errand.comings.items ≡ comings_of es) (sym (map-id c.loop-errand.yielded) ∙ end.0) c.loop-errand.invariant.comings
