use Rattle.std.proofs.Common.{◌≡◌, ◌∙◌, List, map-id, subst, sym}
use Rattle.std.proofs.lemmas.Bool.{and_parts}
use Rattle.std.proofs.lemmas.Iterator.Adapters.{YieldsList-from_vec}
use Rattle.std.proofs.lemmas.Iterator.Consumers.{YieldsList-end}
use Rattle.stored_state.specs.TakingAll.{Gives}
use Rattle.stored_state.specs.declared.coming.Coming.{Coming}
use Rattle.stored_state.proofs.TakingEach.{gives_more}
use Rattle.stored_state.proofs.taking_all.take_each.Goals as goal

pub loop-coming-preserved : goal.loop-coming-preserved
loop-coming-preserved c =
    record {
      gives = gives_more c.args.at c.loop-coming.yielded c.in-Some.coming c.args.controller.now c.loop-coming.controller c.take_one.new.controller c.loop-coming.given.items c.push.new.self.items c.in_ok-taken.taken c.loop-coming.invariant.gives c.in_ok-taken.ensures.gives c.in_ok-push.ensures.items;
      same = λ is. (let parts = and_parts _ _ is in c.in_ok-taken.ensures.same parts.1 ∙ c.loop-coming.invariant.same parts.0);
    }

pub returns-clause-gives : goal.returns-clause-gives
returns-clause-gives c =
    let gives = c.into_iter-coming-iterator.ensures.into_iter_gives in
    let road = YieldsList-from_vec {s = c.into_iter-coming-iterator.result} c.args.all.items gives.0 (gives.1 ∙ c.args.all.ok.0) in
    let end = YieldsList-end road c.loop-coming.yielded c.loop-coming.coming-iterator c.loop-coming.yielded_by c.next.result c.next.new.self c.in-None.is c.next.ensures.steps in
    let all : c.loop-coming.yielded ≡ c.args.all.items = sym (map-id c.loop-coming.yielded) ∙ end.0 in
    subst (λ (xs : List Coming). Gives c.args.at xs c.args.controller.now c.loop-coming.given.items c.loop-coming.controller) all c.loop-coming.invariant.gives
