use Rattle.std.proofs.Common.{◌≡◌, ◌∙◌, ◌<◌, All, length, map-id, subst, sym}
use Rattle.std.proofs.lemmas.Iterator.Adapters.{YieldsList-from_vec}
use Rattle.std.proofs.lemmas.Iterator.Consumers.{YieldsList-end}
use Rattle.stored_state.specs.Outgoing.{out_of}
use Rattle.server_post.proofs.Looking.{all_sent, sees_all}
use Rattle.server_post.proofs.post.Post.see.Goals as goal

pub look-requires : goal.look-requires
look-requires c =
    subst (All (λ o. o.1 < length c.loop-spawn.self.deliveries.destinations)) (sym c.as_slice.ensures.value) c.loop-spawn.invariant.there

pub returns : goal.returns
returns c =
    let all = c.in_ok-all.all in
    let gives = c.into_iter-spawn-iterator.ensures.into_iter_gives in
    let road = YieldsList-from_vec {s = c.into_iter-spawn-iterator.result} all.items gives.0 (gives.1 ∙ all.ok.0) in
    let end = YieldsList-end road c.loop-spawn.yielded c.loop-spawn.spawn-iterator c.loop-spawn.yielded_by c.next.result c.next.new.self c.in-None.is c.next.ensures.steps in
    let taken : c.loop-spawn.yielded ≡ all.items = sym (map-id c.loop-spawn.yielded) ∙ end.0 in
    let its = all_sent all.items c.loop-spawn.yielded (out_of c.args.controller.now) c.loop-spawn.out.items c.as_slice.result.now c.in_ok-all.ensures taken c.as_slice.ensures.value c.loop-spawn.invariant.its in
    sees_all c.look.result c.args.number (out_of c.args.controller.now) c.as_slice.result.now c.args.self.now.deliveries c.loop-spawn.self.deliveries c.look.new.self c.loop-spawn.invariant.boxes its c.look.ensures.looked c.look.ensures.others
