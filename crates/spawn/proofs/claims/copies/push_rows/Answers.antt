use Rattle.std.proofs.Common.{◌∙◌, ◌++◌, ◌&&◌, Bool, not, ap, take, arith}
use Rattle.std.proofs.lemmas.List.{map-append}
use Rattle.std.specs.List.{filter}
use Rattle.ticket_items.specs.Resource.{resource_ids}
use Rattle.ticket_items.specs.declared.resource.Resource.{Resource}
use Rattle.spawn.proofs.RowsBelow.{kept_more, gains}
use Rattle.spawn.specs.Parts.{resources}
use Rattle.spawn.proofs.claims.copies.push_rows.Goals as goal

pub loop-place-preserved : goal.loop-place-preserved
loop-place-preserved c =
    let rows = c.args.rows.now in
    let i = c.loop-place.place in
    let r = c.at-row.result.now in
    record {
      rw = λ f g fs gs. let test : Resource → Bool = λ x. f x.id && g x.id in
          gains c.push_pool.new.copies.rw.items c.loop-place.copies.rw.items c.args.copies.now.rw.items (resource_ids (filter test (resources (take i rows)))) (resource_ids (filter test r.resources)) _
          (c.in_ok-push_pool.ensures.rw f g fs gs ∙ ap (λ pool. c.loop-place.copies.rw.items ++ resource_ids (filter test pool)) c.as_slice.ensures) (c.loop-place.invariant.rw f g fs gs)
          (ap resource_ids (kept_more test rows i r (omega (arith, c.loop-place-test.true, c.len-place-end.ensures)) c.at-row.ensures) ∙ map-append (λ x. x.id) (filter test (resources (take i rows))) (filter test r.resources));
      ro = λ f g fs gs. let test : Resource → Bool = λ x. f x.id && not (g x.id) in
          gains c.push_pool.new.copies.ro.items c.loop-place.copies.ro.items c.args.copies.now.ro.items (filter test (resources (take i rows))) (filter test r.resources) _
          (c.in_ok-push_pool.ensures.ro f g fs gs ∙ ap (λ pool. c.loop-place.copies.ro.items ++ filter test pool) c.as_slice.ensures) (c.loop-place.invariant.ro f g fs gs) (kept_more test rows i r (omega (arith, c.loop-place-test.true, c.len-place-end.ensures)) c.at-row.ensures);
    }
