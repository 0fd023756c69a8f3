use Rattle.std.proofs.Common.{◌≡◌, [], map, ap, ◌∙◌, refl, subst, sym}
use Rattle.std.proofs.lemmas.List.{map-id}
use Rattle.master_core.specs.Master as master
use Rattle.master_core.specs.Master.{State, state as master_state}
use Rattle.world.proofs.Shop.Opening.{opening_is_shown, opening_kept}
use Rattle.world.specs.Showing.{shows}
use Rattle.world.specs.State.{IsConsistent, new_worker, opening, state}
use Rattle.world.proofs.world.World.new.Goals as goal

pub new-requires-in-Ok : goal.new-requires-in-Ok
new-requires-in-Ok c =
    let named = c.in-Ok.ensures.ok ∙ ap (λ n. map (new_worker n) c.workers-2.result.now) (c.name-2.ensures ∙ ap (λ (m : State). m.name) c.controller-begun.ensures) ∙ ap (map (new_worker c.in_ok-master.master.name)) (c.workers-2.ensures ∙ ap (λ (m : State). m.workers) c.controller-begun.ensures) in
    subst (λ ws. IsConsistent (state c.in_ok-master.master ws [])) (sym (map-id c.in-Ok.workers.items))
    (opening_kept c.in_ok-master.master c.in-Ok.workers.items [] (subst master.IsConsistent (sym c.in_ok-master.ensures) c.in_ok-core.ensures.kept) named refl (ap (λ (m : State). m.records) (c.in_ok-master.ensures ∙ c.in_ok-core.ensures.ok)))

pub returns-in-Ok-clause-ok : goal.returns-in-Ok-clause-ok
returns-in-Ok-clause-ok c =
    let name = c.args.name in
    let workers = c.args.workers in
    let ticket = c.args.ticket in
    let begun = master_state name workers ticket [] in
    let is = c.in_ok-master.ensures ∙ c.in_ok-core.ensures.ok in
    let named = c.in-Ok.ensures.ok ∙ ap (λ n. map (new_worker n) c.workers-2.result.now) (c.name-2.ensures ∙ ap (λ (m : State). m.name) c.controller-begun.ensures) ∙ ap (map (new_worker c.in_ok-master.master.name)) (c.workers-2.ensures ∙ ap (λ (m : State). m.workers) c.controller-begun.ensures) in
    let made : state c.in_ok-master.master c.in-Ok.workers.items [] ≡ opening name workers ticket =
    ap (λ m. state m c.in-Ok.workers.items []) is
    ∙ ap (λ ws. state begun ws []) (named ∙ ap (λ (m : State). map (new_worker m.name) m.workers) is) in
    c.new-in-Ok.ensures ∙ ap (λ ws. state c.in_ok-master.master ws []) (map-id c.in-Ok.workers.items) ∙ made

pub returns-in-Ok-clause-shown : goal.returns-in-Ok-clause-shown
returns-in-Ok-clause-shown c = ap shows (returns-in-Ok-clause-ok c) ∙ opening_is_shown c.args.name c.args.workers c.args.ticket
