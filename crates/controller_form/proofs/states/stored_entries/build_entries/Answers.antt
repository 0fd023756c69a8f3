use Rattle.std.proofs.Common.{◌≡◌, ◌∙◌, ◌∷◌, [], ◌++◌, inr, Some, None, sym, ap, map-id}
use Rattle.std.proofs.Math.Logic.{⊎_elim}
use Rattle.std.proofs.lemmas.Iterator.Adapters.{YieldsList-from_vec}
use Rattle.std.proofs.lemmas.Iterator.Consumers.{YieldsList-end}
use Rattle.std.proofs.lemmas.List.{append-nil}
use Rattle.std.specs.Option.{option_copied}
use Rattle.controller_form.specs.States.WorkerForm.{parts_fault}
use Rattle.controller_form.proofs.PartsFault.{all_built, first_is, one_more}
use Rattle.controller_form.proofs.states.stored_entries.build_entries.Goals as goal

pub loop-one-preserved-in-Continue-branch-2 : goal.loop-one-preserved-in-Continue-branch-2
loop-one-preserved-in-Continue-branch-2 c =
    let before = c.loop-one in
    let so = one_more before.yielded c.in-Some.one before.found.items before.entries.items before.invariant None c.in-Ok.ensures.sound in (
      sym (append-nil before.found.items) ∙ so.0,
      c.in_ok-push-in-Ok.ensures.items ∙ ap (λ e. before.entries.items ++ e ∷ []) c.in-Ok.ensures.ok ∙ so.1,
    )

pub loop-one-preserved : goal.loop-one-preserved
loop-one-preserved c =
    let before = c.loop-one in
    let wrong = ⊎_elim (λ memory. absurd (c.in_default.not-Memory memory)) (λ is. is) c.in-Err.ensures.err in
    let so = one_more before.yielded c.in-Some.one before.found.items before.entries.items before.invariant (Some c.in-Err.fault) wrong in (
      c.in_ok-push-in_default.ensures.items ∙ so.0,
      sym (append-nil before.entries.items) ∙ so.1,
    )

-- each was taken
taken : (c : goal.After-drop-found-in-None-first_among) → c.loop-one.yielded ≡ c.args.stored.items
taken c =
    let h = c.into_iter-one-iterator.ensures.into_iter_gives in
    let e = YieldsList-end (YieldsList-from_vec {s = c.into_iter-one-iterator.result} c.args.stored.items h.0 (h.1 ∙ c.args.stored.ok.0)) c.loop-one.yielded c.loop-one.one-iterator c.loop-one.yielded_by c.next.result c.next.new.self c.in-None.is c.next.ensures.steps in
    sym (map-id c.loop-one.yielded) ∙ e.0

nothing : (c : goal.After-drop-found-in-None-first_among) → parts_fault c.args.stored.items ≡ None
nothing c =
    first_is c.args.stored.items c.loop-one.yielded c.deref.result.now (taken c) (c.deref.ensures.value ∙ c.loop-one.invariant.0)
    ∙ sym c.first_among.ensures ∙ ap option_copied c.in-None-first_among.is

pub returns-in-None-first_among-clause-sound : goal.returns-in-None-first_among-clause-sound
returns-in-None-first_among-clause-sound c = nothing c

pub returns-in-None-first_among-clause-ok : goal.returns-in-None-first_among-clause-ok
returns-in-None-first_among-clause-ok c =
    all_built c.args.stored.items c.loop-one.yielded c.loop-one.entries.items (taken c) c.loop-one.invariant.1 (nothing c)

pub returns-in-Some-first_among-clause-refused : goal.returns-in-Some-first_among-clause-refused
returns-in-Some-first_among-clause-refused c =
    let h = c.into_iter-one-iterator.ensures.into_iter_gives in
    let e = YieldsList-end (YieldsList-from_vec {s = c.into_iter-one-iterator.result} c.args.stored.items h.0 (h.1 ∙ c.args.stored.ok.0)) c.loop-one.yielded c.loop-one.one-iterator c.loop-one.yielded_by c.next.result c.next.new.self c.in-None.is c.next.ensures.steps in
    inr (
    first_is c.args.stored.items c.loop-one.yielded c.deref.result.now (sym (map-id c.loop-one.yielded) ∙ e.0) (c.deref.ensures.value ∙ c.loop-one.invariant.0)
    ∙ sym c.first_among.ensures ∙ ap option_copied c.in-Some-first_among.is
    )
