use Rattle.std.proofs.Common.{◌≡◌, ◌∙◌, IfSome, ap, subst}
use Rattle.stored_state.specs.AnyStep.{text_of}
use Rattle.stored_state.proofs.SavedOnce.{not_saved, not_taken}
use Rattle.stored_state.proofs.taking_all.take_all.Goals as goal

pub returns-in-Err-save-clause-refused : goal.returns-in-Err-save-clause-refused
returns-in-Err-save-clause-refused g c =
    let made = c.in-Ok-take_from.ensures.ok in
    let taken = c.in-Ok-take_from.taken in
    let same : c.in-Some.saved ≡ made.last = subst (λ o. IfSome o (λ x. x ≡ made.last)) c.in-Some.is made.some in
    not_saved g.K.Keep.is_honest g.K.Keep.held g.K.Keep.place g.K.Keep.count g.K.Keep.load_fails g.K.Keep.save_fails c.args.to c.args.at c.args.all.items c.args.keep.now c.load_bytes.new.keep c.save.new.keep c.in-Ok.bytes.items c.text.result.now made.before made.last taken.0.items c.in-Err-save.refused c.in-Ok.ensures.ok made.read made.addressed made.taken (c.text.ensures.text ∙ ap text_of same)
    record { same = c.in-Ok.ensures.held; honest = c.in-Ok.ensures.honest; there = c.in-Ok.ensures.place; counted = c.in-Ok.ensures.counted; counts = c.in-Err-save.ensures.counted } c.in-Err-save.ensures.refused

pub returns-in-Err-take_from-clause-refused : goal.returns-in-Err-take_from-clause-refused
returns-in-Err-take_from-clause-refused g c =
    not_taken g.K.Keep.is_honest g.K.Keep.held g.K.Keep.place g.K.Keep.count g.K.Keep.load_fails g.K.Keep.save_fails c.args.to c.args.at c.args.all.items c.args.keep.now c.load_bytes.new.keep c.in-Ok.bytes.items c.in-Err-take_from.refused c.in-Ok.ensures.ok c.in-Ok.ensures.held c.in-Err-take_from.ensures.refused
