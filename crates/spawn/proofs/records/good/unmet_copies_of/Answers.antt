use Rattle.std.proofs.Common.{◌∙◌, sym, ap}
use Rattle.std.specs.Option.{option_map, option_and_then}
use Rattle.spawn.proofs.GoodWalk.{unmet_behind_all-append}
use Rattle.spawn.specs.Parts.{resources}
use Rattle.spawn.specs.Walk.{unmet_behind_all}
use Rattle.spawn.proofs.records.good.unmet_copies_of.Goals as goal

pub returns-in_err-left : goal.returns-in_err-left
returns-in_err-left c =
    let at = c.args.at.now in
    let r = c.args.spawn.now in
    let inside = at.below in
    ap (option_map (λ l. (l.rw.now, l.ro.now))) c.from_residual.ensures
    ∙ ap (option_and_then (unmet_behind_all inside r.rw (resources at.behind)))
    (c.in_err-left.ensures ∙ ap (λ rw. unmet_behind_all inside rw (resources at.front) (rw, c.as_slice-ro.result.now)) c.as_slice-rw.ensures ∙ ap (λ ro. unmet_behind_all inside r.rw (resources at.front) (r.rw, ro)) c.as_slice-ro.ensures)
    ∙ sym (unmet_behind_all-append inside r.rw (resources at.front) (resources at.behind) (r.rw, r.ro))

pub returns : goal.returns
returns c =
    let at = c.args.at.now in
    let r = c.args.spawn.now in
    let inside = at.below in
    c.meet_rows-2.ensures
    ∙ ap (λ rw. unmet_behind_all inside rw (resources at.behind) (c.in_ok-left.left.rw.now, c.in_ok-left.left.ro.now)) c.as_slice-rw.ensures
    ∙ ap (option_and_then (unmet_behind_all inside r.rw (resources at.behind)))
    (c.in_ok-left.ensures ∙ ap (λ rw. unmet_behind_all inside rw (resources at.front) (rw, c.as_slice-ro.result.now)) c.as_slice-rw.ensures ∙ ap (λ ro. unmet_behind_all inside r.rw (resources at.front) (r.rw, ro)) c.as_slice-ro.ensures)
    ∙ sym (unmet_behind_all-append inside r.rw (resources at.front) (resources at.behind) (r.rw, r.ro))
