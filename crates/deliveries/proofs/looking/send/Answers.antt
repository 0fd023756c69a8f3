use Rattle.std.proofs.Common.{◌≡◌, ◌∙◌, ℕ, Some, ap, slice_get, subst}
use Rattle.courier.specs.Table as table
use Rattle.deliveries.proofs.Ties.{IsDone, Put, Left, done-put, in-line-interned, in-line-sent, interned, interned-lined, kept-sent, known-lined, known-redirected, routed-interned, routed-sent, long-sent}
use Rattle.deliveries.specs.Ledger.{line_for}
use Rattle.deliveries.specs.Routes.{IsRedirected, thing_at, with_thing}
use Rattle.deliveries.specs.Sending.{IsKnown}
use Rattle.deliveries.proofs.looking.send.Goals as goal
use Rattle.deliveries.proofs.looking.send.Goals.{then-waits+in_ok-put, else-waits}

pub returns-in_err-put-clause-things : goal.returns-in_err-put-clause-things
returns-in_err-put-clause-things c =
    (interned c.args.thing _ _ _ (c.in_ok-item.ensures.ok ∙ ap (λ l. with_thing c.args.thing l c.args.routes.now) c.line_for-line.ensures)).things

pub returns-in_err-put-clause-routed : goal.returns-in_err-put-clause-routed
returns-in_err-put-clause-routed c =
    rw c.in_err-put.ensures.err
    (routed-interned c.args.courier.now c.args.thing c.args.told c.args.routes.now c.intern.new.self c.requires.routed c.requires.within (interned c.args.thing _ _ _ (c.in_ok-item.ensures.ok ∙ ap (λ l. with_thing c.args.thing l c.args.routes.now) c.line_for-line.ensures)))

pub returns-in_err-put-clause-kept : goal.returns-in_err-put-clause-kept
returns-in_err-put-clause-kept c = λ t _ was.
    rw c.in_err-put.ensures.err
    (in-line-interned c.args.courier.now c.args.thing t _ c.args.routes.now c.intern.new.self (interned c.args.thing _ _ _ c.in_ok-item.ensures.ok) was)

-- for which destination it is
abbrev to : (c : goal.After-redirect) → ℕ
to c = line_for c.args.courier.now c.args.routes.now c.args.thing c.args.told

is-known : (c : goal.After-redirect) → IsKnown c.args.thing (to c) c.args.routes.now c.redirect.new.self
is-known c =
    let ok = c.in_ok-item.ensures.ok ∙ ap (λ l. with_thing c.args.thing l c.args.routes.now) c.line_for-line.ensures in
    known-redirected c.args.thing (to c) c.args.routes.now c.intern.new.self c.redirect.new.self (interned c.args.thing (to c) c.args.routes.now c.intern.new.self ok)
    (subst (λ l. IsRedirected c.args.thing l c.intern.new.self c.redirect.new.self) c.line_for-line.ensures c.redirect.ensures)

is-there : (c : goal.After-redirect) → thing_at c.redirect.new.self c.in_ok-item.item ≡ Some c.args.thing
is-there c = ap (λ keys. slice_get keys c.in_ok-item.item) c.redirect.ensures.things ∙ c.in_ok-item.ensures.thing

is-done : (c : goal.After-redirect) → IsDone c.args.waits c.args.courier.now c.in_ok-item.item (to c) c.if-waits.courier
is-done c =
    elim c.if-waits.branch [
      | then-waits+in_ok-put w ↦ Put w.if-waits.true (w.courier-is ∙ w.in_ok-put.ensures.ok ∙ ap (table.put c.in_ok-item.item c.args.courier.now) c.line_for-line.ensures)
      | else-waits w ↦ Left w.if-waits.false w.courier-is
    ]

pub returns-clause-known : goal.returns-clause-known
returns-clause-known c = is-known c

pub returns-clause-things : goal.returns-clause-things
returns-clause-things c = (is-known c).things

pub returns-clause-put : goal.returns-clause-put
returns-clause-put c = (c.in_ok-item.item, is-there c, done-put (is-done c))

pub returns-clause-in_line : goal.returns-clause-in_line
returns-clause-in_line c =
    in-line-sent c.args.waits c.args.courier.now c.in_ok-item.item c.if-waits.courier c.args.thing c.args.told c.args.routes.now c.redirect.new.self c.requires.routed c.requires.within (is-known c) (is-there c) (is-done c)

pub returns-clause-routed : goal.returns-clause-routed
returns-clause-routed c =
    routed-sent c.args.waits c.args.courier.now c.in_ok-item.item c.if-waits.courier c.args.thing c.args.told c.args.routes.now c.redirect.new.self c.requires.routed c.requires.within (is-known c) (is-there c) (is-done c)

pub returns-clause-long : goal.returns-clause-long
returns-clause-long c =
    long-sent c.args.waits c.args.courier.now c.in_ok-item.item c.if-waits.courier c.args.thing c.args.told c.args.routes.now c.redirect.new.self c.requires.routed c.requires.within (is-known c) (is-there c) (is-done c)

pub returns-clause-kept : goal.returns-clause-kept
returns-clause-kept c = λ t.
    kept-sent c.args.waits c.args.courier.now c.in_ok-item.item c.if-waits.courier c.args.thing c.args.told c.args.routes.now c.redirect.new.self c.requires.routed c.requires.within (is-known c) (is-there c) t (is-done c)

pub returns-in_err-put-clause-lined : goal.returns-in_err-put-clause-lined
returns-in_err-put-clause-lined c = λ t. interned-lined c.args.thing t c.line_for-line.result c.args.routes.now c.intern.new.self (interned c.args.thing c.line_for-line.result c.args.routes.now c.intern.new.self c.in_ok-item.ensures.ok)

pub returns-clause-lined : goal.returns-clause-lined
returns-clause-lined c = λ t. known-lined c.args.thing t (to c) c.args.routes.now c.redirect.new.self (is-known c)
