use Rattle.std.proofs.Common.{inl, inr, refl, subst, sym}
use Rattle.std.proofs.lemmas.Result.{IfErr-weaker, IfOk-weaker}
use Rattle.jmf_message.specs.Decoded.{IsRefusalOf as IsUndecoded}
use Rattle.streams.specs.Streams.{IsInput, traffic}
use Rattle.cell_commands.specs.Faults.{DoesNone, DoesNoneOf, IsUnseen}
use Rattle.cell_commands.proofs.Giving.{since_line, since_noting}
use Rattle.cell_commands.proofs.Making.{err_told}
use Rattle.cell_commands.proofs.Refusing.{unread_none}
use Rattle.cell_commands.proofs.Revisions.{rises_some, some_none}
use Rattle.cell_commands.proofs.taking.take_in_cell.Goals as goal

pub returns-in_err-look-clause-refused : goal.returns-in_err-look-clause-refused
returns-in_err-look-clause-refused g c =
    err_told _ (DoesNone (λ bytes _. IsUndecoded bytes) (traffic g.I.Read.remaining c.args.reader.now c.args.reader.now)) c.from_residual.result c.from_residual.ensures.1
    (λ e is. inl (refl, subst IsUnseen (sym is) c.in_err-look.ensures.refused))

pub returns-clause-ok : goal.returns-clause-ok
returns-clause-ok g c =
    let input = traffic g.I.Read.remaining c.args.reader.now c.read_input.new.reader in
    IfOk-weaker c.take_given.result _ _
    (λ given gives. (c.as_slice.result.now, subst (IsInput input) (sym c.as_slice.ensures.value) c.in_ok-input.ensures.ok, since_noting _ _ _ _ _ _ _ _ _ _ c.in_ok-look.ensures.grows gives))
    c.take_given.ensures.ok

pub returns-clause-refused : goal.returns-clause-refused
returns-clause-refused g c =
    let input = traffic g.I.Read.remaining c.args.reader.now c.read_input.new.reader in
    IfErr-weaker c.take_given.result (DoesNoneOf (λ bytes _. IsUndecoded bytes) c.as_slice.result.now) (DoesNone (λ bytes _. IsUndecoded bytes) input)
    (λ e why. inr (inr (c.as_slice.result.now, subst (IsInput input) (sym c.as_slice.ensures.value) c.in_ok-input.ensures.ok, why))) c.take_given.ensures.refused

pub returns-clause-journal : goal.returns-clause-journal
returns-clause-journal g c =
    let input = traffic g.I.Read.remaining c.args.reader.now c.read_input.new.reader in
    IfOk-weaker c.take_given.result _ _
    (λ given all honest. (c.as_slice.result.now, subst (IsInput input) (sym c.as_slice.ensures.value) c.in_ok-input.ensures.ok, since_line _ _ _ _ _ _ _ _ _ _ _ _ _ c.in_ok-look.ensures.grows (all honest)))
    c.take_given.ensures.journal

pub returns-in_err-input-clause-refused : goal.returns-in_err-input-clause-refused
returns-in_err-input-clause-refused g c =
    let input = traffic g.I.Read.remaining c.args.reader.now c.read_input.new.reader in
    err_told _ (DoesNone (λ bytes _. IsUndecoded bytes) input) c.from_residual-in_err-input.result c.from_residual-in_err-input.ensures.1
    (λ e is. unread_none (λ bytes _. IsUndecoded bytes) input c.in_err-input.field-0.0 e is c.in_err-input.ensures.err)

pub returns-in_err-look-clause-untouched : goal.returns-in_err-look-clause-untouched
returns-in_err-look-clause-untouched g c honest none = refl

pub returns-in_err-input-clause-untouched : goal.returns-in_err-input-clause-untouched
returns-in_err-input-clause-untouched g c honest none = absurd (some_none _ (c.in_ok-look.ensures.there honest) none)

pub returns-clause-untouched : goal.returns-clause-untouched
returns-clause-untouched g c honest none = absurd (rises_some _ _ (c.in_ok-look.ensures.there honest) (c.take_given.ensures.rises honest) none)
