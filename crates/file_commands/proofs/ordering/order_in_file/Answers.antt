use Rattle.std.proofs.Common.{inr, subst, sym}
use Rattle.std.proofs.lemmas.Result.{IfErr-weaker, IfOk-weaker}
use Rattle.journal.specs.Line.{who}
use Rattle.stored_state.specs.AnyStep.{IsNoOrder, IsOrdered}
use Rattle.streams.specs.Streams.{IsInput, traffic}
use Rattle.file_commands.specs.Calls.{DoesNone, DoesNoneOf}
use Rattle.file_commands.proofs.ordering.order_in_file.Goals as goal

pub returns-clause-refused : goal.returns-clause-refused
returns-clause-refused g c =
    let input = traffic g.I.Read.remaining c.args.reader.now c.read_input.new.reader in
    IfErr-weaker c.order_locked.result (DoesNoneOf IsNoOrder (IsOrdered c.args.at) c.args.file.now c.as_slice.result.now) (DoesNone IsNoOrder (IsOrdered c.args.at) c.args.file.now input)
    (λ fault why. inr (inr (c.as_slice.result.now, subst (IsInput input) (sym c.as_slice.ensures.value) c.in_ok-input.ensures.ok, why))) c.order_locked.ensures.refused

pub returns-clause-journal : goal.returns-clause-journal
returns-clause-journal g c =
    let input = traffic g.I.Read.remaining c.args.reader.now c.read_input.new.reader in
    IfOk-weaker c.order_locked.result _ _
    (λ given all honest.
    let one = all honest in (
      who c.text_of.result,
      record {
        bytes = c.as_slice.result.now;
        is_input = subst (IsInput input) (sym c.as_slice.ensures.value) c.in_ok-input.ensures.ok;
        after = one.0;
        gives = one.1;
        lines = one.2;
      },
    ))
    c.order_locked.ensures.journal
