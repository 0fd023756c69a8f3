use Rattle.std.proofs.Common.{inr, subst, sym}
use Rattle.std.proofs.lemmas.Result.{IfErr-weaker, IfOk-weaker}
use Rattle.jmf_message.specs.Decoded.{IsRefusalOf}
use Rattle.stored_state.specs.AnyStep.{IsHanded}
use Rattle.streams.specs.Streams.{IsInput, traffic}
use Rattle.file_commands.specs.Calls.{DoesNone, DoesNoneOf}
use Rattle.file_commands.proofs.taking.take_input.Goals as goal

pub returns-clause-refused : goal.returns-clause-refused
returns-clause-refused g c =
    let input = traffic g.I.Read.remaining c.args.reader.now c.read_input.new.reader in
    IfErr-weaker c.take_in_file.result (DoesNoneOf (λ bytes _. IsRefusalOf bytes) (IsHanded c.args.at) c.args.file.now c.as_slice.result.now) (DoesNone (λ bytes _. IsRefusalOf bytes) (IsHanded c.args.at) c.args.file.now input)
    (λ fault why. inr (inr (c.as_slice.result.now, subst (IsInput input) (sym c.as_slice.ensures.value) c.in_ok-input.ensures.ok, why))) c.take_in_file.ensures.refused

pub returns-clause-journal : goal.returns-clause-journal
returns-clause-journal g c =
    let input = traffic g.I.Read.remaining c.args.reader.now c.read_input.new.reader in
    IfOk-weaker c.take_in_file.result _ _
    (λ given all honest.
    let one = all honest in
    record {
      bytes = c.as_slice.result.now;
      is_input = subst (IsInput input) (sym c.as_slice.ensures.value) c.in_ok-input.ensures.ok;
      after = one.0;
      gives = one.1;
      lines = one.2;
    })
    c.take_in_file.ensures.journal
