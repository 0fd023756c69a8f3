use Rattle.std.proofs.Common.{◌≡◌, ◌∙◌, ◌≤◌, Ok, false, ap, subst, sym}
use Rattle.std.proofs.lemmas.Result.{IfOk-weaker}
use Rattle.std.specs.Prelude.{IfOk}
use Rattle.serde_json.specs.Data.{depth}
use Rattle.serde_json.specs.View.{view}
use Rattle.serde_json.specs.Written.{has_float}
use Rattle.json_profile.proofs.Printing.{alone}
use Rattle.controller_form.proofs.Reading.{on_any}
use Rattle.controller_form.proofs.states.state_form.StateForm.state_value.Goals as goal

pub returns : goal.returns
returns g c =
    let s = c.args.self.now in
    let d = g.Self.StateForm.state_data s in
    let told = c.in_ok-print_state.ensures in
    let printed = alone told.printed (c.new-out.ensures.before ∙ c.new.ensures.items) c.new-out.ensures.tokens in
    let done = c.value_printed.result in
    let value : IfOk done (λ v. view v ≡ d) = c.value_printed.ensures d printed.0 printed.1 told.printed.again told.nests in
    record {
      value = value;
      again = IfOk-weaker done (λ v. view v ≡ d) (λ v. g.Self.StateForm.state_read (view v) ≡ Ok s) (λ v is. ap g.Self.StateForm.state_read is ∙ told.again) value;
      first = on_any done told.first;
      plain = IfOk-weaker done (λ v. view v ≡ d) (λ v. has_float (view v) ≡ false) (λ v is. ap has_float is ∙ told.plain) value;
      nests = IfOk-weaker done (λ v. view v ≡ d) (λ v. depth (view v) ≤ 127) (λ v is. subst (λ e. depth e ≤ 127) (sym is) told.nests) value;
    }
