use Rattle.std.proofs.Common.{◌≡◌, ◌∙◌, ◌≤◌, Ok, false, ap, subst, sym}
use Rattle.std.proofs.lemmas.Result.{IfOk-weaker}
use Rattle.std.specs.Prelude.{IfOk}
use Rattle.serde_json.specs.Data.{depth}
use Rattle.serde_json.specs.View.{view}
use Rattle.serde_json.specs.Written.{has_float}
use Rattle.json_items.proofs.Wholes.{whole_again}
use Rattle.json_items.proofs.Again.{edit_again}
use Rattle.json_items.specs.Edits.{edit_data, edit_form, edit_has_names, edit_has_texts}
use Rattle.json_items.specs.TicketForm.{edit_read}
use Rattle.json_profile.proofs.RoundTrip.{edit_nests, edit_plain}
use Rattle.json_profile.proofs.Printing.{alone}
use Rattle.json_profile.proofs.write.edit_value.Goals as goal

pub returns : goal.returns
returns c =
    let e = c.args.edit.now in
    let d = edit_data e in
    let told = c.in_ok-print.ensures in
    let printed = alone told.printed (c.new-out.ensures.before ∙ c.new.ensures.items) c.new-out.ensures.tokens in
    let nests : depth d ≤ 127 = edit_nests e in
    let done = c.value_printed.result in
    let value : IfOk done (λ v. view v ≡ d) = c.value_printed.ensures d printed.0 printed.1 told.printed.again nests in
    record {
      value = value;
      again = IfOk-weaker done (λ v. view v ≡ d) (λ v. edit_read (view v) ≡ Ok e) (λ v is. ap edit_read is ∙ whole_again edit_form edit_has_names edit_has_texts d e (edit_again e) told.names told.texts) value;
      plain = IfOk-weaker done (λ v. view v ≡ d) (λ v. has_float (view v) ≡ false) (λ v is. ap has_float is ∙ edit_plain e) value;
      nests = IfOk-weaker done (λ v. view v ≡ d) (λ v. depth (view v) ≤ 127) (λ v is. subst (λ e. depth e ≤ 127) (sym is) nests) value;
    }
