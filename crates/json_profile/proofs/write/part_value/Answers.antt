use Rattle.std.proofs.Common.{◌≡◌, ◌∙◌, ◌≤◌, Ok, false, ap, subst, sym}
use Rattle.std.proofs.lemmas.Result.{IfOk-weaker}
use Rattle.std.specs.Prelude.{IfOk}
use Rattle.serde_json.specs.Data.{depth}
use Rattle.serde_json.specs.View.{view}
use Rattle.serde_json.specs.Written.{has_float}
use Rattle.json_items.specs.PartForm.{part_read}
use Rattle.json_text.specs.PartWritten.{part_data}
use Rattle.json_profile.proofs.Shape.{readable}
use Rattle.json_profile.proofs.Printing.{alone}
use Rattle.json_profile.proofs.write.part_value.Goals as goal

pub returns : goal.returns
returns c =
    let p = c.args.part.now in
    let d = part_data p in
    let told = c.in_ok-print_part.ensures in
    let printed = alone told.printed (c.new-out.ensures.before ∙ c.new.ensures.items) c.new-out.ensures.tokens in
    let nests : depth d ≤ 127 = readable _ told.low in
    let done = c.value_printed.result in
    let value : IfOk done (λ v. view v ≡ d) = c.value_printed.ensures d printed.0 printed.1 told.printed.again nests in
    record {
      value = value;
      again = IfOk-weaker done (λ v. view v ≡ d) (λ v. part_read (view v) ≡ Ok p) (λ v is. ap part_read is ∙ told.again) value;
      plain = IfOk-weaker done (λ v. view v ≡ d) (λ v. has_float (view v) ≡ false) (λ v is. ap has_float is ∙ told.plain) value;
      nests = IfOk-weaker done (λ v. view v ≡ d) (λ v. depth (view v) ≤ 127) (λ v is. subst (λ e. depth e ≤ 127) (sym is) nests) value;
      low = IfOk-weaker done (λ v. view v ≡ d) (λ v. depth (view v) ≤ 68) (λ v is. subst (λ e. depth e ≤ 68) (sym is) told.low) value;
    }
