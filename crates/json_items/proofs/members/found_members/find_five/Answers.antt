use Rattle.std.specs.Prelude.{option_and_then}
use Rattle.serde_json.specs.Find.{get}
use Rattle.json_items.specs.Validation.{on_both}
use Rattle.json_items.specs.Members.{four_form}
use Rattle.json_items.proofs.members.found_members.find_five.Goals as goal

pub returns : goal.returns
returns g c =
    let d = g.S.Source.content c.args.value.now in
    c.zip.ensures (on_both (on_both (on_both g.A.Form.has_names g.B.Form.has_names) g.C.Form.has_names) g.D.Form.has_names) (on_both (on_both (on_both g.A.Form.has_texts g.B.Form.has_texts) g.C.Form.has_texts) g.D.Form.has_texts) (four_form c.args.first.now g.A.Form.form c.args.second.now g.B.Form.form c.args.third.now g.C.Form.form c.args.fourth.now g.D.Form.form d) g.E.Form.has_names g.E.Form.has_texts (option_and_then g.E.Form.form (get c.args.fifth.now d)) c.in_ok-four.ensures c.in_ok-last.ensures
