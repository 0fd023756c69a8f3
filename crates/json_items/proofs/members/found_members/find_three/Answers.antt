use Rattle.std.specs.Prelude.{option_and_then}
use Rattle.serde_json.specs.Find.{get}
use Rattle.json_items.specs.Validation.{on_both}
use Rattle.json_items.specs.Members.{two_form}
use Rattle.json_items.proofs.members.found_members.find_three.Goals as goal

pub returns : goal.returns
returns g c =
    let d = g.S.Source.content c.args.value.now in
    c.zip.ensures (on_both g.A.Form.has_names g.B.Form.has_names) (on_both g.A.Form.has_texts g.B.Form.has_texts) (two_form c.args.first.now g.A.Form.form c.args.second.now g.B.Form.form d) g.C.Form.has_names g.C.Form.has_texts (option_and_then g.C.Form.form (get c.args.third.now d)) c.in_ok-pair.ensures c.in_ok-last.ensures
