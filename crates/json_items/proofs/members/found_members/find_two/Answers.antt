use Rattle.std.specs.Prelude.{option_and_then}
use Rattle.serde_json.specs.Find.{get}
use Rattle.json_items.proofs.members.found_members.find_two.Goals as goal

pub returns : goal.returns
returns g c =
    let d = g.S.Source.content c.args.value.now in
    c.zip.ensures g.A.Form.has_names g.A.Form.has_texts (option_and_then g.A.Form.form (get c.args.name.now d)) g.B.Form.has_names g.B.Form.has_texts (option_and_then g.B.Form.form (get c.args.other_name.now d)) c.in_ok-one.ensures c.in_ok-other.ensures
