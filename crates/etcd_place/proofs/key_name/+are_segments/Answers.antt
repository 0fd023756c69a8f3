use Rattle.std.proofs.Common.{◌∙◌, Some, None, sym, arith}
use Rattle.std.proofs.lemmas.Str.Pattern.{split_once_first}
use Rattle.etcd_place.proofs.Parts.{segments_last, segments_not, slash_none, slash_some}
use Rattle.etcd_place.proofs.key_name.+are_segments.Goals as goal

pub returns-else-is_file_name : goal.returns-else-is_file_name
returns-else-is_file_name t c =
    let parts = split_once_first 47 c.args.text.now (Some (c.in-Some.first, c.in-Some.rest)) c.in-Some.ensures.cases (omega arith) in
    c.if-is_file_name.false ∙ segments_not c.args.most c.args.text.now c.in-Some.first.now c.if-most-eq0.false (slash_some c.args.text.now parts.0) parts.1 (sym c.is_file_name.ensures ∙ c.if-is_file_name.false)

pub returns-in-None : goal.returns-in-None
returns-in-None t c =
    c.is_file_name-in-None.ensures ∙ segments_last c.args.most c.args.text.now c.if-most-eq0.false (slash_none c.args.text.now (split_once_first 47 c.args.text.now None c.in-None.ensures.cases (omega arith)))
