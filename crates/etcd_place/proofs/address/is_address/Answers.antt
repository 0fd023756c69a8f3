use Rattle.std.proofs.Common.{◌∙◌, None, arith}
use Rattle.std.proofs.lemmas.Str.Pattern.{strip_prefix_char}
use Rattle.etcd_place.proofs.Parts.{bracket_none}
use Rattle.etcd_place.proofs.address.is_address.Goals as goal

pub returns-in-None : goal.returns-in-None
returns-in-None c =
    c.is_named_address.ensures ∙ bracket_none c.args.text.now (strip_prefix_char 91 c.args.text.now None c.in-None.ensures.cases (omega arith))
