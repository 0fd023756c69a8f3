use Rattle.std.proofs.Common.{◌∙◌, Some, None, arith}
use Rattle.std.proofs.lemmas.Str.Pattern.{split_once_first}
use Rattle.etcd_place.proofs.Parts.{etcd_front, folder_some, folder_whole}
use Rattle.etcd_place.proofs.etcd_folder.EtcdFolder.of.Goals as goal

pub returns-in-Some : goal.returns-in-Some
returns-in-Some c =
    let front = etcd_front c.args.text.now c.in_ok-rest.rest.now c.in_ok-rest.ensures.cases.0 c.in_ok-rest.ensures.cases.1 c.in_ok-rest.ensures.cases.2 in
    let parts = split_once_first 47 c.in_ok-rest.rest.now (Some (c.in-Some.gateway, c.in-Some.name)) c.in-Some.ensures.cases (omega arith) in
    c.named.ensures ∙ folder_some c.args.text.now c.in_ok-rest.rest.now c.in-Some.gateway.now c.in-Some.name.now front parts

pub returns-in-None : goal.returns-in-None
returns-in-None c =
    let front = etcd_front c.args.text.now c.in_ok-rest.rest.now c.in_ok-rest.ensures.cases.0 c.in_ok-rest.ensures.cases.1 c.in_ok-rest.ensures.cases.2 in
    c.whole.ensures ∙ folder_whole c.args.text.now c.in_ok-rest.rest.now front (split_once_first 47 c.in_ok-rest.rest.now None c.in-None.ensures.cases (omega arith))
