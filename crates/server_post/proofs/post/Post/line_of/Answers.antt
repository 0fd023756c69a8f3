use Rattle.std.proofs.Common.{◌≡◌, ap, append-nil, option_copied, string_bytes, rules}
use Rattle.server_post.specs.Lines.{url_text}
use Rattle.server_post.proofs.Numbers.{line_found, line_new, url_known}
use Rattle.server_post.proofs.post.Post.line_of.Goals as goal

pub returns-in-Some-get_index_of-clause-its : goal.returns-in-Some-get_index_of-clause-its
returns-in-Some-get_index_of-clause-its c =
    let url = c.in-Some.found.now in
    let its = url_known c.as_str.result.now c.args.name.now c.args.self.now.peers (option_copied c.url_of.result) url c.as_str.ensures.value c.url_of.ensures (ap option_copied c.in-Some.is) in
    let text : string_bytes c.in_ok-url.url ≡ url_text c.in-Some.found.now = search (rules, append-nil) in
    λ paired. line_found c.args.self.now.targets c.args.name.now c.args.self.now.peers c.in-Some-get_index_of.line url (string_bytes c.in_ok-url.url) c.as_str-2.result.now c.get_index_of.result c.in_ok-url.url its text c.as_str-2.ensures.value c.in-Some-get_index_of.is c.get_index_of.ensures.index

pub returns-clause-its : goal.returns-clause-its
returns-clause-its c =
    let url = c.in-Some.found.now in
    let its = url_known c.as_str.result.now c.args.name.now c.args.self.now.peers (option_copied c.url_of.result) url c.as_str.ensures.value c.url_of.ensures (ap option_copied c.in-Some.is) in
    let text : string_bytes c.in_ok-url.url ≡ url_text c.in-Some.found.now = search (rules, append-nil) in
    λ paired. line_new c.add_target.new.self.targets c.add_target.result c.args.name.now c.args.self.now.peers url (string_bytes c.in_ok-url.url) its text (c.add_target.ensures.its paired)
