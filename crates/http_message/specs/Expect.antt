-- What a request expects before it sends its body (RFC 9110, 10.1.1).
use Rattle.std.specs.Prelude.{Bool, false, ◌&&◌, List, codes}
use Rattle.http_message.specs.Fields.{NamedValue, Summary, absent, once, often, is_same_name}
use Rattle.http_message.specs.Says.{under}
use Rattle.http_message.specs.declared.start.Start.{Start}
use Rattle.http_message.specs.declared.start.Start.TheVariants as starts

-- there is one value, and it is `100-continue`, in either case
abbrev pub is_continue : Summary → Bool
is_continue absent = false
is_continue (once v) = is_same_name v (codes "100-continue")
is_continue often = false

-- a request asks for the interim response by its field Expect, unless it is of HTTP/1.0
abbrev pub expects_continue : Start → List NamedValue → Bool
expects_continue (starts.Request taken wants_host) fields =
    wants_host && is_continue (under (codes "expect") fields)
expects_continue starts.Response fields = false
