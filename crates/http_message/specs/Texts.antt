-- The texts of a request and of a response.
use Rattle.std.specs.Prelude.{◌&&◌, ◌==◌, ℕ, Bool, List, [], ◌++◌, length, codes, decimal, not}
use Rattle.std.specs.Prelude.{if◌then◌else◌}
use Rattle.std.specs.Char.{is_ascii_graphic}
use Rattle.std.specs.List.{list_all}
use Rattle.std.specs.Prelude.{Option, Some, None, Result, Ok, Err, option_map}
use Rattle.std.specs.Borrow.{Bor}
use Rattle.http.specs.StatusCode.{code_digits}
use Rattle.streams.specs.declared.refused.Refused.{Refused}
use Rattle.streams.specs.declared.refused.Refused.TheVariants.{NotPost}
use Rattle.streams.specs.Refused.{name_of, number_of}
use Rattle.http_message.specs.Methods.{allow_line, takes}
use Rattle.http_message.specs.Status.{bad_status, done_status, missing_status, status_of}
use Rattle.http_message.specs.Status.{phrase_of}
use Rattle.http_message.specs.declared.method.Method.{Method}
use Rattle.http_message.specs.declared.method.Method.TheVariants as asked
use Rattle.http_message.specs.declared.methods.Methods.{Methods}
use Rattle.http_message.specs.declared.methods.Methods.TheVariants as listeners

-- a line of a head
abbrev pub head_line : List ℕ → List ℕ
head_line text = text ++ codes "\r\n"

-- the line that tells what a body is
abbrev pub type_line : List ℕ
type_line = head_line (codes "Content-Type: application/json")

-- the line that tells of one that is a text for a reader
abbrev pub plain_line : List ℕ
plain_line = head_line (codes "Content-Type: text/plain")

-- the line that tells the length of a body
abbrev pub length_line : List ℕ → List ℕ
length_line body = head_line (codes "Content-Length: " ++ decimal (length body))

-- the last lines of the head in front of a body
abbrev pub end_lines : List ℕ → List ℕ
end_lines body = length_line body ++ head_line (codes "Connection: close") ++ head_line []

-- these, and the body behind them
abbrev pub last_lines : List ℕ → List ℕ
last_lines body = end_lines body ++ body

-- one word of visible ASCII, as a host and a target are
abbrev pub is_word : List ℕ → Bool
is_word text = not (length text == 0) && list_all is_ascii_graphic text

-- the request that posts a body to a target of a host
unfoldable pub request_to : List ℕ → List ℕ → List ℕ → List ℕ
request_to host target body =
    head_line (codes "POST " ++ target ++ codes " HTTP/1.1") ++ head_line (codes "Host: " ++ host)
    ++ type_line ++ last_lines body

-- the request that posts a body to a controller of this machine
abbrev pub request_text : List ℕ → List ℕ
request_text = request_to (codes "127.0.0.1") (codes "/jmf")

-- the first line of a response
abbrev pub status_line : List ℕ → List ℕ → List ℕ
status_line code phrase = head_line (codes "HTTP/1.1 " ++ code ++ codes " " ++ phrase)

-- the lines that only some refusals have: which methods are taken, where another came
abbrev pub refusal_lines : Methods → Refused → List ℕ
refusal_lines methods NotPost = allow_line methods
refusal_lines methods _ = []

-- a response whose status has this code and this phrase, with these lines, the length of this body,
-- and so much of it
unfoldable pub parts_text : List ℕ → List ℕ → List ℕ → List ℕ → List ℕ → List ℕ
parts_text code phrase lines body sent =
    status_line code phrase ++ lines ++ (end_lines body ++ sent)

-- a response of this status, with the length of this body, and so much of it
unfoldable pub sent_text : ℕ → List ℕ → List ℕ → List ℕ → List ℕ
sent_text status lines body sent =
    parts_text (code_digits status) (phrase_of status) lines body sent

-- a response of this status
abbrev pub status_text : ℕ → List ℕ → List ℕ → List ℕ
status_text status lines body = sent_text status lines body body

-- the response to a request that was answered with a body or with none
abbrev pub answer_text : Option (List ℕ) → List ℕ
answer_text (Some body) = status_text done_status type_line body
answer_text None = status_text done_status [] []

-- the response to a request that a listener of these methods refused
abbrev pub refusal_text : Methods → Refused → List ℕ
refusal_text methods e = status_text (status_of e) (refusal_lines methods e) []

-- the response to a request that names no controller that is there
abbrev pub missing_text : List ℕ
missing_text = status_text missing_status plain_line (codes "no controller of this name\n")

-- the response to a message that was answered or refused
abbrev pub response_text : Result (Option (List ℕ)) Refused → List ℕ
response_text (Ok body) = answer_text body
response_text (Err e) = refusal_text listeners.Post e

-- what tells a refusal, as JSON
abbrev pub refusal_body : Refused → List ℕ
refusal_body e =
    codes "{\"Name\":\"" ++ name_of e ++ codes "\",\"Refused\":" ++ decimal (number_of e) ++ codes "}"

-- the refusal is told in a body: where the request is to blame, unless HEAD may have been asked,
-- which is answered without a body (RFC 9110, 9.3.2)
abbrev pub is_told : Methods → Refused → Bool
is_told methods e = status_of e == bad_status && not (takes methods asked.Head)

-- the response of a server to a request that a listener of these methods refused
abbrev pub told_text : Methods → Refused → List ℕ
told_text methods e =
    if is_told methods e then status_text bad_status type_line (refusal_body e)
    else refusal_text methods e

-- the response of a server to a message that was answered or refused
abbrev pub served_text : Result (Option (List ℕ)) Refused → List ℕ
served_text (Ok body) = answer_text body
served_text (Err e) = told_text listeners.Post e

-- how much of a body a request by this method is answered with: with none, where it asks for the
-- head alone (RFC 9110, 9.3.2)
abbrev pub body_part_for : Method → List ℕ → List ℕ
body_part_for asked.Post body = body
body_part_for asked.Get body = body
body_part_for asked.Head body = []

-- the lines of a page: what its body is, that it is neither stored nor taken for anything else, and
-- that it loads nothing, runs nothing, sends nothing and stands in no other page; and these
abbrev pub page_lines : List ℕ → List ℕ → List ℕ
page_lines kind lines =
    head_line (codes "Content-Type: " ++ kind)
    ++ head_line (codes "Cache-Control: no-store")
    ++ head_line (codes "X-Content-Type-Options: nosniff")
    ++ head_line (codes "Content-Security-Policy: default-src 'none'; style-src 'unsafe-inline'; "
    ++ codes "frame-ancestors 'none'; base-uri 'none'; form-action 'none'")
    ++ lines

-- a page of this status: the response to a request by this method
abbrev pub page_text : Method → ℕ → List ℕ → List ℕ → List ℕ → List ℕ
page_text method status kind lines body =
    sent_text status (page_lines kind lines) body (body_part_for method body)

-- what was answered, with the body itself for the reference to it
abbrev pub answer_of : Result (Option (Bor (List ℕ))) Refused → Result (Option (List ℕ)) Refused
answer_of (Ok body) = Ok (option_map (λ bytes. bytes.now) body)
answer_of (Err e) = Err e
