-- What a head says of the body behind it: its length, or the first refusal.
use Rattle.std.specs.Prelude.{ℕ, Bool, true, false, not, ◌&&◌, ◌||◌, nat_lt, List, length}
use Rattle.std.specs.Prelude.{◌==◌, if◌then◌else◌, codes, Option, Some, None, Result, Ok, Err}
use Rattle.std.specs.Char.{is_ascii_digit}
use Rattle.std.specs.List.{list_all}
use Rattle.std.specs.Str.Parse.{digits_value}
use Rattle.streams.specs.declared.refused.Refused.{Refused}
use Rattle.streams.specs.declared.refused.Refused.TheVariants.{BadHead, NotPost, NoLength, TooLarge}
use Rattle.streams.specs.declared.refused.Refused.TheVariants.{Coding}
use Rattle.http_message.specs.Fields.{NamedValue, Summary, absent, once, often, values_of, summary}
use Rattle.http_message.specs.Fields.{is_once, is_absent}
use Rattle.http_message.specs.declared.method.Method.{Method}
use Rattle.http_message.specs.declared.method.Method.TheVariants.{Post, Get, Head}
use Rattle.http_message.specs.declared.start.Start.{Start}
use Rattle.http_message.specs.declared.start.Start.TheVariants as starts

-- decimal digits alone, one or more
abbrev pub is_number : List ℕ → Bool
is_number text = nat_lt 0 (length text) && list_all is_ascii_digit text

-- the number, unless it is none or above the most that may be
unfoldable pub length_of : ℕ → List ℕ → Result ℕ Refused
length_of most text =
    if is_number text then (
    if nat_lt most (digits_value 10 text) then Err TooLarge
    else Ok (digits_value 10 text)) else Err BadHead

-- what the values of Content-Length tell
abbrev pub length_in_fields : ℕ → Summary → Result ℕ Refused
length_in_fields most absent = Err NoLength
length_in_fields most (once v) = length_of most v
length_in_fields most often = Err BadHead

-- a length that is none
abbrev pub is_bad : Result ℕ Refused → Bool
is_bad (Err BadHead) = true
is_bad other = false

-- the values under a name of the fields
abbrev pub under : List ℕ → List NamedValue → Summary
under name fields = summary (values_of name fields)

-- a body that isn't written as it is
abbrev pub is_coded : List NamedValue → Bool
is_coded fields =
    not (is_absent (under (codes "transfer-encoding") fields))
    || not (is_absent (under (codes "content-encoding") fields))

-- the length, or that the body is coded
abbrev pub uncoded_length : List NamedValue → Result ℕ Refused → Result ℕ Refused
uncoded_length fields length = if is_coded fields then Err Coding else length

-- the length of a body that isn't there: it needn't be told (RFC 9112, 6.3), and may be told as 0
abbrev pub no_body : Result ℕ Refused → Result ℕ Refused
no_body (Ok n) = if n == 0 then Ok 0 else Err TooLarge
no_body (Err NoLength) = Ok 0
no_body (Err e) = Err e

-- the length of the body of a request by this method: one by GET or HEAD has none, since nothing is
-- meant by it (RFC 9110, 9.3.1, 9.3.2)
abbrev pub length_by_method : Method → Result ℕ Refused → Result ℕ Refused
length_by_method Post length = length
length_by_method Get length = no_body length
length_by_method Head length = no_body length

-- what a method and the fields say, where this is told of the length
abbrev pub length_of_fields : Option Method → List NamedValue → Result ℕ Refused → Result ℕ Refused
length_of_fields (Some method) fields length = uncoded_length fields (length_by_method method length)
length_of_fields None fields length = Err NotPost

-- what a first line and the fields say, where this is told of the length
abbrev pub length_of_head : Start → List NamedValue → Result ℕ Refused → Result ℕ Refused
length_of_head (starts.Request taken wants_host) fields length =
    if wants_host && not (is_once (under (codes "host") fields)) then Err BadHead
    else length_of_fields taken fields length
length_of_head starts.Response fields length = uncoded_length fields length

-- the length of the body, of so many bytes at most, or the first refusal
abbrev pub body_length : ℕ → Start → List NamedValue → Result ℕ Refused
body_length most start fields =
    let length = length_in_fields most (under (codes "content-length") fields) in
    if is_bad length then Err BadHead else length_of_head start fields length
