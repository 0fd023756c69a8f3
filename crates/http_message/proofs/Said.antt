-- What a head says is a length, or a refusal of HTTP.
use Rattle.std.proofs.Common.{◌≡◌, ℕ, Bool, true, false, if◌then◌else◌, List, Option, Some, None, Result, Ok, Err, refl}
use Rattle.std.specs.Prelude.{nat_lt, codes, not, ◌&&◌, ◌==◌}
use Rattle.std.specs.Str.Parse.{digits_value}
use Rattle.streams.specs.declared.refused.Refused.{Refused}
use Rattle.streams.specs.declared.refused.Refused.TheVariants.{BadHead, NoLength, TooLarge}
use Rattle.http_message.specs.Fields.{NamedValue, Summary, absent, once, often, is_once}
use Rattle.http_message.specs.Message.{is_refusal}
use Rattle.http_message.specs.Says.{body_length, is_bad, is_coded, is_number, length_by_method, length_in_fields, length_of, length_of_fields, length_of_head, no_body, under}
use Rattle.http_message.specs.declared.method.Method.{Method}
use Rattle.http_message.specs.declared.method.Method.TheVariants as methods
use Rattle.http_message.specs.declared.start.Start.{Start}
use Rattle.http_message.specs.declared.start.Start.TheVariants as starts

-- a length, or a refusal of HTTP
abbrev pub is_of_http : Result ℕ Refused → Bool
is_of_http (Ok n) = true
is_of_http (Err e) = is_refusal e

either : (c : Bool) (a b : Result ℕ Refused) → is_of_http a ≡ true → is_of_http b ≡ true
    → is_of_http (if c then a else b) ≡ true
either true a b p q = p
either false a b p q = q

of_length : (most : ℕ) (text : List ℕ) → is_of_http (length_of most text) ≡ true
unfolding length_of
of_length most text =
    let n = digits_value 10 text in
    either (is_number text) (if nat_lt most n then Err TooLarge else Ok n) (Err BadHead)
    (either (nat_lt most n) (Err TooLarge) (Ok n) refl refl) refl

of_told : (most : ℕ) (s : Summary) → is_of_http (length_in_fields most s) ≡ true
of_told most absent = refl
of_told most (once v) = of_length most v
of_told most often = refl

of_none : (length : Result ℕ Refused) → is_of_http length ≡ true → is_of_http (no_body length) ≡ true
of_none (Ok n) ok = either (n == 0) (Ok 0) (Err TooLarge) refl refl
of_none (Err NoLength) ok = refl
of_none (Err e) ok = ok

of_method : (method : Method) (length : Result ℕ Refused) → is_of_http length ≡ true
    → is_of_http (length_by_method method length) ≡ true
of_method methods.Post length ok = ok
of_method methods.Get length ok = of_none length ok
of_method methods.Head length ok = of_none length ok

of_taken : (taken : Option Method) (fields : List NamedValue) (length : Result ℕ Refused) → is_of_http length ≡ true
    → is_of_http (length_of_fields taken fields length) ≡ true
of_taken None fields length ok = refl
of_taken (Some method) fields length ok = either (is_coded fields) _ _ refl (of_method method length ok)

of_rest : (start : Start) (fields : List NamedValue) (length : Result ℕ Refused) → is_of_http length ≡ true
    → is_of_http (length_of_head start fields length) ≡ true
of_rest (starts.Request taken wants_host) fields length ok =
    either (wants_host && not (is_once (under (codes "host") fields))) _ _ refl (of_taken taken fields length ok)
of_rest starts.Response fields length ok = either (is_coded fields) _ _ refl ok

pub said_of_http : (most : ℕ) (start : Start) (fields : List NamedValue) → is_of_http (body_length most start fields) ≡ true
said_of_http most start fields =
    let length = length_in_fields most (under (codes "content-length") fields) in
    either (is_bad length) _ _ refl (of_rest start fields length (of_told most (under (codes "content-length") fields)))
