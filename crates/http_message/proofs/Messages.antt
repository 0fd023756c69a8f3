-- Messages, computed.
use Rattle.std.proofs.Common.{◌≡◌, ℕ, true, false, List, [], ◌++◌, length, codes, Ok, Err, Some, None, refl}
use Rattle.std.specs.Fmt.{digits}
use Rattle.streams.specs.declared.refused.Refused.TheVariants.{BadHead, NotPost}
use Rattle.http_message.specs.declared.method.Method.TheVariants as asked
use Rattle.http_message.specs.declared.methods.Methods.TheVariants as listeners
use Rattle.http_message.specs.Texts.{is_word, missing_text, request_text, request_to, response_text, page_text, parts_text, sent_text, told_text}

-- the request that posts an empty object
pub empty_object : request_text (codes "{}")
    ≡ codes "POST /jmf HTTP/1.1\r\nHost: 127.0.0.1\r\nContent-Type: application/json\r\n"
    ++ codes "Content-Length: 2\r\nConnection: close\r\n\r\n{}"
unfolding request_to digits
empty_object = refl

-- the request that posts it to another host
pub elsewhere : request_to (codes "press:8010") (codes "/jmf/17") (codes "{}")
    ≡ codes "POST /jmf/17 HTTP/1.1\r\nHost: press:8010\r\nContent-Type: application/json\r\n"
    ++ codes "Content-Length: 2\r\nConnection: close\r\n\r\n{}"
unfolding request_to digits
elsewhere = refl

-- words, and texts that are none
pub words : (is_word (codes "press:8010") ≡ true) × (is_word (codes "a b") ≡ false)
    × (is_word (codes "a\r\nb") ≡ false) × (is_word (codes "") ≡ false)
words = (refl, refl, refl, refl)

-- the response to a request that isn't POST
pub not_post : response_text (Err NotPost)
    ≡ codes "HTTP/1.1 405 Method Not Allowed\r\nAllow: POST\r\nContent-Length: 0\r\n"
    ++ codes "Connection: close\r\n\r\n"
unfolding sent_text parts_text digits
not_post = refl

-- the same from other listeners
pub not_taken : (told_text listeners.PostOrGet NotPost
    ≡ codes "HTTP/1.1 405 Method Not Allowed\r\nAllow: POST, GET\r\nContent-Length: 0\r\n"
    ++ codes "Connection: close\r\n\r\n")
    × (told_text listeners.GetOrHead NotPost
    ≡ codes "HTTP/1.1 405 Method Not Allowed\r\nAllow: GET, HEAD\r\nContent-Length: 0\r\n"
    ++ codes "Connection: close\r\n\r\n")
unfolding sent_text parts_text digits
not_taken = (refl, refl)

-- a bad head is told in a body, but where the head alone may have been asked for
pub bad_head : (told_text listeners.PostOrGet BadHead
    ≡ codes "HTTP/1.1 400 Bad Request\r\nContent-Type: application/json\r\nContent-Length: 31\r\n"
    ++ codes "Connection: close\r\n\r\n{\"Name\":\"BadHead\",\"Refused\":50}")
    × (told_text listeners.GetOrHead BadHead
    ≡ codes "HTTP/1.1 400 Bad Request\r\nContent-Length: 0\r\nConnection: close\r\n\r\n")
unfolding sent_text parts_text digits
bad_head = (refl, refl)

-- a page, and its head alone
pub page : page_text asked.Get 200 (codes "text/html; charset=utf-8") [] (codes "<p>")
    ≡ page_text asked.Head 200 (codes "text/html; charset=utf-8") [] (codes "<p>") ++ codes "<p>"
unfolding sent_text parts_text digits
page = refl

pub page_head : page_text asked.Head 200 (codes "text/html; charset=utf-8") [] (codes "<p>")
    ≡ codes "HTTP/1.1 200 OK\r\nContent-Type: text/html; charset=utf-8\r\nCache-Control: no-store\r\n"
    ++ codes "X-Content-Type-Options: nosniff\r\nContent-Security-Policy: default-src 'none'; "
    ++ codes "style-src 'unsafe-inline'; frame-ancestors 'none'; base-uri 'none'; form-action 'none'\r\n"
    ++ codes "Content-Length: 3\r\nConnection: close\r\n\r\n"
unfolding sent_text parts_text digits
page_head = refl

-- the response where there is no controller
pub missing : missing_text
    ≡ codes "HTTP/1.1 404 Not Found\r\nContent-Type: text/plain\r\nContent-Length: 27\r\n"
    ++ codes "Connection: close\r\n\r\nno controller of this name\n"
unfolding sent_text parts_text digits
missing = refl

-- the response without a body
pub no_body : response_text (Ok None)
    ≡ codes "HTTP/1.1 200 OK\r\nContent-Length: 0\r\nConnection: close\r\n\r\n"
unfolding sent_text parts_text digits
no_body = refl

-- the response with a body of 227 bytes
pub some_body : (body : List ℕ) → length body ≡ 227
    → response_text (Ok (Some body))
    ≡ codes "HTTP/1.1 200 OK\r\nContent-Type: application/json\r\nContent-Length: 227\r\n"
    ++ codes "Connection: close\r\n\r\n" ++ body
unfolding sent_text parts_text digits
some_body body long = rw long refl
