-- The texts as the pieces that they are written in.
use Rattle.std.proofs.Common.{◌≡◌, ℕ, List, [], ◌++◌, length, codes, decimal, ap, sym, ◌∙◌, subst, append_assoc}
use Rattle.std.proofs.lemmas.List.{append-nil}
use Rattle.http.specs.StatusCode.{code_digits}
use Rattle.http_message.specs.Status.{phrase_of}
use Rattle.http_message.specs.Texts.{end_lines, last_lines, request_to, parts_text, sent_text, status_line}

-- the last pieces of a message
abbrev pub last_pieces : List ℕ → List ℕ → List ℕ
last_pieces digits body =
    codes "Content-Length: " ++ (digits ++ (codes "\r\nConnection: close\r\n\r\n" ++ (body ++ [])))

regroup : (digits first second third body : List ℕ)
    → digits ++ (((first ++ second) ++ third) ++ (body ++ []))
    ≡ (((digits ++ first) ++ second) ++ third) ++ body
regroup digits first second third body = simp (append_assoc, append-nil)

last_pieces-lines : (digits body sent : List ℕ) → digits ≡ decimal (length body)
    → last_pieces digits sent ≡ end_lines body ++ sent
last_pieces-lines digits body sent is =
    let lines = regroup (decimal (length body)) (codes "\r\n") (codes "Connection: close\r\n") (codes "\r\n") sent in
    subst (λ d. last_pieces d sent ≡ end_lines body ++ sent) (sym is) (ap (λ l. codes "Content-Length: " ++ l) lines)

regroup_request : (post target version line before host type rest : List ℕ)
    → post ++ (target ++ (((version ++ line) ++ before) ++ (host ++ (line ++ (type ++ rest)))))
    ≡ (((((post ++ target) ++ version) ++ line) ++ ((before ++ host) ++ line)) ++ type) ++ rest
regroup_request post target version line before host type rest = simp append_assoc

-- the pieces of a request
pub request_to-pieces : (host target digits body : List ℕ) → digits ≡ decimal (length body)
    → codes "POST " ++ (target ++ (codes " HTTP/1.1\r\nHost: " ++ (host ++ (codes "\r\n"
    ++ (codes "Content-Type: application/json\r\n" ++ last_pieces digits body)))))
    ≡ request_to host target body
unfolding request_to
request_to-pieces host target digits body is =
    ap (λ last. codes "POST " ++ (target ++ (codes " HTTP/1.1\r\nHost: " ++ (host ++ (codes "\r\n"
    ++ (codes "Content-Type: application/json\r\n" ++ last)))))) (last_pieces-lines digits body body is)
    ∙ regroup_request (codes "POST ") target (codes " HTTP/1.1") (codes "\r\n") (codes "Host: ") host
    (codes "Content-Type: application/json\r\n") (last_lines body)

regroup_line : (start code space phrase end rest : List ℕ)
    → start ++ (code ++ (space ++ (phrase ++ (end ++ rest))))
    ≡ ((((start ++ code) ++ space) ++ phrase) ++ end) ++ rest
regroup_line start code space phrase end rest = simp append_assoc

-- the pieces of a response
pub parts_text-pieces : (code phrase lines digits body sent : List ℕ) → digits ≡ decimal (length body)
    → codes "HTTP/1.1 " ++ (code ++ (codes " " ++ (phrase ++ (codes "\r\n"
    ++ (lines ++ last_pieces digits sent)))))
    ≡ parts_text code phrase lines body sent
unfolding parts_text
parts_text-pieces code phrase lines digits body sent is =
    let rest = lines ++ last_pieces digits sent in
    regroup_line (codes "HTTP/1.1 ") code (codes " ") phrase (codes "\r\n") rest
    ∙ ap (λ last. status_line code phrase ++ (lines ++ last)) (last_pieces-lines digits body sent is)
    ∙ sym (append_assoc (status_line code phrase) lines (end_lines body ++ sent))

-- the digits and the phrase of a status
pub sent_text-parts : (status : ℕ) (code phrase lines body sent : List ℕ) → code ≡ code_digits status
    → phrase ≡ phrase_of status → parts_text code phrase lines body sent ≡ sent_text status lines body sent
unfolding sent_text
sent_text-parts status code phrase lines body sent code_is phrase_is =
    ap (λ digits. parts_text digits phrase lines body sent) code_is
    ∙ ap (λ words. parts_text (code_digits status) words lines body sent) phrase_is
