-- A URL that a message can be sent to.
use Rattle.std.specs.Prelude.{◌≡◌, ℕ, ◌&&◌, Bool, true, not, List, codes, bytes_eq, Option, Some}
use Rattle.std.specs.Prelude.{None, Ok, Err, is_some, unwrap_or, if◌then◌else◌}
use Rattle.url.specs.Input.{is_empty}
use Rattle.url.specs.Parser.{Parsed, parse_url}
use Rattle.url.specs.Parts.{Parts, text_between}
use Rattle.url.specs.declared.slicing.Position.TheVariants.{AfterPort, BeforeUsername}
use Rattle.http_message.specs.Texts.{is_word}

-- what stands between `//` and the path of a URL
abbrev pub authority_of : Parts → List ℕ
authority_of url = text_between url BeforeUsername AfterPort

-- its port, where it names none that of HTTP
abbrev pub port_of : Parts → ℕ
port_of url = unwrap_or url.port 80

-- it is of HTTP, and has no user, query or fragment
abbrev pub is_plain : Parts → Bool
is_plain url =
    bytes_eq url.scheme (codes "http") && is_empty url.username && is_empty url.password
    && not (is_some url.query) && not (is_some url.fragment)

-- its host and its path can stand in a head
abbrev pub fits_head : Parts → Bool
fits_head url = is_word (authority_of url) && is_word url.path

abbrev pub FitsHead : Parts → Type 0
FitsHead url = (is_word (authority_of url) ≡ true) × (is_word url.path ≡ true)

-- a message can be sent there
abbrev pub is_destination : Parts → Bool
is_destination url = is_plain url && fits_head url

-- what was parsed, if it is a URL and a message can be sent there
abbrev pub sendable_parts : Parsed Parts → Option Parts
sendable_parts (Ok url) = if is_destination url then Some url else None
sendable_parts (Err e) = None

-- the URL that a text is, if a message can be sent there
abbrev pub destination_in : List ℕ → Option Parts
destination_in text = sendable_parts (parse_url None text)
