-- A place in etcd, as a text.
use Rattle.std.specs.Prelude.{ℕ, zero, suc, ◌&&◌, ◌==◌, Bool, false, not, List, [], ◌∷◌, ◌++◌}
use Rattle.std.specs.Prelude.{length, codes}
use Rattle.std.specs.Prelude.{drop, nat_eq, nat_lt, Option, Some, None, if◌then◌else◌}
use Rattle.std.specs.Char.{is_ascii_digit}
use Rattle.std.specs.List.{after_first, before_first, list_all, position_or_len, starts_with}
use Rattle.std.specs.Str.Parse.{digits_value}
use Rattle.http_message.specs.Texts.{is_word}
use Rattle.shop_folder.specs.Names.{is_file_name}

-- ---- HOST:PORT

-- it names no user
abbrev pub has_no_user : List ℕ → Bool
has_no_user text = list_all (λ c. not (c == 64)) text

-- a port of 1 to 65,535, in digits
abbrev pub is_port : List ℕ → Bool
is_port text =
    list_all is_ascii_digit text && nat_lt 0 (digits_value 10 text) && nat_lt (digits_value 10 text) 65536

abbrev pub is_port_behind_colon : List ℕ → Bool
is_port_behind_colon [] = false
is_port_behind_colon (c ∷ port) = c == 58 && is_port port

-- a host and a port, with one `:`
abbrev pub is_named_address : List ℕ → Bool
is_named_address text =
    not (length (before_first (λ c. c == 58) text) == 0) && is_port (after_first (λ c. c == 58) text)

-- what follows a `[`: a host, a `]`, and a port behind a `:`
abbrev pub is_bracketed_address : List ℕ → Bool
is_bracketed_address text =
    not (length (before_first (λ c. c == 93) text) == 0)
    && is_port_behind_colon (after_first (λ c. c == 93) text)

-- a host, which stands in brackets or has no `:`, a `:` and a port
abbrev pub is_address : List ℕ → Bool
is_address [] = false
is_address (c ∷ rest) =
    if c == 91 then is_bracketed_address rest else is_named_address (c ∷ rest)

abbrev pub is_gateway : List ℕ → Bool
is_gateway text = is_word text && has_no_user text && is_address text

-- ---- the name

-- what stands before the first `/` and what behind it, if there is one
abbrev pub has_slash : List ℕ → Bool
has_slash text = nat_lt (position_or_len (λ c. c == 47) text) (length text)

abbrev pub front_of : List ℕ → List ℕ
front_of text = before_first (λ c. c == 47) text

abbrev pub rest_of : List ℕ → List ℕ
rest_of text = after_first (λ c. c == 47) text

-- names of files with a `/` between them, so many at most
abbrev pub are_segments : ℕ → List ℕ → Bool
are_segments zero text = false
are_segments (suc most) text =
    if has_slash text then is_file_name (front_of text) && are_segments most (rest_of text)
    else is_file_name text

abbrev pub is_key_name : List ℕ → Bool
is_key_name name = are_segments 8 name

-- the key under which the value of a name is
abbrev pub key_of : List ℕ → List ℕ
key_of name = codes "toarnbif/" ++ name

-- ---- both

-- what a place names
pub record Named : Type 0 where
  pub gateway : List ℕ
  pub name : List ℕ

abbrev pub text_of : Named → List ℕ
text_of place = codes "etcd://" ++ place.gateway ++ codes "/" ++ place.name

abbrev pub is_etcd : List ℕ → Bool
is_etcd text = starts_with nat_eq text (codes "etcd://")

-- the place of these, if they are a gateway and the name of a value
abbrev pub place_of : (gateway name : List ℕ) → Option Named
place_of gateway name =
    if is_gateway gateway && is_key_name name
    then Some (record { gateway = gateway; name = name }) else None

-- the place that a text is, if it is one: the gateway is what stands behind `etcd://` up to the
-- first `/`
abbrev pub etcd_place_in : List ℕ → Option Named
etcd_place_in text =
    if is_etcd text && has_slash (drop 7 text)
    then place_of (front_of (drop 7 text)) (rest_of (drop 7 text)) else None
