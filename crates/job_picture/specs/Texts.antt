-- Texts in XML: of each character a form in which it means nothing to that, and no more of them
-- than there is room for.
use Rattle.std.specs.Prelude.{ℕ, ◌-◌, ◌==◌, ◌||◌, ◌&&◌, Bool, not, List, ◌++◌, codes, chars}
use Rattle.std.specs.Prelude.{encode_utf8, if◌then◌else◌, length, nat_le, nat_lt, take}
use Rattle.std.specs.List.{flat_map}

-- whether a character may not stand in XML 1.0, or ends a line
abbrev pub is_unfit : ℕ → Bool
is_unfit c = nat_lt c 32 || c == 0xFFFE || c == 0xFFFF

-- a character in XML; U+FFFD in place of one that may not stand there
unfoldable pub escaped_char : ℕ → List ℕ
escaped_char c =
    if c == 38 then codes "&amp;" else
    if c == 60 then codes "&lt;" else
    if c == 62 then codes "&gt;" else
    if c == 34 then codes "&quot;" else
    if c == 39 then codes "&#39;" else
    if is_unfit c then encode_utf8 0xFFFD else encode_utf8 c

abbrev pub escaped_chars : List ℕ → List ℕ
escaped_chars cs = flat_map escaped_char cs

-- a text in XML
abbrev pub escaped_text : List ℕ → List ℕ
escaped_text text = escaped_chars (chars text)

-- how many of the characters that there is room for are left behind a text of which so many are
-- drawn at most
unfoldable pub room_behind : ℕ → ℕ → List ℕ → ℕ
room_behind room most text = if nat_le (length text) most then room - length text else room - most

-- a text in XML that has a number of characters at most, of which the last is `…` where more were
-- left out
unfoldable pub short_text : ℕ → List ℕ → List ℕ
short_text most text =
    if nat_le (length (chars text)) most then escaped_text text
    else escaped_chars (take (most - 1) (chars text)) ++ codes "&#8230;"

-- whether a byte is none by which XML would end a text or an attribute, and no control character
abbrev pub is_plain : ℕ → Bool
is_plain b = nat_le 32 b && not (b == 60) && not (b == 62) && not (b == 34) && not (b == 39)
