-- Laws of pictures.
use Rattle.std.specs.Prelude.{◌≡◌, ℕ, true, List}
use Rattle.std.specs.List.{All}
use Rattle.job_picture.specs.Texts.{escaped_text, is_plain, short_text}

-- no byte of a text in XML is one by which that would end a text or an attribute
abbrev pub EscapedIsPlain : Type 0
EscapedIsPlain = (text : List ℕ) → All (λ b. is_plain b ≡ true) (escaped_text text)

-- the same where it was shortened
abbrev pub ShortenedIsPlain : Type 0
ShortenedIsPlain = (most : ℕ) (text : List ℕ) → All (λ b. is_plain b ≡ true) (short_text most text)
