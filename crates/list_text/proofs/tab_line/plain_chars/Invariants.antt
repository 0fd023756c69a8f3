use Rattle.std.proofs.Common.{◌≡◌, ◌++◌, drop, string_bytes}
use Rattle.list_text.specs.TabLine.{plain_chars}
use Rattle.list_text.proofs.tab_line.plain_chars.Given as goal

abbrev pub invariant-loop-character : goal.invariant-loop-character
invariant-loop-character l = string_bytes l.text ++ plain_chars (drop l.character-index l.characters) ≡ plain_chars l.characters
