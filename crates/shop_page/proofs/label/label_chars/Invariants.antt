use Rattle.std.proofs.Common.{◌≡◌, ◌++◌, drop, string_bytes}
use Rattle.shop_page.specs.Metrics.{label_chars}
use Rattle.shop_page.proofs.label.label_chars.Given as goal

abbrev pub invariant-loop-character : goal.invariant-loop-character
invariant-loop-character l =
    string_bytes l.text ++ label_chars (drop l.character-index l.characters) ≡ label_chars l.characters
