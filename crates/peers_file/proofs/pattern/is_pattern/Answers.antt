use Rattle.std.proofs.Common.{◌∙◌, sym, ap, arith}
use Rattle.std.specs.Prelude.{◌||◌}
use Rattle.std.proofs.lemmas.Str.Pattern.{strip_suffix_char}
use Rattle.ticket_items.specs.Names.{is_name}
use Rattle.peers_file.proofs.Patterns.{pattern_closed, pattern_open}
use Rattle.peers_file.proofs.pattern.is_pattern.Goals as goal

pub returns-in-None : goal.returns-in-None
returns-in-None c =
    let none = rw c.in-None.is at (strip_suffix_char 42 c.args.text.now c.strip_suffix.result c.strip_suffix.ensures.cases (omega arith)) in
    c.is_name.ensures ∙ sym (pattern_closed c.args.text.now (λ front is. none front is))

pub returns-then-is_empty : goal.returns-then-is_empty
returns-then-is_empty c =
    let some = rw c.in-Some.is at (strip_suffix_char 42 c.args.text.now c.strip_suffix.result c.strip_suffix.ensures.cases (omega arith)) in
    c.if-is_empty.true ∙ sym (pattern_open c.args.text.now c.in-Some.front.now some
    ∙ ap (λ b. b || is_name c.in-Some.front.now) (sym c.is_empty.ensures ∙ c.if-is_empty.true))

pub returns-else-is_empty : goal.returns-else-is_empty
returns-else-is_empty c =
    let some = rw c.in-Some.is at (strip_suffix_char 42 c.args.text.now c.strip_suffix.result c.strip_suffix.ensures.cases (omega arith)) in
    c.is_name-else-is_empty.ensures ∙ sym (pattern_open c.args.text.now c.in-Some.front.now some
    ∙ ap (λ b. b || is_name c.in-Some.front.now) (sym c.is_empty.ensures ∙ c.if-is_empty.false))
