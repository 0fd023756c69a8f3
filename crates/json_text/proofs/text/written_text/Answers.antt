use Rattle.std.proofs.Common.{◌∙◌, ◌++◌, ap}
use Rattle.json.specs.Lex.{tokens}
use Rattle.json.specs.Print.{print}
use Rattle.json_text.proofs.Tokens.{text_of_tokens, read_again}
use Rattle.json_text.proofs.text.written_text.Goals as goal

pub returns-clause-text : goal.returns-clause-text
returns-clause-text c = λ d printed.
    c.into_inner.ensures.items ∙ ap (λ t. c.args.out.before ++ t) (text_of_tokens d (print c.args.out.tokens) (ap print printed))

pub returns-clause-again : goal.returns-clause-again
returns-clause-again c = λ d empty printed again shallow.
    let text = c.into_inner.ensures.items ∙ ap (λ b. b ++ print c.args.out.tokens) empty in
    read_again d c.into_inner.result.items (ap tokens text ∙ c.into_inner.ensures.reads_back ∙ printed) shallow again
