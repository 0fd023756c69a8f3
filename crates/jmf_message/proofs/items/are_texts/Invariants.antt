use Rattle.std.proofs.Common.{◌≡◌, drop, map}
use Rattle.jmf_message.specs.Form.{are_texts}
use Rattle.jmf_message.proofs.items.are_texts.Given as goal

-- what is left decides
abbrev pub invariant-loop-name : goal.invariant-loop-name
invariant-loop-name g l =
    are_texts (map (λ n. n.now) (drop l.name-index l.names)) (g.S.Source.content l.value) ≡ are_texts (map (λ n. n.now) l.names) (g.S.Source.content l.value)
