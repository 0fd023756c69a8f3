use Rattle.std.proofs.Common.{◌≡◌, ◌∙◌, ◌-◌, length, take, drop, ap, arith}
use Rattle.std.proofs.lemmas.List.{length-drop, take_all}
use Rattle.std.specs.Cmp.Lexicographic.{slice_cmp}
use Rattle.std.specs.Ordering.{nat_cmp, ordering_then}
use Rattle.peers_file.proofs.Compared.{cmp-append, shared_front, shared_rest}
use Rattle.peers_file.proofs.compare.compare.Goals as goal

pub returns : goal.returns
returns c =
    let text = c.args.text.now in
    let front = c.args.front.now in
    let end = c.args.end.now in
    let shared = c.min-shared.result in
    let one : c.cmp.result ≡ slice_cmp nat_cmp (take (length front) text) front =
    c.cmp.ensures ∙ ap (λ k. slice_cmp nat_cmp (take k text) front) c.min-shared.ensures
    ∙ ap (λ t. slice_cmp nat_cmp t front) (shared_front text (length front)) in
    let rest : take (length text - shared) (drop shared text) ≡ drop (length front) text =
    take_all (length text - shared) (drop shared text) (omega (arith, length-drop shared text))
    ∙ ap (λ k. drop k text) c.min-shared.ensures ∙ shared_rest text (length front) in
    let other : c.cmp-2.result ≡ slice_cmp nat_cmp (drop (length front) text) end =
    c.cmp-2.ensures ∙ ap (λ t. slice_cmp nat_cmp t end) rest in
    c.then.ensures ∙ (λ i. ordering_then (one i) (other i)) ∙ cmp-append text front end
