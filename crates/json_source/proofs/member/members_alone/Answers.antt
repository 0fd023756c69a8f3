use Rattle.std.proofs.Common.{◌∙◌, ap, sym}
use Rattle.json_source.proofs.LastMember.{Member, among, found_elsewhere, found_or, found_there, other_name}
use Rattle.json_source.proofs.member.members_alone.Goals as goal

pub loop-name-preserved-then-eq : goal.loop-name-preserved-then-eq
loop-name-preserved-then-eq c =
    let here = sym c.eq.ensures ∙ c.if-eq.true in
    let rest = c.pop.new.self.items in
    let last : Member = (c.in-Some.name, c.in-Some.member) in (
      ap (λ o. found_or o (among c.args.first.now rest)) c.or-one.ensures
          ∙ found_there c.args.first.now rest last c.loop-name.one here
          ∙ ap (λ ms. found_or c.loop-name.one (among c.args.first.now ms)) (sym c.in-Some.ensures.items) ∙ c.loop-name.invariant.0,
      λ apart.
          found_elsewhere c.args.second.now rest last c.loop-name.other (other_name c.in-Some.name.now c.args.first.now c.args.second.now here apart)
          ∙ ap (λ ms. found_or c.loop-name.other (among c.args.second.now ms)) (sym c.in-Some.ensures.items) ∙ c.loop-name.invariant.1 apart,
    )

pub loop-name-preserved-then-eq-2 : goal.loop-name-preserved-then-eq-2
loop-name-preserved-then-eq-2 c =
    let rest = c.pop.new.self.items in
    let last : Member = (c.in-Some.name, c.in-Some.member) in (
      found_elsewhere c.args.first.now rest last c.loop-name.one (sym c.eq.ensures ∙ c.if-eq.false)
          ∙ ap (λ ms. found_or c.loop-name.one (among c.args.first.now ms)) (sym c.in-Some.ensures.items) ∙ c.loop-name.invariant.0,
      λ apart.
          ap (λ o. found_or o (among c.args.second.now rest)) c.or-other.ensures
          ∙ found_there c.args.second.now rest last c.loop-name.other (sym c.eq-else-eq.ensures ∙ c.if-eq-2.true)
          ∙ ap (λ ms. found_or c.loop-name.other (among c.args.second.now ms)) (sym c.in-Some.ensures.items) ∙ c.loop-name.invariant.1 apart,
    )

pub loop-name-preserved : goal.loop-name-preserved
loop-name-preserved c =
    let rest = c.pop.new.self.items in
    let last : Member = (c.in-Some.name, c.in-Some.member) in (
      found_elsewhere c.args.first.now rest last c.loop-name.one (sym c.eq.ensures ∙ c.if-eq.false)
          ∙ ap (λ ms. found_or c.loop-name.one (among c.args.first.now ms)) (sym c.in-Some.ensures.items) ∙ c.loop-name.invariant.0,
      λ apart.
          found_elsewhere c.args.second.now rest last c.loop-name.other (sym c.eq-else-eq.ensures ∙ c.if-eq-2.false)
          ∙ ap (λ ms. found_or c.loop-name.other (among c.args.second.now ms)) (sym c.in-Some.ensures.items) ∙ c.loop-name.invariant.1 apart,
    )
