use Rattle.std.proofs.Common.{◌∙◌, ap, sym}
use Rattle.json_source.proofs.LastMember.{Member, among, last_other, last_there}
use Rattle.json_source.proofs.member.member_alone.Goals as goal

pub returns-then-eq : goal.returns-then-eq
returns-then-eq c =
    let rest = c.pop.new.self.items in
    let last : Member = (c.in-Some.own, c.in-Some.member) in
    sym (last_there c.args.name.now rest last (sym c.eq.ensures ∙ c.if-eq.true)) ∙ ap (among c.args.name.now) (sym c.in-Some.ensures.items) ∙ c.loop-own.invariant

pub loop-own-preserved : goal.loop-own-preserved
loop-own-preserved c =
    let rest = c.pop.new.self.items in
    let last : Member = (c.in-Some.own, c.in-Some.member) in
    sym (last_other c.args.name.now rest last (sym c.eq.ensures ∙ c.if-eq.false)) ∙ ap (among c.args.name.now) (sym c.in-Some.ensures.items) ∙ c.loop-own.invariant
