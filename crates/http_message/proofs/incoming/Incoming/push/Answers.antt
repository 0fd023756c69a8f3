use Rattle.std.proofs.Common.{◌∙◌, sym, arith}
use Rattle.http_message.proofs.Pushed.{looks_fit, pushed_on, pushed_then}
use Rattle.http_message.proofs.incoming.Incoming.push.Goals as goal

pub overflow_add-self : goal.overflow_add-self
overflow_add-self c =
    let few = looks_fit c.self.inside.most c.self.inside.kind c.self.inside.bytes.items c.args.piece.now c.extend_from_slice.new.self.items
    c.as_slice-bytes.result.now c.self.inside.found c.self.inside.looks c.in_ok-extend_from_slice.ensures.items c.as_slice-bytes.ensures.value
    c.self.invariant (sym c.wants_look.ensures ∙ c.if-wants_look.true) in
    omega (arith, few, c.self.inside.bytes.small)

pub invariant_of-self-then-wants_look : goal.invariant_of-self-then-wants_look
invariant_of-self-then-wants_look c =
    pushed_then c.self.inside.most c.self.inside.kind c.self.inside.bytes.items c.args.piece.now c.extend_from_slice.new.self.items
    c.as_slice-bytes.result.now c.self.inside.found c.found_in-self-inside.result c.self.inside.looks c.in_ok-extend_from_slice.ensures.items
    c.as_slice-bytes.ensures.value c.self.invariant (sym c.wants_look.ensures ∙ c.if-wants_look.true) c.found_in-self-inside.ensures

pub invariant_of-self-else-wants_look : goal.invariant_of-self-else-wants_look
invariant_of-self-else-wants_look c =
    pushed_on c.self.inside.most c.self.inside.kind c.self.inside.bytes.items c.args.piece.now c.extend_from_slice.new.self.items
    c.as_slice-bytes.result.now c.self.inside.found c.self.inside.looks c.in_ok-extend_from_slice.ensures.items
    c.as_slice-bytes.ensures.value c.self.invariant (sym c.wants_look.ensures ∙ c.if-wants_look.false)
