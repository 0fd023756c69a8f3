use Rattle.std.proofs.Common.{◌≡◌, ◌∙◌, ap, subst, sym, true}
use Rattle.ticket_items.specs.Ids.{are_distinct}
use Rattle.ticket_rows.specs.Outline.{is_outline}
use Rattle.ticket_rows.specs.Ticket.{IsValid, are_shallow, are_unreserved, depths, ids}
use Rattle.ticket_tree.proofs.WhereTrue.{where_true}
use Rattle.ticket_tree.proofs.ticket.Ticket.from_rows.Goals as goal

pub are_resolved-requires-clause-tree : goal.are_resolved-requires-clause-tree
are_resolved-requires-clause-tree c =
    where_true (are_distinct (ids c.args.rows.items)) c.args.rows.items c.in-Some.rows (sym c.in_ok-rows.ensures ∙ c.in-Some.is)
    (λ distinct same. subst (λ rows. is_outline (depths rows) ≡ true) same
    (ap (λ rows. is_outline (depths rows)) (sym c.as_slice.ensures.value) ∙ sym c.is_outline.ensures ∙ c.if-not-is_outline.false))

pub invariant_of-result : goal.invariant_of-result
invariant_of-result c =
    where_true (are_distinct (ids c.args.rows.items)) c.args.rows.items c.in-Some.rows (sym c.in_ok-rows.ensures ∙ c.in-Some.is)
    (λ distinct same. record {
      tree = subst (λ rows. is_outline (depths rows) ≡ true) same
          (ap (λ rows. is_outline (depths rows)) (sym c.as_slice.ensures.value) ∙ sym c.is_outline.ensures ∙ c.if-not-is_outline.false);
      unreserved = subst (λ rows. are_unreserved rows ≡ true) same
          (ap are_unreserved (sym c.as_slice-2.ensures.value) ∙ sym c.are_unreserved.ensures ∙ c.if-not-are_unreserved.false);
      distinct = subst (λ rows. are_distinct (ids rows) ≡ true) same distinct;
      shallow = subst (λ rows. are_shallow rows ≡ true) same
          (ap are_shallow (sym c.as_slice-3.ensures.value) ∙ sym c.are_shallow-shallow.ensures ∙ c.if-not-shallow.false);
      resolved = sym c.are_resolved.ensures ∙ c.if-not-are_resolved.false;
    })
