use Rattle.std.proofs.Common.{refl}
use Rattle.json_text.proofs.MemberLaws.{on_ok, members_none, members_more}
use Rattle.json_text.proofs.nodes.print_front.Goals as goal

pub returns-clause-printed : goal.returns-clause-printed
returns-clause-printed c =
    on_ok c.print_member-3.result c.print_member-3.ensures.printed (λ id.
    members_more _ _ c.args.out.now c.in_ok-print_member.ensures.printed c.in_ok-print_member.ensures.again
    (members_more _ _ c.print_member.new.out c.in_ok-print_member-2.ensures.printed c.in_ok-print_member-2.ensures.again
    (members_more _ _ c.print_member-2.new.out id refl (members_none c.print_member-3.new.out))))

pub returns-clause-valid : goal.returns-clause-valid
returns-clause-valid c =
    on_ok c.print_member-3.result c.print_member-3.ensures.names (λ id. record {
      id = id;
      attr_names = c.in_ok-print_member.ensures.names;
      attr_texts = c.in_ok-print_member.ensures.texts;
      audit_names = c.in_ok-print_member-2.ensures.names;
      audit_texts = c.in_ok-print_member-2.ensures.texts;
    })
