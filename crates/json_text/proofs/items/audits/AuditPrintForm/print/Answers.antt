use Rattle.std.proofs.Common.{◌≡◌, ◌∙◌, ap, refl, sym, subst, Result, OnOk}
use Rattle.json.specs.Token.{end_object}
use Rattle.json.specs.Written.{Written, Writes}
use Rattle.serde_json.specs.Data.{object, Members, no_members}
use Rattle.ticket_items.specs.declared.audit.Audit.{Audit}
use Rattle.json_items.specs.Audits.{audit_data}
use Rattle.json_text.specs.Printed.{IsPrinted}
use Rattle.json_text.proofs.PrintedObjects.{IsOpen, opened, one_member, closed}
use Rattle.json_text.proofs.Tokens.{put_all}
use Rattle.json_text.proofs.items.audits.AuditPrintForm.print.Goals.{in-Notification+in_ok-print_text-in-Notification+in_ok-print_member-in-Notification+in_ok-print_member-in-Notification-2, in-Spawned+in_ok-print_text-in-Spawned+in_ok-print_member-in-Spawned+in_ok-print_member-in-Spawned-2+in_ok-print_member-in-Spawned-3+in_ok-print_member-in-Spawned-4+in_ok-print_member-in-Spawned-5+in_ok-print_member-in-Spawned-6, in-Merged+in_ok-print_member-in-Merged+in_ok-print_text-in-Merged+in_ok-print_member-in-Merged-2+in_ok-print_member-in-Merged-3+in_ok-print_member-in-Merged-4}
use Rattle.json_text.proofs.items.audits.AuditPrintForm.print.Goals as goal

-- the end of an audit that is told by its members
done : {E : Type 0} (mid : Written) (r : Result (Unit {0}) E) (old new last : Written) (a b : Audit) → b ≡ a → last ≡ mid → {ms : Members} → IsOpen ms old last → Writes r mid new end_object → put_all ms no_members ≡ ms → audit_data b ≡ object ms → OnOk r (IsPrinted (audit_data a) old new)
done {E} mid r old new last a b same out {ms} before ends order seen =
    subst (λ d. OnOk r (IsPrinted d old new)) (sym seen ∙ ap audit_data same) (closed r new (subst (IsOpen ms old) out before) ends order)

pub returns-clause-printed : goal.returns-clause-printed
returns-clause-printed c =
    let o0 = opened c.begin_object.result c.args.out.now c.begin_object.new.self c.begin_object.ensures c.in_ok-begin_object.ensures.ok in
    elim c.match-self.branch as (λ _. OnOk c.end_object.result (IsPrinted (audit_data c.args.self.now) c.args.out.now c.end_object.new.self)) [
      | in-Notification+in_ok-print_text-in-Notification+in_ok-print_member-in-Notification+in_ok-print_member-in-Notification-2 w ↦
          let o1 = one_member _ _ w.print_text.new.out o0 w.in_ok-print_text-in-Notification.ensures refl in
          let o2 = one_member _ _ w.print_member.new.out o1 w.in_ok-print_member-in-Notification.ensures.printed w.in_ok-print_member-in-Notification.ensures.again in
          let o3 = one_member _ _ w.print_member-in-Notification.new.out o2 w.in_ok-print_member-in-Notification-2.ensures.printed w.in_ok-print_member-in-Notification-2.ensures.again in
          done c.match-self.out c.end_object.result c.args.out.now c.end_object.new.self _ c.args.self.now _ (sym w.in-Notification.is) (sym w.out-is) o3 c.end_object.ensures refl refl
      | in-Spawned+in_ok-print_text-in-Spawned+in_ok-print_member-in-Spawned+in_ok-print_member-in-Spawned-2+in_ok-print_member-in-Spawned-3+in_ok-print_member-in-Spawned-4+in_ok-print_member-in-Spawned-5+in_ok-print_member-in-Spawned-6 w ↦
          let o1 = one_member _ _ w.print_text-in-Spawned.new.out o0 w.in_ok-print_text-in-Spawned.ensures refl in
          let o2 = one_member _ _ w.print_member-in-Spawned.new.out o1 w.in_ok-print_member-in-Spawned.ensures.printed w.in_ok-print_member-in-Spawned.ensures.again in
          let o3 = one_member _ _ w.print_member-in-Spawned-2.new.out o2 w.in_ok-print_member-in-Spawned-2.ensures.printed w.in_ok-print_member-in-Spawned-2.ensures.again in
          let o4 = one_member _ _ w.print_member-in-Spawned-3.new.out o3 w.in_ok-print_member-in-Spawned-3.ensures.printed w.in_ok-print_member-in-Spawned-3.ensures.again in
          let o5 = one_member _ _ w.print_member-in-Spawned-4.new.out o4 w.in_ok-print_member-in-Spawned-4.ensures.printed w.in_ok-print_member-in-Spawned-4.ensures.again in
          let o6 = one_member _ _ w.print_member-in-Spawned-5.new.out o5 w.in_ok-print_member-in-Spawned-5.ensures.printed w.in_ok-print_member-in-Spawned-5.ensures.again in
          let o7 = one_member _ _ w.print_member-in-Spawned-6.new.out o6 w.in_ok-print_member-in-Spawned-6.ensures.printed w.in_ok-print_member-in-Spawned-6.ensures.again in
          done c.match-self.out c.end_object.result c.args.out.now c.end_object.new.self _ c.args.self.now _ (sym w.in-Spawned.is) (sym w.out-is) o7 c.end_object.ensures refl refl
      | in-Merged+in_ok-print_member-in-Merged+in_ok-print_text-in-Merged+in_ok-print_member-in-Merged-2+in_ok-print_member-in-Merged-3+in_ok-print_member-in-Merged-4 w ↦
          let o1 = one_member _ _ w.print_member-in-Merged.new.out o0 w.in_ok-print_member-in-Merged.ensures.printed w.in_ok-print_member-in-Merged.ensures.again in
          let o2 = one_member _ _ w.print_text-in-Merged.new.out o1 w.in_ok-print_text-in-Merged.ensures refl in
          let o3 = one_member _ _ w.print_member-in-Merged-2.new.out o2 w.in_ok-print_member-in-Merged-2.ensures.printed w.in_ok-print_member-in-Merged-2.ensures.again in
          let o4 = one_member _ _ w.print_member-in-Merged-3.new.out o3 w.in_ok-print_member-in-Merged-3.ensures.printed w.in_ok-print_member-in-Merged-3.ensures.again in
          let o5 = one_member _ _ w.print_member-in-Merged-4.new.out o4 w.in_ok-print_member-in-Merged-4.ensures.printed w.in_ok-print_member-in-Merged-4.ensures.again in
          done c.match-self.out c.end_object.result c.args.out.now c.end_object.new.self _ c.args.self.now _ (sym w.in-Merged.is) (sym w.out-is) o5 c.end_object.ensures refl refl
    ]
