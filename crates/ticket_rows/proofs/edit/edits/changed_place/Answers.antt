use Rattle.std.proofs.Common.{◌≡◌, Some, MatchResult, sym, subst}
use Rattle.ticket_rows.specs.ChangedRow.{changed_place}
use Rattle.ticket_rows.proofs.edit.edits.changed_place.Goals as goal

pub returns-in-SetResStatus-clause-place : goal.returns-in-SetResStatus-clause-place
returns-in-SetResStatus-clause-place c =
    subst (λ e. MatchResult c.known_home.result (λ place. changed_place e c.args.rows.now ≡ Some place) (λ _. Unit {0})) (sym c.in-SetResStatus.is) c.known_home.ensures.place

pub returns-in-SetResAttr-clause-place : goal.returns-in-SetResAttr-clause-place
returns-in-SetResAttr-clause-place c =
    subst (λ e. MatchResult c.known_home-in-SetResAttr.result (λ place. changed_place e c.args.rows.now ≡ Some place) (λ _. Unit {0})) (sym c.in-SetResAttr.is) c.known_home-in-SetResAttr.ensures.place

pub returns-in-AddNode-clause-place : goal.returns-in-AddNode-clause-place
returns-in-AddNode-clause-place c =
    subst (λ e. MatchResult c.open_to_child.result (λ place. changed_place e c.args.rows.now ≡ Some place) (λ _. Unit {0})) (sym c.in-AddNode.is) c.open_to_child.ensures.place
