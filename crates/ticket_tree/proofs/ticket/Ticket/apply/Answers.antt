use Rattle.std.proofs.Common.{◌≡◌, Err, IfNone, IfSome, IsOk, subst}
use Rattle.ticket_rows.specs.Edit.{refusal_of}
use Rattle.ticket_rows.specs.Ticket.{Job}
use Rattle.ticket_tree.proofs.ticket.Ticket.apply.Goals as goal

pub returns-clause-refused : goal.returns-clause-refused
returns-clause-refused c = subst (λ (t : Job). IfSome (refusal_of c.args.edit t.rows) (λ e. c.apply.result ≡ Err e)) c.self.view_is c.apply.ensures.refused

pub returns-clause-in_place : goal.returns-clause-in_place
returns-clause-in_place c still = subst (λ (t : Job). IfNone (refusal_of c.args.edit t.rows) (IsOk c.apply.result)) c.self.view_is (c.apply.ensures.in_place still)
