use Rattle.std.proofs.Common.{◌∙◌, string_bytes, subst, sym}
use Rattle.server_clients.specs.Waiting.{RefusesLate}
use Rattle.jdf_server.proofs.TurnsMade.{none_left}
use Rattle.jdf_server.proofs.LinesJoined.{stays_with, stays_without}
use Rattle.server_post.specs.declared.line.Line.{Line}
use Rattle.jdf_server.proofs.server.Server.wait_on.Goals as goal

pub returns-in_ok-insert : goal.returns-in_ok-insert
returns-in_ok-insert g c =
    let line : Line = record { to = c.args.line.to; errands = c.in_ok-errands.errands; orders = c.in_ok-orders.orders; own = c.args.line.own } in
    let refused = subst (λ bytes. RefusesLate bytes c.keep_last.new.self.clients.now c.args.line.errands.items c.in_ok-errands.errands.items c.keep_last.new.self.clients.all c.refuse_late.new.self.all) c.as_str-2.ensures.value c.in_ok-errands.ensures.clients in
    let then = subst (λ now. RefusesLate (string_bytes c.args.path) now c.args.line.errands.items c.in_ok-errands.errands.items c.keep_last.new.self.clients.all c.refuse_late.new.self.all) c.keep_last.ensures.rest.0 refused in
    let late = subst (λ clients. RefusesLate (string_bytes c.args.path) c.args.self.now.clients.now c.args.line.errands.items c.in_ok-errands.errands.items clients c.refuse_late.new.self.all) c.keep_last.ensures.clients then in
    let all = subst (λ clients. RefusesLate (string_bytes c.args.path) c.args.self.now.clients.now c.args.line.errands.items c.in_ok-errands.errands.items c.args.self.now.clients.all clients) (sym c.refuse_late_orders.ensures.clients) late in
    let lines = c.refuse_late_orders.ensures.rest.1 ∙ c.keep_last.ensures.rest.1 in
    (c.in_ok-errands.errands.items, c.in_ok-orders.orders.items, all, stays_with c.args.path line c.refuse_late_orders.new.self.lines c.args.self.now.lines c.insert.new.self lines c.in_ok-insert.ensures.updates)

pub returns-else-not-is_empty-3 : goal.returns-else-not-is_empty-3
returns-else-not-is_empty-3 g c =
    let refused = subst (λ bytes. RefusesLate bytes c.keep_last.new.self.clients.now c.args.line.errands.items c.in_ok-errands.errands.items c.keep_last.new.self.clients.all c.refuse_late.new.self.all) c.as_str-2.ensures.value c.in_ok-errands.ensures.clients in
    let then = subst (λ now. RefusesLate (string_bytes c.args.path) now c.args.line.errands.items c.in_ok-errands.errands.items c.keep_last.new.self.clients.all c.refuse_late.new.self.all) c.keep_last.ensures.rest.0 refused in
    let late = subst (λ clients. RefusesLate (string_bytes c.args.path) c.args.self.now.clients.now c.args.line.errands.items c.in_ok-errands.errands.items clients c.refuse_late.new.self.all) c.keep_last.ensures.clients then in
    let all = subst (λ clients. RefusesLate (string_bytes c.args.path) c.args.self.now.clients.now c.args.line.errands.items c.in_ok-errands.errands.items c.args.self.now.clients.all clients) (sym c.refuse_late_orders.ensures.clients) late in
    let lines = c.refuse_late_orders.ensures.rest.1 ∙ c.keep_last.ensures.rest.1 in
    let none = none_left c.in_ok-errands.errands c.is_empty.result c.is_empty.ensures c.if-not-is_empty.false in
    let unordered = none_left c.in_ok-orders.orders c.is_empty-else-not-is_empty.result c.is_empty-else-not-is_empty.ensures c.if-not-is_empty-2.false in
    let idle = none_left c.args.line.own c.is_empty-else-not-is_empty-2.result c.is_empty-else-not-is_empty-2.ensures c.if-not-is_empty-3.false in
    (c.in_ok-errands.errands.items, c.in_ok-orders.orders.items, all, stays_without (none, unordered, idle) lines)
