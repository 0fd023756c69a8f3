use Rattle.std.proofs.Common.{◌≡◌, ◌∙◌, List, ℕ, IfOk, Option, ap, ap₂, map, subst}
use Rattle.spawn.specs.Marking.{marks}
use Rattle.ticket_items.specs.declared.marks.Marks.{Marks}
use Rattle.ticket_items.specs.declared.node_row.NodeRow.{NodeRow}
use Rattle.ticket_items.specs.declared.res_mark.ResMark.{ResMark}
use Rattle.ticket_rows.specs.Ticket.{Job}
use Rattle.job_picture.specs.Marked.{mark_in, mark_of}
use Rattle.job_picture.specs.Picture.{held_line, ticket_lines}
use Rattle.job_picture.specs.Rows.{Line, line_of}
use Rattle.job_picture.proofs.master_picture.ticket_lines.Goals as goal

pub returns : goal.returns
unfolding ticket_lines
returns c =
    let m = c.args.master.now in
    let shown = (marks m.ticket.rows m.records).resources in
    let rows : c.rows.result ≡ m.ticket.rows = c.rows.ensures.rows ∙ ap (λ (t : Job). t.rows) c.ticket.ensures in
    let table : (x : List ℕ) → mark_in c.in_ok-marked.marked x ≡ mark_of shown x =
    λ x. c.in_ok-marked.ensures x ∙ ap (λ ms. mark_of ms x) (c.as_slice.ensures ∙ ap (λ (k : Marks). k.resources) c.in-Ok.ensures.ok) in
    let same : mark_in c.in_ok-marked.marked ≡ mark_of shown = λ i x. table x i in
    let lines : map (held_line m (mark_in c.in_ok-marked.marked)) c.rows.result ≡ map (held_line m (mark_of shown)) m.ticket.rows =
    ap₂ (λ (mark : List ℕ → Option ResMark) (rs : List NodeRow). map (held_line m mark) rs) same rows in
    subst (λ (ls : List Line). IfOk c.held_lines.result (λ made. map line_of made.items ≡ ls)) lines c.held_lines.ensures
