use Rattle.std.proofs.Common.{◌∙◌, ◌||◌, ap, arith, sym, take}
use Rattle.std.proofs.lemmas.List.{take_all}
use Rattle.std.proofs.lemmas.List.Folds.{list_any_more}
use Rattle.std.specs.List.{list_any}
use Rattle.std.specs.Str.{bytes_eq}
use Rattle.ticket_items.specs.declared.node_row.NodeRow.{NodeRow}
use Rattle.ticket_tree.specs.Part.{is_linked}
use Rattle.spawn.proofs.claims.id_set.linked_by.Goals as goal

pub loop-place-preserved : goal.loop-place-preserved
loop-place-preserved c =
    let rows = c.args.rows.now in
    let i = c.loop-place.place in
    record {
      just = λ x.
          let links = λ (r : NodeRow). list_any (λ l. bytes_eq l.rref x) r.links in
          (c.in_ok-add_links.ensures (is_linked (take i rows)) c.loop-place.invariant).just x
          ∙ ap (λ r. is_linked (take i rows) x || links r) c.at-row.ensures
          ∙ sym (list_any_more links rows i c.at-row.result.now (omega (arith, c.loop-place-test.true, c.len-place-end.ensures)));
    }

pub returns : goal.returns
returns c =
    record {
      just = λ x. c.loop-place.invariant.just x
          ∙ ap (λ rs. is_linked rs x) (take_all c.loop-place.place c.args.rows.now (omega (arith, c.loop-place-test.false, c.len-place-end.ensures)));
    }
