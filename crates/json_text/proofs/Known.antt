-- The names and texts of a row, from those in front of its children and behind them.
use Rattle.std.proofs.Common.{◌≡◌, true}
use Rattle.std.proofs.lemmas.Bool.{and_from}
use Rattle.std.specs.List.{list_all}
use Rattle.ticket_items.specs.declared.node_row.NodeRow.{NodeRow}
use Rattle.json_items.specs.Resources.{resource_has_texts}
use Rattle.json_items.specs.TicketForm.{node_has_names, pools_have_names, row_has_names, row_has_texts}
use Rattle.json_text.specs.Nodes.{IsFrontValid, IsLastValid}

pub row_names : (r : NodeRow) → IsFrontValid r → IsLastValid r → row_has_names r ≡ true
unfolding node_has_names pools_have_names
row_names r front last =
    and_from _ _ (and_from _ _ (and_from _ _ (and_from _ _ (and_from _ _ front.id last.kind) last.job_part) last.status) front.attr_names) (and_from _ _ (and_from _ _ last.pool_names last.link_names) front.audit_names)

pub row_texts : (r : NodeRow) → IsFrontValid r → list_all resource_has_texts r.resources ≡ true → row_has_texts r ≡ true
unfolding row_has_texts
row_texts r front pool = and_from _ _ (and_from _ _ front.attr_texts pool) front.audit_texts
