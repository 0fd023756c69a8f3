use Rattle.std.proofs.Common.{Some, map, refl}
use Rattle.json_items.specs.TicketForm.{row_has_names, row_has_texts}
use Rattle.json_reader.proofs.Rows.{rows_more}
use Rattle.json_reader.proofs.found_nodes.FoundNodes.push.Goals as goal

pub returns-clause-ok : goal.returns-clause-ok
returns-clause-ok c =
    λ before raw is row bare. rows_more before raw c.args.self.now _ c.args.bare is bare
    (c.in_ok-push_found.ensures row_has_names row_has_texts (Some (map (λ r. r.row) before)) (Some raw.row) is.rows row) refl
