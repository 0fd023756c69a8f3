use Rattle.std.proofs.Common.{Some, map, refl, rules, true}
use Rattle.std.specs.List.{list_all}
use Rattle.json_items.specs.Attributes.{attrs_have_names, attrs_have_texts}
use Rattle.json_items.specs.Audits.{audit_has_names, audit_has_texts}
use Rattle.json_items.specs.Validation.{first_fault, on_both}
use Rattle.json_items.specs.Links.{link_has_names}
use Rattle.json_items.specs.Resources.{resource_has_names, resource_has_texts}
use Rattle.json_items.specs.TicketDraft.{resources_of}
use Rattle.json_items.specs.TicketForm.{row_has_names, row_has_texts}
use Rattle.json_reader.proofs.Findings.{FindsAs-failed, FindsAs-weaker, found_made, found_of}
use Rattle.json_reader.proofs.Rows.{attrs, audits, fault, first_fails, four, four_names, four_texts, links, not_only, own_fails, own_names, own_of, own_texts, pool_fails, row_of, row_read, same_fault, second_fails, raw_of}
use Rattle.json_reader.specs.Found.{IsRow}
use Rattle.json_reader.proofs.found_row.own_row.Goals as goal

pub returns-in_err-check_members : goal.returns-in_err-check_members
returns-in_err-check_members g c =
    FindsAs-weaker IsRow c.from_residual.result c.in_err-check_members.field-0.0 _ _ c.from_residual.ensures.1 (not_only (map (λ n. n.now) c.args.names.now) c.args.depth (g.S.Source.content c.args.value.now)) c.in_err-check_members.ensures.read

pub returns-in_err-texts : goal.returns-in_err-texts
returns-in_err-texts g c =
    let d = g.S.Source.content c.args.value.now in
    let e = c.in_err-texts.field-0.0 in
    FindsAs-failed IsRow c.from_residual-in_err-texts.result e _ c.from_residual-in_err-texts.ensures.1
    (own_fails (map (λ n. n.now) c.args.names.now) c.args.depth d e c.in_ok-check_members.ensures.read (first_fails e _ _ (first_fails e (four d) (attrs d) c.in_err-texts.ensures)))

pub returns-in_err-attrs : goal.returns-in_err-attrs
returns-in_err-attrs g c =
    let d = g.S.Source.content c.args.value.now in
    let e = c.in_err-attrs.field-0.0 in
    FindsAs-failed IsRow c.from_residual-in_err-attrs.result e _ c.from_residual-in_err-attrs.ensures.1
    (own_fails (map (λ n. n.now) c.args.names.now) c.args.depth d e c.in_ok-check_members.ensures.read (first_fails e _ _ (second_fails e (four d) (attrs d) c.in_err-attrs.ensures)))

pub returns-in_err-links : goal.returns-in_err-links
returns-in_err-links g c =
    let d = g.S.Source.content c.args.value.now in
    let e = c.in_err-links.field-0.0 in
    FindsAs-failed IsRow c.from_residual-in_err-links.result e _ c.from_residual-in_err-links.ensures.1
    (own_fails (map (λ n. n.now) c.args.names.now) c.args.depth d e c.in_ok-check_members.ensures.read (second_fails e _ _ (first_fails e (links d) (audits d) c.in_err-links.ensures)))

pub returns-in_err-audits : goal.returns-in_err-audits
returns-in_err-audits g c =
    let d = g.S.Source.content c.args.value.now in
    let e = c.in_err-audits.field-0.0 in
    FindsAs-failed IsRow c.from_residual-in_err-audits.result e _ c.from_residual-in_err-audits.ensures.1
    (own_fails (map (λ n. n.now) c.args.names.now) c.args.depth d e c.in_ok-check_members.ensures.read (second_fails e _ _ (second_fails e (links d) (audits d) c.in_err-audits.ensures)))

pub returns-in_err-resources : goal.returns-in_err-resources
returns-in_err-resources g c =
    let d = g.S.Source.content c.args.value.now in
    let e = c.in_err-resources.field-0.0 in
    FindsAs-failed IsRow c.from_residual-in_err-resources.result e _ c.from_residual-in_err-resources.ensures.1
    (pool_fails (map (λ n. n.now) c.args.names.now) c.args.depth d e c.in_ok-check_members.ensures.read c.in_err-resources.ensures)

pub returns : goal.returns
returns g c =
    let d = g.S.Source.content c.args.value.now in
    let pool = c.in_ok-resources.ensures in
    let texts = c.zip.ensures four_names four_texts (four d) attrs_have_names attrs_have_texts (attrs d) c.in_ok-texts.ensures c.in_ok-attrs.ensures in
    let lists = c.zip-2.ensures (list_all link_has_names) (list_all (λ _. true)) (links d) (list_all audit_has_names) (list_all audit_has_texts) (audits d) c.in_ok-links.ensures c.in_ok-audits.ensures in
    let own = found_of (first_fault own_names own_texts) c.zip-own.result (own_of d)
    (c.zip-own.ensures (on_both four_names attrs_have_names) (on_both four_texts attrs_have_texts) _ (on_both (list_all link_has_names) (list_all audit_has_names)) (on_both (list_all (λ _. true)) (list_all audit_has_texts)) _ texts lists) in
    let rs = resources_of pool.0 in (
      raw_of c.args.depth own.0 pool.0,
      row_read (map (λ n. n.now) c.args.names.now) c.args.depth d own.0 pool.0 c.in_ok-check_members.ensures.read own.1 pool.1,
      record {
        row = found_made fault (first_fault row_has_names row_has_texts) (row_of c.args.depth) _ c.zip-3.result c.map-row.result (own.0, rs) (same_fault c.args.depth) (λ v y k. search rules) c.map-row.ensures.cases
            (c.zip-3.ensures own_names own_texts (Some own.0) (list_all resource_has_names) (list_all resource_has_texts) (Some rs) own.2 pool.2.resources);
        pool = refl;
        shown = pool.2.shown;
      },
    )
