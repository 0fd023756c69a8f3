use Rattle.std.proofs.Common.{◌≡◌, ◌∷◌, codes, refl, subst, true}
use Rattle.std.specs.List.{list_all}
use Rattle.json.specs.Token.{key}
use Rattle.serde_json.specs.Data.{array, string}
use Rattle.json_items.specs.Resources.{resource_has_names, resource_has_texts}
use Rattle.json_text.specs.Marked.{marked_pool}
use Rattle.json_text.specs.Written.{pool_data}
use Rattle.json_text.specs.Printed.{data_tokens, IsAppended, IsReadAgain}
use Rattle.json_text.proofs.MemberLaws.{on_ok, members_none, members_more}
use Rattle.json_text.proofs.nodes.print_last.Goals as goal

pub returns-clause-printed : goal.returns-clause-printed
returns-clause-printed c =
    let marks = c.args.marks.now in
    let mid = c.print_member-2.new.out in
    let same = c.as_slice.ensures in
    let pool = subst (λ rs. IsAppended (key (codes "ResourcePool") ∷ data_tokens (array (pool_data (marked_pool marks rs)))) mid c.print_pool.new.out) same c.in_ok-print_pool.ensures.printed in
    let again = subst (λ rs. IsReadAgain (array (pool_data (marked_pool marks rs)))) same c.in_ok-print_pool.ensures.again in
    let status = subst (λ t. IsAppended (key (codes "Status") ∷ data_tokens (string t)) c.print_pool.new.out c.print_text.new.out) c.shown_status.ensures.status c.in_ok-print_text.ensures in
    on_ok c.print_member-3.result c.print_member-3.ensures.printed (λ kind.
    members_more _ _ c.args.out.now c.in_ok-print_member.ensures.printed refl
    (members_more _ _ c.print_member.new.out c.in_ok-print_member-2.ensures.printed c.in_ok-print_member-2.ensures.again
    (members_more _ _ mid pool again
    (members_more _ _ c.print_pool.new.out status refl
    (members_more _ _ c.print_text.new.out kind refl (members_none c.print_member-3.new.out))))))

pub returns-clause-valid : goal.returns-clause-valid
returns-clause-valid c =
    on_ok c.print_member-3.result c.print_member-3.ensures.names (λ kind. record {
      job_part = c.in_ok-print_member.ensures.names;
      link_names = c.in_ok-print_member-2.ensures.names;
      pool_names = subst (λ rs. list_all resource_has_names rs ≡ true) c.as_slice.ensures c.in_ok-print_pool.ensures.names;
      pool_texts = subst (λ rs. list_all resource_has_texts rs ≡ true) c.as_slice.ensures c.in_ok-print_pool.ensures.texts;
      status = c.shown_status.ensures.valid;
      kind = kind;
    })
