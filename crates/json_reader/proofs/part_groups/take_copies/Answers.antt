use Rattle.std.proofs.Common.{◌≡◌, ◌∙◌, ◌<◌, List, [], ◌∷◌, ap, arith, drop, get_or, length, min, refl, rules, set, take}
use Rattle.std.proofs.lemmas.List.{drop_min, take_min}
use Rattle.ticket_items.specs.declared.node_row.NodeRow.{NodeRow}
use Rattle.ticket_items.specs.declared.resource.Resource.{Resource}
use Rattle.json_reader.specs.Groups.{split_rows, with_taken}
use Rattle.json_reader.specs.declared.part_groups.GroupSizes.{GroupSizes}
use Rattle.json_reader.proofs.part_groups.take_copies.Goals as goal

abbrev with_pool : NodeRow → List Resource → NodeRow
with_pool r pool = record r { resources = pool }

-- the first row of some, with another pool and then with its own resources alone
taken_first : (s : GroupSizes) (rows : List NodeRow) (first second : NodeRow) (none own changes reads : List Resource) → (rows ≡ [] → ⊥) → first ≡ get_or rows 0 first → second ≡ get_or (set rows 0 (with_pool first none)) 0 second
    → own ≡ take s.own first.resources → changes ≡ take s.rw (drop s.own first.resources) → reads ≡ drop s.rw (drop s.own first.resources) → with_taken (set (set rows 0 (with_pool first none)) 0 (with_pool second own)) changes reads ≡ split_rows s rows
taken_first s [] first second none own changes reads some is later o c r = absurd (some refl)
taken_first s (root ∷ rows) first second none own changes reads some is later o c r =
    ap (λ x. with_taken (with_pool x own ∷ rows) changes reads) (later ∙ ap (λ x. with_pool x none) is)
    ∙ ap (λ pool. with_taken (with_pool root pool ∷ rows) changes reads) (o ∙ ap (λ x. take s.own x.resources) is)
    ∙ ap (λ pool. with_taken (with_pool root (take s.own root.resources) ∷ rows) pool reads) (c ∙ ap (λ x. take s.rw (drop s.own x.resources)) is)
    ∙ ap (λ pool. with_taken (with_pool root (take s.own root.resources) ∷ rows) (take s.rw (drop s.own root.resources)) pool) (r ∙ ap (λ x. drop s.rw (drop s.own x.resources)) is)

pub returns-clause-ok : goal.returns-clause-ok
returns-clause-ok c =
    let s = c.args.sizes in
    let all = c.into_vec-own.result.items in
    let copies = c.in_ok-rw.rw.items in
    let pool = c.into_vec-own.ensures ∙ c.replace.ensures.value in
    let len : c.len.result ≡ length all = search rules in
    let len2 : c.len-2.result ≡ length copies = search rules in
    let some : 0 < length c.args.rows.now.items = search rules in
    let at = c.min-at.ensures ∙ ap (min s.own) len in
    let at2 = c.min-at-2.ensures ∙ ap (min s.rw) len2 in
    let behind = c.in_ok-rw.ensures.tail ∙ ap (λ n. drop n all) at ∙ drop_min s.own all ∙ ap (drop s.own) pool in
    taken_first s c.args.rows.now.items c.index_mut.result.now c.index_mut-2.result.now c.replace.new.dest c.new-2.result c.new-3.result c.new-4.result
    (λ none. omega (arith, some, ap length none))
    c.index_mut.ensures.value
    c.index_mut-2.ensures.value
    (c.new-2.ensures ∙ c.in_ok-rw.ensures.items ∙ ap (λ n. take n all) at ∙ take_min s.own all ∙ ap (take s.own) pool)
    (c.new-3.ensures ∙ c.in_ok-ro.ensures.items ∙ ap (λ n. take n copies) at2 ∙ take_min s.rw copies ∙ ap (take s.rw) behind)
    (c.new-4.ensures ∙ c.in_ok-ro.ensures.tail ∙ ap (λ n. drop n copies) at2 ∙ drop_min s.rw copies ∙ ap (drop s.rw) behind)
