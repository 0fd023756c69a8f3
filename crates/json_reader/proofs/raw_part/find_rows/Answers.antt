use Rattle.std.proofs.Common.{◌≡◌, ◌∙◌, ◌∷◌, [], List, Some, ap, codes, map, refl, rules, sym}
use Rattle.json_items.specs.TicketDraft.{RawRow}
use Rattle.json_source.specs.Read.{text_under}
use Rattle.json_reader.proofs.Findings.{FindsAs-weaker}
use Rattle.json_reader.proofs.Parts.{alone, no_groups, none_below, not_bare, taken_read}
use Rattle.json_reader.specs.Found.{IsFound, IsTaken}
use Rattle.json_reader.specs.Groups.{group_sizes}
use Rattle.json_reader.proofs.raw_part.find_rows.Goals as goal

pub returns-in_err-sizes : goal.returns-in_err-sizes
returns-in_err-sizes g c =
    let d = g.S.Source.content c.args.value.now in
    let spawn = c.in_ok-spawn.spawn.now in
    let named : text_under (codes "SpawnID") d ≡ Some spawn = search rules in
    let root = c.in_ok-root.ensures in
    let same = c.as_slice.ensures ∙ root.2.shown in
    FindsAs-weaker IsTaken c.from_residual-in_err-sizes.result c.in_err-sizes.field-0.0 (group_sizes spawn c.as_slice.result.now) _ c.from_residual-in_err-sizes.ensures.1
    (λ none. no_groups d spawn root.0 named root.1 (ap (group_sizes spawn) (sym same) ∙ none)) c.in_err-sizes.ensures.read

pub returns-in_err-find_below : goal.returns-in_err-find_below
returns-in_err-find_below g c =
    let d = g.S.Source.content c.args.value.now in
    let spawn = c.in_ok-spawn.spawn.now in
    let named : text_under (codes "SpawnID") d ≡ Some spawn = search rules in
    let root = c.in_ok-root.ensures in
    FindsAs-weaker IsTaken c.from_residual-in_err-find_below.result c.in_err-find_below.field-0.0 _ _ c.from_residual-in_err-find_below.ensures.1 (none_below d spawn root.0 named root.1) c.in_err-find_below.ensures

pub returns-then-not-bare : goal.returns-then-not-bare
returns-then-not-bare g c =
    let d = g.S.Source.content c.args.value.now in
    let spawn = c.in_ok-spawn.spawn.now in
    let named : text_under (codes "SpawnID") d ≡ Some spawn = search rules in
    let root = c.in_ok-root.ensures in
    let nodes = c.in_ok-find_below.ensures in
    let all : IsFound (alone root.0 ∷ nodes.0) c.find_below.new.found = nodes.2 (alone root.0 ∷ []) (c.in_ok-push.ensures.ok [] (alone root.0) c.new-found.ensures root.2.row refl) in
    not_bare d spawn root.0 nodes.0 named root.1 nodes.1 (sym all.bare ∙ c.if-not-bare.true)

pub returns : goal.returns
returns g c =
    let d = g.S.Source.content c.args.value.now in
    let spawn = c.in_ok-spawn.spawn.now in
    let named : text_under (codes "SpawnID") d ≡ Some spawn = search rules in
    let root = c.in_ok-root.ensures in
    let nodes = c.in_ok-find_below.ensures in
    let all : IsFound (alone root.0 ∷ nodes.0) c.find_below.new.found = nodes.2 (alone root.0 ∷ []) (c.in_ok-push.ensures.ok [] (alone root.0) c.new-found.ensures root.2.row refl) in
    let same = c.as_slice.ensures ∙ root.2.shown in
    let raws : List RawRow = root.0 ∷ nodes.0 in (
      _,
      taken_read d spawn root.0 nodes.0 c.in_ok-sizes.sizes named root.1 root.2.pool (ap (group_sizes spawn) (sym same) ∙ c.in_ok-sizes.ensures.read) nodes.1 (sym all.bare ∙ c.if-not-bare.false),
      record { rows = map (λ r. r.row) raws; judged = all.rows; split = refl },
    )
