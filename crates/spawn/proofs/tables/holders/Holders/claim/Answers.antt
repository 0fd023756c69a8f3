use Rattle.std.proofs.Common.{◌≡◌, ◌∙◌, ◌&&◌, Some, true, false, not, ap, is_some, map, refl, sym}
use Rattle.std.proofs.lemmas.Bool.{true≢false}
use Rattle.std.specs.List.{list_any}
use Rattle.ticket_items.specs.Ids.{mem}
use Rattle.ticket_rows.specs.Place.{places}
use Rattle.spawn.proofs.ApartMore.{apart_more, hold_both}
use Rattle.spawn.proofs.ClaimedIds.{claims_listed, held_is_met, none_both, unmet_is_free}
use Rattle.spawn.proofs.Holdings.{given_as}
use Rattle.spawn.proofs.HoldingsKept.{none_keeps_table, spawn_keeps_table}
use Rattle.spawn.proofs.Tests.{any_mapped}
use Rattle.spawn.specs.Holdings.{claimed_ids, claims, holding_spawn}
use Rattle.spawn.specs.Records.{is_out}
use Rattle.spawn.proofs.tables.holders.Holders.claim.Goals as goal
use Rattle.spawn.proofs.tables.holders.Holders.claim.Goals.{After-has_any}

-- whether one of the ids of the claim is held
met : (c : After-has_any) → list_any (λ x. is_some (holding_spawn c.args.self.now x)) (claimed_ids c.args.ticket.now.rows c.args.spawn.now) ≡ c.has_any.result
met c =
    let listed = ap (map (λ s. s.now)) c.as_slice.ensures.value ∙ c.in_ok-claimed.ensures.claimed in
    ap (list_any (λ x. is_some (holding_spawn c.args.self.now x))) (sym listed) ∙ any_mapped (λ x. is_some (holding_spawn c.args.self.now x)) (λ s. s.now) c.as_slice.result.now ∙ sym c.has_any.ensures

pub returns-then-not-is_out-clause-apart : goal.returns-then-not-is_out-clause-apart
returns-then-not-is_out-clause-apart c recs table apart =
    let tree = places c.args.ticket.now.rows in
    let r = c.args.spawn.now in
    sym (apart_more tree recs r ∙ ap (λ b. b && not (hold_both tree recs r)) apart ∙ ap not (none_both tree recs r (sym c.is_out.ensures ∙ c.if-not-is_out.true)))

pub returns-then-not-is_out-clause-table : goal.returns-then-not-is_out-clause-table
returns-then-not-is_out-clause-table c recs table _ = none_keeps_table c.args.ticket.now.rows recs c.args.spawn.now c.args.self.now (sym c.is_out.ensures ∙ c.if-not-is_out.true) table

pub returns-then-has_any-clause-apart : goal.returns-then-has_any-clause-apart
returns-then-has_any-clause-apart c recs table apart =
    let rows = c.args.ticket.now.rows in
    let tree = places rows in
    let r = c.args.spawn.now in
    let out : is_out r ≡ true = sym c.is_out.ensures ∙ c.if-not-is_out.false in
    let both : hold_both tree recs r ≡ true = sym (held_is_met rows recs r c.args.self.now c.in_ok-claimed.ensures.valid out table) ∙ met (goal.at.returns-then-has_any-clause-apart c).After-has_any ∙ c.if-has_any.true in
    sym (apart_more tree recs r ∙ ap (λ b. b && not (hold_both tree recs r)) apart ∙ ap not both)

pub returns-then-has_any-clause-table : goal.returns-then-has_any-clause-table
returns-then-has_any-clause-table c recs table never = absurd (true≢false (sym never))

pub returns-clause-apart : goal.returns-clause-apart
returns-clause-apart c recs table apart =
    let rows = c.args.ticket.now.rows in
    let tree = places rows in
    let r = c.args.spawn.now in
    let out : is_out r ≡ true = sym c.is_out.ensures ∙ c.if-not-is_out.false in
    let both : hold_both tree recs r ≡ false = sym (held_is_met rows recs r c.args.self.now c.in_ok-claimed.ensures.valid out table) ∙ met (goal.at.returns-clause-apart c).After-has_any ∙ c.if-has_any.false in
    sym (apart_more tree recs r ∙ ap (λ b. b && not (hold_both tree recs r)) apart ∙ ap not both)

pub returns-clause-table : goal.returns-clause-table
returns-clause-table c recs table _ =
    let rows = c.args.ticket.now.rows in
    let r = c.args.spawn.now in
    let h = c.args.self.now in
    let out : is_out r ≡ true = sym c.is_out.ensures ∙ c.if-not-is_out.false in
    let listed = ap (map (λ s. s.now)) c.as_slice.ensures.value ∙ c.in_ok-claimed.ensures.claimed in
    let listed' = ap (map (λ s. s.now)) c.as_slice-2.ensures.value ∙ c.in_ok-claimed.ensures.claimed in
    let valid = c.in_ok-claimed.ensures.valid in
    spawn_keeps_table rows rows recs r h c.give_all.new.self refl out table (unmet_is_free rows r h valid (met (goal.at.returns-clause-table c).After-has_any ∙ c.if-has_any.false))
    (given_as (λ x. mem x (map (λ s. s.now) c.as_slice-2.result.now)) (claims rows r) (Some r.id) h c.give_all.new.self (λ x. ap (mem x) listed' ∙ claims_listed rows r x valid) c.in_ok-give_all.ensures.ok)
