use Rattle.std.proofs.Common.{◌∙◌, ap, sym}
use Rattle.ticket_rows.proofs.Copies.{homes_put}
use Rattle.ticket_rows.proofs.Table.{empty_home}
use Rattle.ticket_rows.specs.HomeTable.{home_in, or_here}
use Rattle.ticket_rows.specs.Homes.{home_of}
use Rattle.ticket_items.specs.Ids.{mem}
use Rattle.ticket_items.specs.Resource.{resource_ids}
use Rattle.ticket_rows.specs.Copies.{with_copies}
use Rattle.ticket_rows.proofs.resolved.home_table.Goals as goal

pub returns : goal.returns
returns c x =
    let root = c.in-Some.root.now in
    let later = c.in-Some.later.now in
    let rw = c.args.rw.now in
    let ro = c.args.ro.now in
    let home = c.as_str-home.ensures.value in
    homes_put root later rw ro x (home_in c.new-homes.result x) (home_in c.add_pool.new.homes x) (home_in c.add_pool-2.new.homes x) (home_in c.add_pool-3.new.homes x) (home_in c.add_rows.new.homes x)
    (empty_home c.new-homes.result x c.new-homes.ensures.empty)
    (c.in_ok-add_pool.ensures x ∙ ap (λ h. or_here (mem x (resource_ids c.as_slice.result.now)) h (home_in c.new-homes.result x)) home ∙ ap (λ pool. or_here (mem x (resource_ids pool)) root.id (home_in c.new-homes.result x)) c.as_slice.ensures)
    (c.in_ok-add_pool-2.ensures x ∙ ap (λ h. or_here (mem x (resource_ids rw)) h (home_in c.add_pool.new.homes x)) home)
    (c.in_ok-add_pool-3.ensures x ∙ ap (λ h. or_here (mem x (resource_ids ro)) h (home_in c.add_pool-2.new.homes x)) home)
    (c.in_ok-add_rows.ensures x)
    ∙ ap (λ rows. home_of (with_copies rows rw ro) x) (sym c.in-Some.ensures.cases.0)
