use Rattle.std.proofs.Common.{◌≡◌, false, drop, map}
use Rattle.std.specs.List.{list_all}
use Rattle.std.specs.Option.{option_map_or}
use Rattle.ticket_rows.specs.HomeTable.{home_in}
use Rattle.ticket_items.specs.Ids.{mem}
use Rattle.ticket_rows.proofs.resolved.links_resolve.Given as goal

-- what is left resolves exactly if all do
abbrev pub invariant-loop-link : goal.invariant-loop-link
invariant-loop-link l =
    list_all (λ k. option_map_or (λ home. mem home (map (λ s. s.now) l.path)) (home_in l.homes k.rref) false) (drop l.link-index l.links)
    ≡ list_all (λ k. option_map_or (λ home. mem home (map (λ s. s.now) l.path)) (home_in l.homes k.rref) false) l.links
