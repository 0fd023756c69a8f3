use Rattle.std.proofs.Common.{◌≡◌, drop, false, Some, slice_get}
use Rattle.std.specs.List.{list_all}
use Rattle.std.specs.Option.{option_map_or}
use Rattle.ticket_rows.specs.Homes.{home_of}
use Rattle.ticket_rows.specs.Place.{Place, below, node_places}
use Rattle.ticket_rows.proofs.indexed_rows.IndexedRows.links_resolve.Given as goal

-- what is left decides
abbrev pub invariant-loop-link : goal.invariant-loop-link
invariant-loop-link l =
    (p : Place) → slice_get (node_places l.self) l.place ≡ Some p
    → list_all (λ k. option_map_or (λ h. below h p) (home_of l.self k.rref) false) (drop l.link-index l.links) ≡ list_all (λ k. option_map_or (λ h. below h p) (home_of l.self k.rref) false) l.links
