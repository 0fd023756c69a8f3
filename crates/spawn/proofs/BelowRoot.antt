-- The nodes that stand below another are those of rows with a depth above 1.
use Rattle.std.proofs.Common.{◌≡◌, ◌∙◌, ℕ, suc, Bool, true, false, cond, List, [], ◌∷◌, length}
use Rattle.std.proofs.Common.{Option, Some, None, is_some, nat_lt, refl, slice_get, sym, ap, arith}
use Rattle.std.proofs.lemmas.Bool.{lt-ltb}
use Rattle.std.specs.Option.{option_and_then, option_map_or}
use Rattle.std.specs.Str.{bytes_eq}
use Rattle.ticket_items.specs.declared.node_row.NodeRow.{NodeRow}
use Rattle.ticket_rows.proofs.Below.{Follows, Follows-outline, length-path_of}
use Rattle.ticket_rows.proofs.NodePlaces.{node_places-rows, nodes_from}
use Rattle.ticket_rows.specs.Place.{Place, node_place, node_places, parent, path_of, place_at, up}
use Rattle.ticket_rows.specs.Ticket.{IsValid, row_of}

-- whether a node stands below another
abbrev pub is_lower : NodeRow → Bool
is_lower r = nat_lt 1 r.depth

-- ---- by its place

has_second : (path : List (List ℕ)) → is_some (slice_get path 1) ≡ nat_lt 1 (length path)
has_second [] = refl
has_second (x ∷ []) = refl
has_second (x ∷ y ∷ path) = sym (lt-ltb 1 (suc (suc (length path))) (omega arith))

parent_by : (o : Option Place)
    → is_some (option_and_then parent o) ≡ option_map_or (λ q. nat_lt 1 (length q.path)) o false
parent_by None = refl
parent_by (Some q) = has_second q.path

depth_at : (b : Bool) (before : List (List ℕ)) (r : NodeRow) (p : Option Place)
    (o : Option NodeRow)
    → length (path_of before r) ≡ r.depth
    → option_map_or (λ q. nat_lt 1 (length q.path)) p false ≡ option_map_or is_lower o false
    → option_map_or (λ q. nat_lt 1 (length q.path)) (cond b (Some (node_place r (path_of before r))) p) false
    ≡ option_map_or is_lower (cond b (Some r) o) false
depth_at true before r p o long later = ap (nat_lt 1) long
depth_at false before r p o long later = later

depth_from : (before : List (List ℕ)) (rows : List NodeRow) (n : List ℕ) → Follows before rows
    → option_map_or (λ q. nat_lt 1 (length q.path)) (place_at (nodes_from before rows) n) false
    ≡ option_map_or is_lower (row_of rows n) false
depth_from before [] n follows = refl
depth_from before (r ∷ rows) n follows =
    depth_at (bytes_eq r.id n) before r (place_at (nodes_from (path_of before r) rows) n) (row_of rows n) (length-path_of before r follows.0 follows.1) (depth_from (path_of before r) rows n follows.2)

-- ---- together

pub has_parent_is : (rows : List NodeRow) (x : List ℕ) → IsValid rows
    → option_map_or is_lower (row_of rows x) false ≡ is_some (up (node_places rows) x)
has_parent_is rows x valid =
    sym (depth_from [] rows x (Follows-outline rows valid.tree))
    ∙ ap (λ nodes. option_map_or (λ q. nat_lt 1 (length q.path)) (place_at nodes x) false) (sym (node_places-rows rows))
    ∙ sym (parent_by (place_at (node_places rows) x))
