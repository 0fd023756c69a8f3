-- The rows with copies of resources at their root.
use Rattle.std.proofs.Common.{◌≡◌, ℕ, ◌||◌, Bool, true, false, cond, List, [], ◌∷◌, ◌++◌, Option}
use Rattle.std.proofs.Common.{Some, None, refl, sym, ap, ◌∙◌, take, length, get_or, ◌<◌, ◌+◌}
use Rattle.std.proofs.lemmas.List.{map-append, append-nil, take_more}
use Rattle.ticket_items.proofs.Apart.{mem-append}
use Rattle.ticket_rows.proofs.AtHome.{home_of-cons}
use Rattle.ticket_rows.proofs.Table.{home_of-push}
use Rattle.ticket_rows.specs.Homes.{home_of}
use Rattle.ticket_rows.specs.HomeTable.{or_here, or_known}
use Rattle.ticket_items.specs.Ids.{mem}
use Rattle.ticket_rows.specs.Outline.{is_outline}
use Rattle.ticket_items.specs.Resource.{resource_ids}
use Rattle.ticket_rows.specs.Copies.{with_copies}
use Rattle.ticket_rows.specs.Ticket.{ids, ids_of, depths, are_unreserved, are_shallow}
use Rattle.ticket_rows.proofs.LinkWalk.{are_resolved_from}
use Rattle.ticket_items.specs.declared.node_row.NodeRow.{NodeRow}
use Rattle.ticket_items.specs.declared.resource.Resource.{Resource}

-- ---- no copies

pub with_copies-none : (rows : List NodeRow) → with_copies rows [] [] ≡ rows
with_copies-none [] = refl
with_copies-none (r ∷ rows) = ap (λ pool. record r { resources = pool } ∷ rows) (append-nil (r.resources ++ []) ∙ append-nil r.resources)

-- ---- what copies leave as it is

pub outline-copies : (rows : List NodeRow) (rw ro : List Resource)
    → is_outline (depths (with_copies rows rw ro)) ≡ is_outline (depths rows)
outline-copies [] rw ro = refl
outline-copies (r ∷ rows) rw ro = refl

pub unreserved-copies : (rows : List NodeRow) (rw ro : List Resource)
    → are_unreserved (with_copies rows rw ro) ≡ are_unreserved rows
unreserved-copies [] rw ro = refl
unreserved-copies (r ∷ rows) rw ro = refl

pub shallow-copies : (rows : List NodeRow) (rw ro : List Resource)
    → are_shallow (with_copies rows rw ro) ≡ are_shallow rows
shallow-copies [] rw ro = refl
shallow-copies (r ∷ rows) rw ro = refl

-- links resolve in the rows with copies as they do in the rows themselves, where the homes are
-- those with copies
pub resolved-copies : (all rows : List NodeRow) (rw ro : List Resource)
    → are_resolved_from all [] (with_copies rows rw ro) ≡ are_resolved_from all [] rows
resolved-copies all [] rw ro = refl
resolved-copies all (r ∷ rows) rw ro = refl

-- ---- ids

-- the ids of the root, of the copies, and of what follows
pub ids-copies : (r : NodeRow) (rows : List NodeRow) (rw ro : List Resource)
    → ids (with_copies (r ∷ rows) rw ro)
    ≡ ((ids_of r ++ resource_ids rw) ++ resource_ids ro) ++ ids rows
ids-copies r rows rw ro =
    ap (λ is. (r.id ∷ is) ++ ids rows) (map-append (λ x. x.id) (r.resources ++ rw) ro ∙ ap (λ is. is ++ resource_ids ro) (map-append (λ x. x.id) r.resources rw))

-- ---- homes

or_known-here : (here : Bool) (home : List ℕ) (known later : Option (List ℕ))
    → or_known known (or_here here home later) ≡ or_here here home (or_known known later)
or_known-here here home None None = refl
or_known-here here home None (Some h) = refl
or_known-here here home (Some h) later = refl

pub known_none : (known : Option (List ℕ)) → known ≡ or_known known None
known_none None = refl
known_none (Some h) = refl

-- one row more behind those whose homes are known
pub known_more : (rows : List NodeRow) (i : ℕ) (d : NodeRow) (x : List ℕ)
    (first old new : Option (List ℕ))
    → i < length rows → old ≡ or_known first (home_of (take i rows) x)
    → new ≡ or_here (mem x (resource_ids (get_or rows i d).resources)) (get_or rows i d).id old
    → new ≡ or_known first (home_of (take (i + 1) rows) x)
known_more rows i d x first old new within before put =
    let r : NodeRow = get_or rows i d in
    put ∙ ap (or_here (mem x (resource_ids r.resources)) r.id) before ∙ sym (or_known-here (mem x (resource_ids r.resources)) r.id first (home_of (take i rows) x))
    ∙ ap (or_known first) (sym (ap (λ rs. home_of rs x) (take_more rows i d within) ∙ home_of-push x (take i rows) r))

root_home : (a b c : Bool) (home : List ℕ) (later : Option (List ℕ))
    → or_known (or_here c home (or_here b home (or_here a home None))) later
    ≡ cond ((a || b) || c) (Some home) later
root_home true b c home later = refl
root_home false true c home later = refl
root_home false false true home later = refl
root_home false false false home later = refl

-- an id stands in the root's pool with copies if it does in the pool or among the copies
pub mem-copies : (r : NodeRow) (rw ro : List Resource) (x : List ℕ)
    → mem x (resource_ids ((r.resources ++ rw) ++ ro)) ≡ ((mem x (resource_ids r.resources) || mem x (resource_ids rw)) || mem x (resource_ids ro))
mem-copies r rw ro x =
    ap (mem x) (map-append (λ y. y.id) (r.resources ++ rw) ro) ∙ mem-append x (resource_ids (r.resources ++ rw)) (resource_ids ro)
    ∙ ap (λ b. b || mem x (resource_ids ro)) (ap (mem x) (map-append (λ y. y.id) r.resources rw) ∙ mem-append x (resource_ids r.resources) (resource_ids rw))

-- the homes of the root's resources, of the copies, and of what follows
pub home-copies : (r : NodeRow) (rows : List NodeRow) (rw ro : List Resource) (x : List ℕ)
    → or_known
    (or_here (mem x (resource_ids ro)) r.id
    (or_here (mem x (resource_ids rw)) r.id (or_here (mem x (resource_ids r.resources)) r.id None)))
    (home_of rows x)
    ≡ home_of (with_copies (r ∷ rows) rw ro) x
home-copies r rows rw ro x =
    let all = mem-copies r rw ro x in
    root_home (mem x (resource_ids r.resources)) (mem x (resource_ids rw)) (mem x (resource_ids ro)) r.id (home_of rows x)
    ∙ ap (λ b. cond b (Some r.id) (home_of rows x)) (sym all)
    ∙ sym (home_of-cons x (record r { resources = (r.resources ++ rw) ++ ro }) rows)

-- a table that was empty, and got the root's resources, the copies, and what follows
pub homes_put : (r : NodeRow) (rows : List NodeRow) (rw ro : List Resource) (x : List ℕ)
    (first own changed read all : Option (List ℕ))
    → first ≡ None → own ≡ or_here (mem x (resource_ids r.resources)) r.id first
    → changed ≡ or_here (mem x (resource_ids rw)) r.id own
    → read ≡ or_here (mem x (resource_ids ro)) r.id changed → all ≡ or_known read (home_of rows x)
    → all ≡ home_of (with_copies (r ∷ rows) rw ro) x
homes_put r rows rw ro x first own changed read all none e f g h =
    let here = or_here (mem x (resource_ids r.resources)) r.id in
    let change = or_here (mem x (resource_ids rw)) r.id in
    h ∙ ap (λ o. or_known o (home_of rows x)) (g ∙ ap (or_here (mem x (resource_ids ro)) r.id) (f ∙ ap change (e ∙ ap here none))) ∙ home-copies r rows rw ro x
