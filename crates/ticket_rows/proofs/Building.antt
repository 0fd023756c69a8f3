-- An index that is made row by row, and of each row id by id.
use Rattle.std.proofs.Common.{◌≡◌, ℕ, suc, ◌+◌, ◌<◌, ◌≤◌, Bool, true, false, cond, List, [], ◌∷◌, ◌++◌}
use Rattle.std.proofs.Common.{length, map, take, drop, get_or, Option, Some, None, is_some, refl, sym}
use Rattle.std.proofs.Common.{ap, ◌∙◌, arith, slice_get, subst, length-take-le}
use Rattle.std.proofs.lemmas.Bool.{true≢false}
use Rattle.std.proofs.lemmas.List.{append_assoc, append-nil, map_push, map-append}
use Rattle.std.proofs.lemmas.List.Concat.{flat_map-append}
use Rattle.std.proofs.lemmas.List.{take_more, take-append-drop, drop_more, length-map, take_all}
use Rattle.std.specs.Option.{option_map}
use Rattle.std.specs.Str.{bytes_eq}
use Rattle.ticket_items.proofs.Apart.{are_distinct-push, are_distinct-twice, front_distinct}
use Rattle.ticket_items.specs.Ids.{mem, are_distinct}
use Rattle.ticket_rows.proofs.Growth.{finds_node, finds_resource}
use Rattle.ticket_rows.proofs.InLists.{shifted_place-front}
use Rattle.ticket_rows.proofs.Shapes.{ids-shapes, shape}
use Rattle.ticket_rows.specs.Index.{Finds, Shape, Spots, Tells, ids_in, shape_of, shapes_of, shifted_place}
use Rattle.ticket_rows.specs.Index.{spot_under, with_more}
use Rattle.ticket_rows.specs.Ticket.{ids, ids_of}
use Rattle.ticket_rows.specs.declared.spot.Spot.TheVariants.{OfNode, InPool}
use Rattle.ticket_items.specs.declared.node_row.NodeRow.{NodeRow}
use Rattle.ticket_items.specs.declared.resource.Resource.{Resource}

-- what is read of a row so far
abbrev pub so_far : NodeRow → ℕ → Shape
so_far r i = record { id = r.id; depth = r.depth; pool = map (λ x. x.id) (take i r.resources) }

ids-push : (shapes : List Shape) (s : Shape)
    → ids_in (shapes ++ s ∷ []) ≡ ids_in shapes ++ s.id ∷ s.pool
ids-push shapes s =
    flat_map-append (λ (t : Shape). t.id ∷ t.pool) shapes (s ∷ []) ∙ ap (λ is. ids_in shapes ++ s.id ∷ is) (append-nil s.pool)

-- ---- a node more

stay : (shapes : List Shape) (spots : Spots) (places : List ℕ) → Finds shapes spots places
    → (n : ℕ) → slice_get places n ≡ option_map (shifted_place (length shapes)) (slice_get places n)
stay shapes spots places f n = by (slice_get places n) refl
  where
    by : (o : Option ℕ) → slice_get places n ≡ o → o ≡ option_map (shifted_place (length shapes)) o
    by None e = refl
    by (Some k) e = ap Some (sym (shifted_place-front (length shapes) k (f.within n k e)))

pub tells_node : (shapes : List Shape) (s : Shape) (spots next : Spots) (places : List ℕ) (node : ℕ)
    → Finds shapes spots places → are_distinct (ids_in shapes) ≡ true → node ≡ length shapes
    → s.pool ≡ [] → is_some (spot_under spots s.id) ≡ false
    → ((x : List ℕ) → spot_under next x
    ≡ cond (bytes_eq s.id x) (Some (OfNode node)) (spot_under spots x))
    → Tells (shapes ++ s ∷ []) true next (places ++ node ∷ [])
tells_node shapes s spots next places node f apart last bare free put =
    let whole : shapes ++ [] ≡ shapes = append-nil shapes in
    let out : mem s.id (ids_in shapes) ≡ false = sym (f.ids s.id) ∙ free in
    record {
      told = sym (ap are_distinct (ids-push shapes s ∙ ap (λ is. ids_in shapes ++ s.id ∷ is) bare) ∙ are_distinct-push (ids_in shapes) s.id apart out);
      found = λ same. subst (λ n. Finds (shapes ++ s ∷ []) next (places ++ n ∷ [])) (sym last)
          (finds_node shapes [] s spots next places places bare (ap (λ ts. mem s.id (ids_in ts)) whole ∙ out)
          (λ x. put x ∙ ap (λ n. cond (bytes_eq s.id x) (Some (OfNode n)) (spot_under spots x)) (last ∙ sym f.count))
          (stay shapes spots places f) refl (subst (λ ts. Finds ts spots places) (sym whole) f));
    }

pub twice_node : (shapes : List Shape) (s : Shape) (spots next : Spots) (places ends : List ℕ)
    → Finds shapes spots places → is_some (spot_under spots s.id) ≡ true
    → Tells (shapes ++ s ∷ []) false next ends
twice_node shapes s spots next places ends f there =
    record {
      told = sym (ap are_distinct (ids-push shapes s) ∙ are_distinct-twice (ids_in shapes) s.id s.pool (sym (f.ids s.id) ∙ there));
      found = λ same. absurd (true≢false (sym same));
    }

-- ---- an id more of its pool

pub tells_more : (shapes : List Shape) (s : Shape) (y : List ℕ) (spots next : Spots)
    (places : List ℕ) (node : ℕ)
    → Tells (shapes ++ s ∷ []) true spots places → slice_get places node ≡ Some (length shapes)
    → is_some (spot_under spots y) ≡ false
    → ((x : List ℕ) → spot_under next x
    ≡ cond (bytes_eq y x) (Some (InPool node (length s.pool))) (spot_under spots x))
    → Tells (shapes ++ with_more y s ∷ []) true next places
tells_more shapes s y spots next places node t at free put =
    let f = t.found refl in
    let out : mem y (ids_in (shapes ++ s ∷ [])) ≡ false = sym (f.ids y) ∙ free in
    let more : ids_in (shapes ++ with_more y s ∷ []) ≡ ids_in (shapes ++ s ∷ []) ++ y ∷ []
    = ids-push shapes (with_more y s) ∙ sym (append_assoc (ids_in shapes) (s.id ∷ s.pool) (y ∷ [])) ∙ ap (λ is. is ++ y ∷ []) (sym (ids-push shapes s)) in
    record {
      told = sym (ap are_distinct more ∙ are_distinct-push (ids_in (shapes ++ s ∷ [])) y (sym t.told) out);
      found = λ same. finds_resource shapes [] s y node spots next places at out put f;
    }

more_so_far : (r : NodeRow) (i : ℕ) (d : Resource) → i < length r.resources
    → d ≡ get_or r.resources i d → so_far r (i + 1) ≡ with_more d.id (so_far r i)
more_so_far r i d within is =
    let more : map (λ x. x.id) (take (i + 1) r.resources) ≡ map (λ x. x.id) (take i r.resources) ++ d.id ∷ []
    = ap (map (λ x. x.id)) (take_more r.resources i d within ∙ ap (λ y. take i r.resources ++ y ∷ []) (sym is)) ∙ map_push (λ x. x.id) (take i r.resources) d in
    ap (shape r.id r.depth) more

pub tells_next : (shapes : List Shape) (r : NodeRow) (i : ℕ) (d : Resource) (spots next : Spots)
    (places : List ℕ) (node : ℕ)
    → i < length r.resources → d ≡ get_or r.resources i d
    → Tells (shapes ++ so_far r i ∷ []) true spots places
    → slice_get places node ≡ Some (length shapes) → is_some (spot_under spots d.id) ≡ false
    → ((x : List ℕ) → spot_under next x
    ≡ cond (bytes_eq d.id x) (Some (InPool node i)) (spot_under spots x))
    → Tells (shapes ++ so_far r (i + 1) ∷ []) true next places
tells_next shapes r i d spots next places node within is t at free put =
    let long : length (map (λ x. x.id) (take i r.resources)) ≡ i = length-map (take i r.resources) (λ x. x.id) ∙ length-take-le i r.resources (omega arith) in
    subst (λ s. Tells (shapes ++ s ∷ []) true next places) (sym (more_so_far r i d within is))
    (tells_more shapes (so_far r i) d.id spots next places node t at free (λ x. put x ∙ ap (λ n. cond (bytes_eq d.id x) (Some (InPool node n)) (spot_under spots x)) (sym long)))

pub twice_next : (shapes : List Shape) (r : NodeRow) (i : ℕ) (d : Resource) (spots next : Spots)
    (places ends : List ℕ)
    → i < length r.resources → d ≡ get_or r.resources i d
    → Tells (shapes ++ so_far r i ∷ []) true spots places
    → is_some (spot_under spots d.id) ≡ true → Tells (shapes ++ shape_of r ∷ []) false next ends
twice_next shapes r i d spots next places ends within is t there =
    let f = t.found refl in
    let key = λ (x : Resource). x.id in
    let later : List (List ℕ) = map key (drop (i + 1) r.resources) in
    let parts : map key r.resources ≡ map key (take i r.resources) ++ d.id ∷ later
    = ap (map key) (sym (take-append-drop i r.resources) ∙ ap (λ xs. take i r.resources ++ xs) (drop_more r.resources i d within ∙ ap (λ y. y ∷ drop (i + 1) r.resources) (sym is)))
    ∙ map-append key (take i r.resources) (d ∷ drop (i + 1) r.resources) in
    let all : ids_in (shapes ++ shape_of r ∷ []) ≡ ids_in (shapes ++ so_far r i ∷ []) ++ d.id ∷ later
    = ids-push shapes (shape_of r) ∙ ap (λ is. ids_in shapes ++ r.id ∷ is) parts ∙ sym (append_assoc (ids_in shapes) (r.id ∷ map key (take i r.resources)) (d.id ∷ later)) ∙ ap (λ is. is ++ d.id ∷ later) (sym (ids-push shapes (so_far r i))) in
    record {
      told = sym (ap are_distinct all ∙ are_distinct-twice (ids_in (shapes ++ so_far r i ∷ [])) d.id later (sym (f.ids d.id) ∙ there));
      found = λ same. absurd (true≢false (sym same));
    }

-- ---- a row more

pub shapes_more : (rows : List NodeRow) (i : ℕ) (r : NodeRow) → i < length rows
    → r ≡ get_or rows i r
    → shapes_of (take (i + 1) rows) ≡ shapes_of (take i rows) ++ shape_of r ∷ []
shapes_more rows i r within is =
    ap shapes_of (take_more rows i r within ∙ ap (λ s. take i rows ++ s ∷ []) (sym is)) ∙ map_push shape_of (take i rows) r

-- where an id stands twice in some rows, it does in all
pub twice_in_all : (rows : List NodeRow) (i : ℕ)
    → are_distinct (ids_in (shapes_of (take i rows))) ≡ false → are_distinct (ids rows) ≡ false
twice_in_all rows i twice = by (are_distinct (ids rows)) refl
  where
    by : (b : Bool) → are_distinct (ids rows) ≡ b → b ≡ false
    by false e = refl
    by true e =
        let front = front_distinct (ids (take i rows)) (ids (drop i rows)) (ap are_distinct (sym (ap ids (sym (take-append-drop i rows)) ∙ flat_map-append ids_of (take i rows) (drop i rows))) ∙ e) in
        absurd (true≢false (sym front ∙ ap are_distinct (sym (ids-shapes (take i rows))) ∙ twice))

-- a row that is read whole
pub whole_row : (r : NodeRow) (i : ℕ) → length r.resources ≤ i → so_far r i ≡ shape_of r
whole_row r i all = ap (λ xs. shape r.id r.depth (map (λ x. x.id) xs)) (take_all i r.resources all)
