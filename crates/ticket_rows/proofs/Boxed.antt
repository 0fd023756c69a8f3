-- Rows in boxes: what becomes of them where a box changes, or comes in between.
use Rattle.std.proofs.Common.{◌≡◌, ◌<◌, ◌∷◌, ◌∙◌, ℕ, zero, suc, List, [], Box, length, map}
use Rattle.std.proofs.Common.{Err, Ok, OnErr, Result, slice_get}
use Rattle.std.proofs.Common.{Some, arith, ap, drop, get_or, insert, refl, set, sym, take, true}
use Rattle.std.proofs.lemmas.List.{drop-map, get_or-map, length-map, take-map}
use Rattle.std.proofs.lemmas.Option.{slice_get-get_or}
use Rattle.std.specs.List.{position}
use Rattle.ticket_items.proofs.Places.{below_length}
use Rattle.ticket_items.specs.Ids.{are_distinct}
use Rattle.ticket_items.specs.declared.node_row.NodeRow.{NodeRow}
use Rattle.ticket_items.specs.declared.resource.Resource.{Resource}
use Rattle.ticket_rows.proofs.AtHome.{holds}
use Rattle.ticket_rows.proofs.AtPlaces.{set_at}
use Rattle.ticket_rows.proofs.Changes.{change_pool_at, home_at_place, pool_apart, with_pool}
use Rattle.ticket_rows.specs.Boxed.{contents}
use Rattle.ticket_rows.specs.ChangedRow.{at_place}
use Rattle.ticket_rows.specs.Edit.{with_resource}
use Rattle.ticket_rows.specs.Ticket.{ids}

pub on_err : {X E A : Type 0} (result : Result X E) → A → OnErr result A
on_err (Ok x) h = tt
on_err (Err e) h = h

module _ {Z : Type 0} where
  pub count : (boxes : List (Box NodeRow Z)) → length (contents boxes) ≡ length boxes
  count boxes = length-map boxes (λ b. b.value)

  pub set_in : (boxes : List (Box NodeRow Z)) (k : ℕ) (b : Box NodeRow Z)
      → contents (set boxes k b) ≡ set (contents boxes) k b.value
  set_in [] k b = refl
  set_in (c ∷ boxes) zero b = refl
  set_in (c ∷ boxes) (suc k) b = ap (λ rows. c.value ∷ rows) (set_in boxes k b)

  pub at_in : (boxes : List (Box NodeRow Z)) (k : ℕ) (b : Box NodeRow Z)
      → k < length (contents boxes) → b ≡ get_or boxes k b
      → b.value ≡ get_or (contents boxes) k b.value
  at_in boxes k b within is =
      ap (λ (c : Box NodeRow Z). c.value) is ∙ sym (get_or-map (λ c. c.value) boxes k b b.value (omega (arith, within, count boxes)))

  pub insert_in : (boxes : List (Box NodeRow Z)) (i : ℕ) (b : Box NodeRow Z)
      → contents (insert boxes i b) ≡ insert (contents boxes) i b.value
  insert_in [] zero b = refl
  insert_in [] (suc i) b = refl
  insert_in (c ∷ boxes) zero b = refl
  insert_in (c ∷ boxes) (suc i) b = ap (λ rows. c.value ∷ rows) (insert_in boxes i b)

  pub run_in : (boxes : List (Box NodeRow Z)) (n m : ℕ)
      → contents (take n (drop m boxes)) ≡ take n (drop m (contents boxes))
  run_in boxes n m = sym (take-map (λ b. b.value) n (drop m boxes)) ∙ ap (take n) (sym (drop-map (λ b. b.value) m boxes))

  pub there_in : (boxes : List (Box NodeRow Z)) (k : ℕ) (b : Box NodeRow Z) (s : NodeRow)
      → k < length (contents boxes) → b ≡ get_or boxes k b → s ≡ b.value
      → slice_get (contents boxes) k ≡ Some s
  there_in boxes k b s within is same =
      slice_get-get_or (contents boxes) k b.value within ∙ ap Some (sym (at_in boxes k b within is) ∙ sym same)

  -- a box whose row is f of what stood there
  pub set_boxed : (f : NodeRow → NodeRow) (boxes : List (Box NodeRow Z)) (k : ℕ)
      (b new : Box NodeRow Z)
      → k < length (contents boxes) → b ≡ get_or boxes k b → new.value ≡ f b.value
      → contents (set boxes k new) ≡ at_place k f (contents boxes)
  set_boxed f boxes k b new within is made =
      set_in boxes k new ∙ ap (set (contents boxes) k) made ∙ set_at f (contents boxes) k b.value within (at_in boxes k b within is)

  -- a box whose row is what stood there
  pub stays_boxed : (boxes : List (Box NodeRow Z)) (k : ℕ) (b new : Box NodeRow Z)
      → b ≡ get_or boxes k b → new.value ≡ b.value → contents (set boxes k new) ≡ contents boxes
  stays_boxed [] k b new is same = refl
  stays_boxed (c ∷ boxes) zero b new is same = ap (λ r. r ∷ contents boxes) (same ∙ ap (λ (d : Box NodeRow Z). d.value) is)
  stays_boxed (c ∷ boxes) (suc k) b new is same = ap (λ rows. c.value ∷ rows) (stays_boxed boxes k b new is same)

  -- a box in whose row a resource changed
  pub pool_boxed : (x : List ℕ) (f : Resource → Resource) (boxes : List (Box NodeRow Z)) (k : ℕ)
      (b new : Box NodeRow Z)
      → are_distinct (ids (contents boxes)) ≡ true → position (holds x) (contents boxes) ≡ Some k
      → b ≡ get_or boxes k b → new.value ≡ with_pool x f b.value
      → contents (set boxes k new) ≡ with_resource x f (contents boxes)
  pool_boxed x f boxes k b new apart home is made =
      let rows = contents boxes in
      set_in boxes k new ∙ ap (set rows k) made
      ∙ change_pool_at x f rows rows k b.value refl apart home (at_in boxes k b (below_length (holds x) rows k home) is)

  -- the ids in the pool of a box's row
  pub apart_in : (x : List ℕ) (boxes : List (Box NodeRow Z)) (k : ℕ) (b : Box NodeRow Z)
      (s : NodeRow)
      → are_distinct (ids (contents boxes)) ≡ true → position (holds x) (contents boxes) ≡ Some k
      → b ≡ get_or boxes k b → s ≡ b.value → are_distinct (map (λ y. y.id) s.resources) ≡ true
  apart_in x boxes k b s apart home is same =
      let rows = contents boxes in
      ap (λ (r : NodeRow). are_distinct (map (λ y. y.id) r.resources)) same
      ∙ pool_apart rows k b.value apart (home_at_place x rows rows k b.value refl home (at_in boxes k b (below_length (holds x) rows k home) is))
