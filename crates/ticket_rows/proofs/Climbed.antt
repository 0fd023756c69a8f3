-- Runs that are lengthened from a node up to the first, each node's after that of the one below it.
use Rattle.std.proofs.Common.{◌≡◌, ℕ, suc, ◌+◌, ◌<◌, ◌≤◌, List, length, set, Option, Some, None}
use Rattle.std.proofs.Common.{◌⊎◌, inl, inr, refl, sym, ap, ◌∙◌, arith, slice_get, subst}
use Rattle.std.specs.Option.{option_map}
use Rattle.ticket_rows.proofs.Labels.{Side, side}
use Rattle.ticket_rows.proofs.Parents.{Case, lengthened_case}
use Rattle.ticket_rows.proofs.Walked.{get_set, set-long}
use Rattle.ticket_rows.specs.Index.{longer_run}
use Rattle.ticket_rows.specs.Parents.{AreParents, EndBefore, IsAbove, Nest}

one : (a b : ℕ) → Some a ≡ Some b → a ≡ b
one a b e = cc

-- from a place on all are lengthened by one more below the row at p, and those in front not yet
pub record Climbed (p : ℕ) (old new : List ℕ) (place : ℕ) : Type 0 where
  pub done : (m : ℕ) → place ≤ m → slice_get new m ≡ option_map (longer_run p m) (slice_get old m)
  pub rest : (m : ℕ) → m < place → slice_get new m ≡ slice_get old m
  pub long : length new ≡ length old

has_it : (p i n : ℕ) → i ≤ p → p ≤ i + n → Case p i n → longer_run p i n ≡ n + 1
has_it p i n front reach (inl c) = omega (arith, c.2)
has_it p i n front reach (inr (inl c)) = let past : p < i = c.0 in absurd (omega arith)
has_it p i n front reach (inr (inr c)) = let short : i + n < p = c.0 in absurd (omega arith)

ends_early : (p i n : ℕ) → i + n < p → Case p i n → longer_run p i n ≡ n
ends_early p i n low (inl c) = let reach : p ≤ i + n = c.1 in absurd (omega arith)
ends_early p i n low (inr (inl c)) = c.1
ends_early p i n low (inr (inr c)) = c.1

starts_late : (p i n : ℕ) → p < i → Case p i n → longer_run p i n ≡ n
starts_late p i n high (inl c) = let front : i ≤ p = c.0 in absurd (omega arith)
starts_late p i n high (inr (inl c)) = c.1
starts_late p i n high (inr (inr c)) = c.1

-- what none of them has stays
kept : (p m : ℕ) (o : Option ℕ) → ((n : ℕ) → o ≡ Some n → longer_run p m n ≡ n)
    → o ≡ option_map (longer_run p m) o
kept p m None same = refl
kept p m (Some n) same = ap Some (sym (same n refl))

climbed_first : (p : ℕ) (old : List ℕ) (v : ℕ) → slice_get old p ≡ Some v
    → Climbed p old (set old p (v + 1)) p
climbed_first p old v at =
    record { done = λ m high. done m high (get_set old p m v (v + 1) at); rest = λ m low. rest m low (get_set old p m v (v + 1) at); long = set-long old p (v + 1) }
  where
    new : List ℕ
    new = set old p (v + 1)

    done : (m : ℕ) → p ≤ m
        → ((m ≡ p) × (slice_get new m ≡ Some (v + 1)))
        ⊎ ((m < p) × (slice_get new m ≡ slice_get old m))
        ⊎ ((p < m) × (slice_get new m ≡ slice_get old m))
        → slice_get new m ≡ option_map (longer_run p m) (slice_get old m)
    done m high (inl e) =
        e.1 ∙ ap Some (sym (has_it p p v (omega arith) (omega arith) (lengthened_case p p v)))
        ∙ sym (ap (λ i. option_map (longer_run p i) (slice_get old i)) e.0 ∙ ap (option_map (longer_run p p)) at)
    done m high (inr (inl e)) = let low : m < p = e.0 in absurd (omega arith)
    done m high (inr (inr e)) = e.1 ∙ kept p m (slice_get old m) (λ n is. starts_late p m n e.0 (lengthened_case p m n))

    rest : (m : ℕ) → m < p
        → ((m ≡ p) × (slice_get new m ≡ Some (v + 1)))
        ⊎ ((m < p) × (slice_get new m ≡ slice_get old m))
        ⊎ ((p < m) × (slice_get new m ≡ slice_get old m))
        → slice_get new m ≡ slice_get old m
    rest m low (inl e) = let same : m ≡ p = e.0 in absurd (omega arith)
    rest m low (inr (inl e)) = e.1
    rest m low (inr (inr e)) = e.1

climbed_more : (p : ℕ) (old new : List ℕ) (place above v : ℕ) → Climbed p old new place
    → place ≤ p → above < place → EndBefore old (above + 1) place → slice_get old above ≡ Some v
    → p ≤ above + v → Climbed p old (set new above (v + 1)) above
climbed_more p old new place above v c within front last at reach =
    record { done = λ m high. done m high (get_set new above m v (v + 1) there); rest = λ m low. rest m low (get_set new above m v (v + 1) there); long = set-long new above (v + 1) ∙ c.long }
  where
    there : slice_get new above ≡ Some v
    there = c.rest above front ∙ at

    next : List ℕ
    next = set new above (v + 1)

    between : (m : ℕ) → above < m → Side place m
        → slice_get new m ≡ option_map (longer_run p m) (slice_get old m)
    between m high (inl s) =
        c.rest m s ∙ kept p m (slice_get old m) (λ n is. let early : m + n < place = last m n (omega arith) s is in ends_early p m n (omega arith) (lengthened_case p m n))
    between m high (inr (inl s)) = c.done m (omega (arith, s))
    between m high (inr (inr s)) =
        let up : m ≡ suc s.0 = s.1 in
        let past : place ≤ s.0 = s.2 in
        c.done m (omega arith)

    done : (m : ℕ) → above ≤ m
        → ((m ≡ above) × (slice_get next m ≡ Some (v + 1)))
        ⊎ ((m < above) × (slice_get next m ≡ slice_get new m))
        ⊎ ((above < m) × (slice_get next m ≡ slice_get new m))
        → slice_get next m ≡ option_map (longer_run p m) (slice_get old m)
    done m high (inl e) =
        e.1 ∙ ap Some (sym (has_it p above v (omega arith) reach (lengthened_case p above v)))
        ∙ sym (ap (λ i. option_map (longer_run p i) (slice_get old i)) e.0 ∙ ap (option_map (longer_run p above)) at)
    done m high (inr (inl e)) = let low : m < above = e.0 in absurd (omega arith)
    done m high (inr (inr e)) = e.1 ∙ between m e.0 (side place m)

    rest : (m : ℕ) → m < above
        → ((m ≡ above) × (slice_get next m ≡ Some (v + 1)))
        ⊎ ((m < above) × (slice_get next m ≡ slice_get new m))
        ⊎ ((above < m) × (slice_get next m ≡ slice_get new m))
        → slice_get next m ≡ slice_get old m
    rest m low (inl e) = let same : m ≡ above = e.0 in absurd (omega arith)
    rest m low (inr (inl e)) = e.1 ∙ c.rest m (omega arith)
    rest m low (inr (inr e)) = let high : above < m = e.0 in absurd (omega arith)

-- ---- from one node to the one above it

-- the node at a place is one of those that have p, and the one above it is known
pub record Climb (p : ℕ) (old new places : List ℕ) (parent place above : ℕ) : Type 0 where
  pub climbed : Climbed p old new place
  pub within : place ≤ p
  pub run : ℕ
  pub has : slice_get old place ≡ Some run
  pub reach : p ≤ place + run
  pub stands : slice_get places parent ≡ Some above
  pub up : IsAbove old place above

-- the one above a node, by where that stands
told_above : (old places parents : List ℕ) (node parent place above : ℕ)
    → AreParents old places parents → slice_get parents node ≡ Some parent
    → slice_get places node ≡ Some place → slice_get places parent ≡ Some above
    → IsAbove old place above
told_above old places parents node parent place above a is at stands =
    let h = a.above node parent place is at in
    subst (IsAbove old place) (one h.0 above (sym h.1 ∙ stands)) h.2

pub climb_first : (old places parents : List ℕ) (node p parent above v : ℕ)
    → AreParents old places parents → slice_get places node ≡ Some p
    → slice_get parents node ≡ Some parent → slice_get places parent ≡ Some above
    → slice_get old p ≡ Some v → Climb p old (set old p (v + 1)) places parent p above
climb_first old places parents node p parent above v a at is stands there =
    record {
      climbed = climbed_first p old v there;
      within = omega arith;
      run = v;
      has = there;
      reach = omega arith;
      stands = stands;
      up = told_above old places parents node parent p above a is at stands;
    }

pub climb_more : (p : ℕ) (old new places parents : List ℕ) (parent place above v next upper : ℕ)
    → Nest old → AreParents old places parents → Climb p old new places parent place above
    → above < place → slice_get new above ≡ Some v → slice_get parents parent ≡ Some next
    → slice_get places next ≡ Some upper
    → Climb p old (set new above (v + 1)) places next above upper
climb_more p old new places parents parent place above v next upper h a c front there is stands =
    record {
      climbed = climbed_more p old new place above v c.climbed c.within front c.up.last at far;
      within = omega (arith, c.within);
      run = v;
      has = at;
      reach = far;
      stands = stands;
      up = told_above old places parents parent next above upper a is c.stands stands;
    }
  where
    at : slice_get old above ≡ Some v
    at = sym (c.climbed.rest above front) ∙ there

    -- the run of the one above ends no earlier
    far : p ≤ above + v
    far = omega (arith, c.reach, h.nested above place v c.run front (c.up.has v at) at c.has)

pub climb_end : (p : ℕ) (old new places : List ℕ) (parent place above : ℕ)
    → Climb p old new places parent place above → place ≤ above
    → (k : ℕ) → slice_get new k ≡ option_map (longer_run p k) (slice_get old k)
climb_end p old new places parent place above c high k = by (side place k)
  where
    front : above ≤ place
    front = c.up.front

    none : EndBefore old 0 place
    none = c.up.none (omega arith)

    by : Side place k → slice_get new k ≡ option_map (longer_run p k) (slice_get old k)
    by (inl s) =
        c.climbed.rest k s
        ∙ kept p k (slice_get old k) (λ n is. let early : k + n < place = none k n (omega arith) s is in ends_early p k n (omega (arith, c.within)) (lengthened_case p k n))
    by (inr (inl s)) = c.climbed.done k (omega (arith, s))
    by (inr (inr s)) =
        let up : k ≡ suc s.0 = s.1 in
        let past : place ≤ s.0 = s.2 in
        c.climbed.done k (omega arith)
