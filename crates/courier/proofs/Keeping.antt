-- What a table keeps as one of its destinations is changed, and as a turn comes or goes.
use Rattle.std.proofs.Common.{◌≡◌, ⊎_elim, Option, Some, None, option_map, get_or, slice_get, ◌==◌, ◌&&◌, not, min, nat_lt, ℕ, zero, suc, ◌+◌, ◌<◌, ◌≤◌, Bool, true, false, List, [], ◌∷◌, ◌++◌, count_by, slice_set, length, length-append, length-set, refl, subst, sym, ap, ap₂, ◌∙◌, arith, rules, tests}
use Rattle.std.proofs.lemmas.Bool.{cases_eq, and_from, and_parts, and_right, eqb-true, eq-eqb, false_from_ne_true, ltb-false, ltb-true, ne_eqb}
use Rattle.std.proofs.lemmas.Grind.{common_steps, elements}
use Rattle.std.proofs.lemmas.List.Sums.{count_by-le-length, sum_by-set, sum_by_push}
use Rattle.courier.specs.Destination.{Destination, IsPaced, after_hearing, new_at, waits, with_item}
use Rattle.courier.specs.Table.{AreTried, IsConsistent, IsNext, IsQuiet, IsWake, destination_at, flies_at, has_turn, turn_at, waits_at}
use Rattle.courier.specs.Turns.{IsBefore, IsFirstOfAll, IsMoved, IsTaken, Joins, Leaves, NoneIsDue, Turns, is_turn, one_if, times}
use Rattle.courier.specs.declared.turn.Turn.{Turn}

-- ---- one of them

pub waits-within : (ds : List Destination) (line : ℕ) → waits_at ds line ≡ true → line < length ds
waits-within [] line waiting = absurd (search (rules, tests))
waits-within (d ∷ ds) zero waiting = omega arith
waits-within (d ∷ ds) (suc line) waiting = let more = waits-within ds line waiting in omega arith

pub flies-within : (ds : List Destination) (line : ℕ) → flies_at ds line ≡ true → line < length ds
flies-within [] line flies = absurd (search (rules, tests))
flies-within (d ∷ ds) zero flies = omega arith
flies-within (d ∷ ds) (suc line) flies = let more = flies-within ds line flies in omega arith

pub idle-flying : (ds : List Destination) (line : ℕ) → flies_at ds line ≡ true → waits_at ds line ≡ false
idle-flying ds line flies = ap (λ f. not f && not (length (destination_at ds line).items == 0)) flies

count-below : (ds : List Destination) (line : ℕ) → line < length ds → waits_at ds line ≡ false → count_by waits ds < length ds
count-below [] line within idle = absurd (omega arith)
count-below (d ∷ ds) zero within idle = let most = count_by-le-length waits ds in grind (arith, common_steps)
count-below (d ∷ ds) (suc line) within idle =
    let more = count-below ds line (omega arith) idle in
    grind (arith, common_steps)

pub at-changed : (ds : List Destination) (line : ℕ) (new : Destination) → line < length ds → destination_at (slice_set ds line new) line ≡ new
at-changed ds line new within = grind (arith, common_steps)

pub at-other : (ds : List Destination) (line k : ℕ) (new : Destination) → (k ≡ line → ⊥) → destination_at (slice_set ds line new) k ≡ destination_at ds k
at-other ds line k new other = grind (arith, common_steps)

-- what is read at a number stands there
pub at-read : (ds : List Destination) (line : ℕ) (d : Destination) → line < length ds → d ≡ get_or ds line d → d ≡ destination_at ds line
at-read [] line d within read = absurd (omega arith)
at-read (x ∷ ds) zero d within read = read
at-read (x ∷ ds) (suc line) d within read = at-read ds line d (omega arith) read

-- ---- turns that are there

true_if_one : (b : Bool) → 0 < one_if b → b ≡ true
true_if_one true one = refl
true_if_one false one = absurd (omega arith)

pub turn-there : (ds : List Destination) (schedule : Turns) (turn : Turn) → IsConsistent ds schedule → 0 < times turn schedule.turns → (waits_at ds turn.line ≡ true) × ((destination_at ds turn.line).due ≡ turn.due) × (turn.line < length ds)
turn-there ds schedule turn kept there =
    let has = true_if_one (has_turn ds turn) (omega (arith, kept.scheduled turn)) in
    let parts = and_parts (waits_at ds turn.line) ((destination_at ds turn.line).due == turn.due) has in
    (parts.0, eqb-true _ _ parts.1, waits-within ds turn.line parts.0)

pub waits-there : (ds : List Destination) (schedule : Turns) (line : ℕ) → IsConsistent ds schedule → waits_at ds line ≡ true → 0 < times (turn_at ds line) schedule.turns
waits-there ds schedule line kept waiting =
    let has = and_from (waits_at ds line) ((destination_at ds line).due == (destination_at ds line).due) waiting (eq-eqb (destination_at ds line).due _ refl) in
    omega (arith, kept.scheduled (turn_at ds line), ap one_if has)

pub has-room : (ds : List Destination) (schedule : Turns) (line : ℕ) → IsConsistent ds schedule → line < length ds → waits_at ds line ≡ false → length schedule.turns < schedule.room
has-room ds schedule line kept within idle =
    let fewer = count-below ds line within idle in
    let many = kept.many in
    let room = kept.room in
    omega arith

-- ---- changes

-- the turn is that of this destination at this number
abbrev is_its : Destination → ℕ → Turn → Bool
is_its d line turn = waits d && is_turn turn (record { due = d.due; line = line })

its-here : (d : Destination) (line : ℕ) (turn : Turn) → turn.line ≡ line → is_its d line turn ≡ (waits d && d.due == turn.due)
its-here d line turn here = ap (λ b. waits d && (b && d.due == turn.due)) (eq-eqb line turn.line (sym here))

its-elsewhere : (d : Destination) (line : ℕ) (turn : Turn) → (turn.line ≡ line → ⊥) → is_its d line turn ≡ false
its-elsewhere d line turn other = and_right (waits d) _ (ap (λ b. b && d.due == turn.due) (ne_eqb line turn.line (λ here. other (sym here))))

has_turn-here : (ds : List Destination) (line : ℕ) (turn : Turn) → turn.line ≡ line → has_turn ds turn ≡ is_its (destination_at ds line) line turn
has_turn-here ds line turn here = ap (λ k. waits_at ds k && (destination_at ds k).due == turn.due) here ∙ sym (its-here (destination_at ds line) line turn here)

has_turn-changed : (ds : List Destination) (line : ℕ) (new : Destination) (turn : Turn) → line < length ds → turn.line ≡ line → has_turn (slice_set ds line new) turn ≡ is_its new line turn
has_turn-changed ds line new turn within here = has_turn-here (slice_set ds line new) line turn here ∙ ap (λ d. is_its d line turn) (at-changed ds line new within)

has_turn-other : (ds : List Destination) (line : ℕ) (new : Destination) (turn : Turn) → (turn.line ≡ line → ⊥) → has_turn (slice_set ds line new) turn ≡ has_turn ds turn
has_turn-other ds line new turn other = ap (λ d. waits d && d.due == turn.due) (at-other ds line turn.line new other)

IsConsistent-changed : (ds : List Destination) (line : ℕ) (new : Destination) (old after : Turns) → line < length ds → IsPaced new → IsConsistent ds old → ((turn : Turn) → times turn after.turns + one_if (is_its (destination_at ds line) line turn) ≡ times turn old.turns + one_if (is_its new line turn)) → length after.turns + one_if (waits_at ds line) ≡ length old.turns + one_if (waits new) → old.room ≤ after.room → IsConsistent (slice_set ds line new) after
IsConsistent-changed ds line new old after within paced kept counted many room =
    record {
      paced = grind (arith, elements, kept.paced);
      scheduled = λ turn.
          ⊎_elim
          (λ here. omega (arith, counted turn, kept.scheduled turn, ap one_if (has_turn-here ds line turn here), ap one_if (has_turn-changed ds line new turn within here)))
          (λ other. omega (arith, counted turn, kept.scheduled turn, ap one_if (has_turn-other ds line new turn other), ap one_if (its-elsewhere (destination_at ds line) line turn other), ap one_if (its-elsewhere new line turn other)))
          (cases_eq turn.line line);
      many = omega (arith, kept.many, sum_by-set (λ d. one_if (waits d)) ds line new (new_at 0) within);
      room = let same = length-set {A = Destination} ds line new in omega (arith, kept.room);
    }

pub IsConsistent-joined : (ds : List Destination) (line : ℕ) (new : Destination) (on : Bool) (turn : Turn) (old after : Turns) → line < length ds → IsPaced new → IsConsistent ds old → waits_at ds line ≡ false → on ≡ waits new → turn ≡ record { due = new.due; line = line } → Joins on turn old after → IsConsistent (slice_set ds line new) after
IsConsistent-joined ds line new on turn old after within paced kept idle waiting its joins =
    let none = ap one_if idle in
    let some = ap one_if waiting in
    IsConsistent-changed ds line new old after within paced kept
    (λ q. omega (arith, joins.counted q, ap₂ (λ b t. one_if (b && is_turn q t)) waiting its, ap (λ b. one_if (b && is_turn q (turn_at ds line))) idle))
    (omega (arith, joins.more)) joins.kept

pub IsConsistent-stayed : (ds : List Destination) (line : ℕ) (new : Destination) (turn : Turn) (old after : Turns) → line < length ds → IsPaced new → IsConsistent ds old → waits new ≡ waits_at ds line → new.due ≡ (destination_at ds line).due → Joins false turn old after → IsConsistent (slice_set ds line new) after
IsConsistent-stayed ds line new turn old after within paced kept same due joins =
    let alike = ap one_if same in
    IsConsistent-changed ds line new old after within paced kept
    (λ q. omega (arith, joins.counted q, ap₂ (λ w k. one_if (w && is_turn q (record { due = k; line = line }))) same due))
    (omega (arith, joins.more)) joins.kept

pub IsConsistent-left : (ds : List Destination) (line : ℕ) (new : Destination) (turn : Turn) (old after : Turns) → line < length ds → IsPaced new → IsConsistent ds old → waits new ≡ false → waits_at ds line ≡ true → turn ≡ turn_at ds line → Leaves turn old after → IsConsistent (slice_set ds line new) after
IsConsistent-left ds line new turn old after within paced kept idle waiting its leaves =
    let none = ap one_if idle in
    let one = ap one_if waiting in
    IsConsistent-changed ds line new old after within paced kept
    (λ q. omega (arith, leaves.counted q, ap (λ t. one_if (is_turn q t)) its, ap (λ b. one_if (b && is_turn q (turn_at ds line))) waiting, ap (λ b. one_if (b && is_turn q (record { due = new.due; line = line }))) idle))
    (omega (arith, leaves.less)) leaves.kept

-- ---- one that is heard from

pub turn-once : (ds : List Destination) (schedule : Turns) (line : ℕ) → IsConsistent ds schedule → waits_at ds line ≡ true → times (turn_at ds line) schedule.turns ≡ 1
turn-once ds schedule line kept waiting =
    let has = and_from (waits_at ds line) ((destination_at ds line).due == (destination_at ds line).due) waiting (eq-eqb (destination_at ds line).due _ refl) in
    kept.scheduled (turn_at ds line) ∙ ap one_if has

after_hearing-its : (now : ℕ) (d : Destination) (line : ℕ) (turn : Turn) → (waits d && nat_lt now d.due) ≡ false → is_its (after_hearing now d) line turn ≡ is_its d line turn
after_hearing-its now d line turn idle = by (waits d) idle
  where
    by : (b : Bool) → (b && nat_lt now d.due) ≡ false → (b && is_turn turn (record { due = min d.due now; line = line })) ≡ (b && is_turn turn (record { due = d.due; line = line }))
    by true idle =
        let low = ltb-false now d.due idle in
        let same : min d.due now ≡ d.due = omega arith in
        ap (λ due. is_turn turn (record { due = due; line = line })) same
    by false idle = refl

pub IsConsistent-idle : (ds : List Destination) (line now : ℕ) (schedule : Turns) → line < length ds → IsPaced (after_hearing now (destination_at ds line)) → IsConsistent ds schedule → (waits_at ds line && nat_lt now (destination_at ds line).due) ≡ false → IsConsistent (slice_set ds line (after_hearing now (destination_at ds line))) schedule
IsConsistent-idle ds line now schedule within paced kept idle =
    let d = destination_at ds line in
    IsConsistent-changed ds line (after_hearing now d) schedule schedule within paced kept
    (λ q. omega (arith, ap one_if (after_hearing-its now d line q idle)))
    (omega arith) (omega arith)

pub IsConsistent-moved : (ds : List Destination) (line now : ℕ) (old after : Turns) → line < length ds → IsPaced (after_hearing now (destination_at ds line)) → IsConsistent ds old → (waits_at ds line && nat_lt now (destination_at ds line).due) ≡ true → IsMoved (turn_at ds line) now old after → IsConsistent (slice_set ds line (after_hearing now (destination_at ds line))) after
IsConsistent-moved ds line now old after within paced kept ends moved =
    let d = destination_at ds line in
    let parts = and_parts (waits d) (nat_lt now d.due) ends in
    let high = ltb-true now d.due parts.1 in
    let due : min d.due now ≡ now = omega arith in
    IsConsistent-changed ds line (after_hearing now d) old after within paced kept
    (λ q. omega (arith, moved.counted q, ap₂ (λ w k. one_if (w && is_turn q (record { due = k; line = line }))) parts.0 due, ap (λ w. one_if (w && is_turn q (turn_at ds line))) parts.0))
    (omega (arith, moved.many)) moved.kept

-- ---- an item more, and a destination more

pub has-some : (items : List ℕ) (item : ℕ) → (length (items ++ item ∷ []) == 0) ≡ false
has-some items item = ne_eqb _ 0 (λ none. omega (arith, length-append items (item ∷ [])))

flies-not : (d : Destination) → IsPaced d → length d.items ≡ 0 → d.flying ≡ false
flies-not d paced none = false_from_ne_true d.flying (λ flying. omega (arith, paced.some flying))

pub idle-empty : (d : Destination) → (length d.items == 0) ≡ true → waits d ≡ false
idle-empty d none = and_right (not d.flying) _ (ap not none)

pub IsConsistent-put : (ds : List Destination) (line item : ℕ) (on : Bool) (turn : Turn) (old after : Turns) → line < length ds → IsPaced (with_item item (destination_at ds line)) → IsConsistent ds old → on ≡ (length (destination_at ds line).items == 0) → turn ≡ turn_at ds line → Joins on turn old after → IsConsistent (slice_set ds line (with_item item (destination_at ds line))) after
IsConsistent-put ds line item true turn old after within paced kept empty its joins =
    let d = destination_at ds line in
    let still = flies-not d (kept.paced line (new_at 0) within) (eqb-true _ _ (sym empty)) in
    let waiting = ap₂ (λ f b. not f && not b) still (has-some d.items item) in
    IsConsistent-joined ds line (with_item item d) true turn old after within paced kept (idle-empty d (sym empty)) (sym waiting) its joins
IsConsistent-put ds line item false turn old after within paced kept some its joins =
    let d = destination_at ds line in
    let same = ap (λ b. not d.flying && not b) (has-some d.items item ∙ some) in
    IsConsistent-stayed ds line (with_item item d) turn old after within paced kept same refl joins

has_turn-added : (ds : List Destination) (now k due : ℕ) → (waits_at (ds ++ new_at now ∷ []) k && (destination_at (ds ++ new_at now ∷ []) k).due == due) ≡ (waits_at ds k && (destination_at ds k).due == due)
has_turn-added [] now zero due = refl
has_turn-added [] now (suc k) due = refl
has_turn-added (d ∷ ds) now zero due = refl
has_turn-added (d ∷ ds) now (suc k) due = has_turn-added ds now k due

pub IsConsistent-added : (ds : List Destination) (now : ℕ) (old after : Turns) → IsPaced (new_at now) → IsConsistent ds old → after.turns ≡ old.turns → length ds + 1 ≤ after.room → IsConsistent (ds ++ new_at now ∷ []) after
IsConsistent-added ds now old after paced kept same room =
    record {
      paced = grind (arith, elements, kept.paced);
      scheduled = λ turn. ap (times turn) same ∙ kept.scheduled turn ∙ sym (ap one_if (has_turn-added ds now turn.line turn.due));
      many = omega (arith, ap length same, kept.many, sum_by_push (λ d. one_if (waits d)) ds (new_at now));
      room = omega (arith, length-append ds (new_at now ∷ []));
    }

-- ---- the next

pub IsQuiet-none : (now : ℕ) (ds : List Destination) (old after : Turns) → IsConsistent ds old → NoneIsDue now old after → IsQuiet now ds
IsQuiet-none now ds old after kept none = λ line waiting. none.later (turn_at ds line) (waits-there ds old line kept waiting)

pub AreTried-quiet : (now : ℕ) (ds : List Destination) (schedule : Turns) → IsConsistent ds schedule → IsQuiet now ds → AreTried now ds
AreTried-quiet now ds schedule kept quiet = λ line waiting.
    let within = waits-within ds line waiting in
    omega (arith, quiet line waiting, (kept.paced line (new_at 0) within).soon)

turn-its : (ds : List Destination) (schedule : Turns) (turn : Turn) → IsConsistent ds schedule → 0 < times turn schedule.turns → turn ≡ turn_at ds turn.line
turn-its ds schedule turn kept there = ap (λ due. record { due = due; line = turn.line }) (sym (turn-there ds schedule turn kept there).1)

pub IsConsistent-taken : (now : ℕ) (ds : List Destination) (turn : Turn) (new : Destination) (old after : Turns) → IsPaced new → waits new ≡ false → IsConsistent ds old → IsTaken now turn old after → IsConsistent (slice_set ds turn.line new) after
IsConsistent-taken now ds turn new old after paced idle kept taken =
    let there = turn-there ds old turn kept taken.there in
    IsConsistent-left ds turn.line new turn old after there.2 paced kept idle there.0 (turn-its ds old turn kept taken.there) taken.leaves

pub IsNext-taken : (now : ℕ) (ds : List Destination) (turn : Turn) (item : ℕ) (old after : Turns) → IsConsistent ds old → IsTaken now turn old after → slice_get (destination_at ds turn.line).items 0 ≡ Some item → IsNext now ds (record { line = turn.line; item = item })
IsNext-taken now ds turn item old after kept taken first =
    let there = turn-there ds old turn kept taken.there in
    let its = turn-its ds old turn kept taken.there in
    record {
      within = there.2;
      waits = there.0;
      item = first;
      come = omega (arith, taken.come, there.1);
      first = λ line waiting. subst (λ t. IsBefore t (turn_at ds line)) its (taken.first (turn_at ds line) (waits-there ds old line kept waiting));
    }

pub IsWake-first : (ds : List Destination) (schedule : Turns) (first : Option Turn) → IsConsistent ds schedule → IsFirstOfAll schedule.turns first → IsWake ds (option_map (λ t. t.due) first)
IsWake-first ds schedule None kept none = λ line waiting. omega (arith, none (turn_at ds line), waits-there ds schedule line kept waiting)
IsWake-first ds schedule (Some turn) kept first =
    let there = turn-there ds schedule turn kept first.0 in
    (λ line waiting. (first.1 (turn_at ds line) (waits-there ds schedule line kept waiting)).due, (turn.line, there.0, there.1))
